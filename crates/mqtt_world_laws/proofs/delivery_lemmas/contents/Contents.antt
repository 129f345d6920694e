-- What queued copies and retained messages carry is what their publications do, from what deeds accept and let enter (MQTT 5.0, 3.3.1.3,
-- 3.3.2, 3.3.3, 3.3.4).
use Rattle.std.proofs.Common.{◌≡◌, ℕ, ◌<◌, Bool, true, false, cond, not, ◌&&◌, List, [], ◌∷◌, ◌++◌, filter, map, Option, Some, None, nat_eq, refl, sym, ap, subst, ◌∙◌, append-nil, append_assoc, inl, inr}
use Rattle.std.specs.Prelude.{⊤, filter_map, flat_map, option_map}
use Rattle.std.specs.List.{AllByRecursion}
use Rattle.std.proofs.lemmas.List.Elements.{filter_map-append}
use Rattle.mqtt_base.specs.declared.limits.TheConstants.{QUEUE_LIMIT, RETAINED_LIMIT, SESSION_LIMIT}
use Rattle.mqtt_base.specs.declared.session.Cause.{Cause}
use Rattle.mqtt_base.specs.declared.session.Cause.TheVariants.{Direct, Share}
use Rattle.mqtt_base.specs.declared.session.Phase.{Phase}
use Rattle.mqtt_packet.specs.declared.codec.publish.Delivery.{Delivery}
use Rattle.mqtt_packet.specs.declared.codec.publish.Delivery.TheVariants as delivery
use Rattle.mqtt_packet.specs.declared.connect.connect.Connect.{Connect as Greeting}
use Rattle.mqtt_flow.specs.outbound.Outbound.{way_made}
use Rattle.mqtt_records.specs.messages.Queue.{CopyRow}
use Rattle.mqtt_records.specs.declared.messages.message.RetainedMessage.{RetainedMessage}
use Rattle.mqtt_records.specs.declared.messages.message.Will.{Will}
use Rattle.mqtt_records.specs.state.Records.{changed_all, kept_place, put_session}
use Rattle.mqtt_records.specs.state.Session.{birth_of, columns_of, copy_place, fresh, in_phase, with_columns, with_copy, with_open, with_phase, with_subscription, with_will, without_copy, without_open, without_subscription}
use Rattle.mqtt_records.specs.declared.state.change.Change.{Change}
use Rattle.mqtt_records.specs.declared.state.records.Records.{Records}
use Rattle.mqtt_records.specs.declared.state.session.Columns.{Columns}
use Rattle.mqtt_records.specs.declared.state.session.Session.{Session}
use Rattle.mqtt_routes.specs.routing.Acceptance.{Routed, copies_in}
use Rattle.mqtt_routes.specs.routing.Intended.{Copy}
use Rattle.mqtt_routes.specs.routing.Retained.{kept_for}
use Rattle.mqtt_routes.specs.declared.routing.retained.Kept.{Kept}
use Rattle.mqtt_records.specs.lists.Order.{change_row, has_row, put_row}
use Rattle.mqtt_topic.specs.names.Filters.{begins_share}
use Rattle.mqtt_topic.specs.names.Names.{is_empty}
use Rattle.mqtt_rules.proofs.step_lemmas.acts.Acts.{brought_to}
use Rattle.mqtt_rules.proofs.step_lemmas.numbers.Copies.{each_all, each_append, each_filter, each_flat, each_map, each_more}
use Rattle.mqtt_rules.proofs.step_lemmas.flight.FlightRows.{all_changed, all_put}
use Rattle.mqtt_rules.proofs.step_lemmas.acts.Goods.{after_append}
use Rattle.mqtt_rules.specs.step.Deeds.{Accept, At, Begin, Close, Count, Deed, DropWill, Enter, Finish, Forget, Gone, Keep, Leave, Link, Mark, Message, Name, On, Open, Origin, Part, RefuseWill, Release, Resume, Send, SetExpiry, Subscribe, Unsubscribe, Whose, after, after_all, always, new_entry, part_rows, part_rows_of, rows_of_all, series, stored_after, whose, with_session}
use Rattle.mqtt_rules.specs.step.Connect.{begin_named}
use Rattle.mqtt_rules.specs.step.Inbound.{opens}
use Rattle.mqtt_rules.specs.step.Laws.{IsAmong}
use Rattle.mqtt_rules.specs.step.Outbound.{enter_deeds, leave_deeds, queue_limits, since}
use Rattle.mqtt_rules.proofs.step_lemmas.acts.Offers.{of_offer_if}
use Rattle.mqtt_rules.specs.step.Fitting.{has_form}
use Rattle.mqtt_rules.specs.step.Packets.{publish_of}
use Rattle.mqtt_rules.specs.step.Routing.{CopyTo, accepted_copies, accepted_if, copies_to, copy_to, deliver, deliver_by, finds_place, forgets, is_queued, next_publication, publish, retain_by, retained_of, routing_of, served_copies_to}
use Rattle.mqtt_rules.specs.step.State.{Broker, Env, Line, line_of, queue_on, session_at}
use Rattle.mqtt_rules.specs.step.Step.{at_moment, deeds, env_of, opening, unopened, with_moment}
use Rattle.mqtt_rules.specs.step.Subscribe as sub
use Rattle.mqtt_rules.specs.declared.step.Capacity.{Capacity}
use Rattle.mqtt_world_laws.proofs.acceptance_lemmas.copies.EachAct.{Says, call_says, opening_says, whatever}
use Rattle.mqtt_world_laws.proofs.acceptance_lemmas.copies.Entering.{AreCalm, IsCalm, calm_forgets, calm_leaves}
use Rattle.mqtt_world_laws.proofs.acceptance_lemmas.copies.Walks.{Walk}

-- ---- what was accepted, by its number

-- a publication that was accepted, with its number
pub record Numbered : Type 0 where
  pub number : ℕ
  pub message : Message

abbrev pub accepted_in : Deed → Option Numbered
accepted_in (Accept number origin m) = Some (record { number = number; message = m })
accepted_in d = None

abbrev pub accepted : List Deed → List Numbered
accepted ds = filter_map accepted_in ds

-- one of these has this number, and carries this
pub record IsSaid (xs : List Numbered) (number : ℕ) (topic payload : List ℕ) : Type 0 where
  pub said : Numbered
  pub among : IsAmong said xs
  pub number_is : said.number ≡ number
  pub topic_is : said.message.topic ≡ topic
  pub payload_is : said.message.payload ≡ payload

-- so is what has a number above the first ones, which were given before
abbrev pub SaidAbove : ℕ → List Numbered → ℕ → List ℕ → List ℕ → Type 0
SaidAbove base xs number topic payload = base < number → IsSaid xs number topic payload

-- the copies that stand in a queue, and the retained messages
abbrev pub RowSaid : ℕ → List Numbered → CopyRow → Type 0
RowSaid base xs e = SaidAbove base xs e.copy.id.publication e.copy.content.topic e.copy.content.payload

abbrev pub QueueSaid : ℕ → List Numbered → Session → Type 0
QueueSaid base xs s = AllByRecursion (RowSaid base xs) s.queue

abbrev pub KeptSaid : ℕ → List Numbered → RetainedMessage → Type 0
KeptSaid base xs k = SaidAbove base xs k.publication k.content.topic k.content.payload

-- each queued copy and each retained message carries what its publication does
pub record AllSaid (base : ℕ) (xs : List Numbered) (r : Records) : Type 0 where
  pub queues : AllByRecursion (QueueSaid base xs) r.sessions
  pub retained : AllByRecursion (KeptSaid base xs) r.retained

-- ---- with more that was accepted

among_more : (x : Numbered) (xs ys : List Numbered) → IsAmong x xs → IsAmong x (xs ++ ys)
among_more x [] ys h = absurd h
among_more x (y ∷ xs) ys h = elim h [ inl it ↦ inl it | inr more ↦ inr (among_more x xs ys more) ]

among_behind : (x : Numbered) (xs ys : List Numbered) → IsAmong x ys → IsAmong x (xs ++ ys)
among_behind x [] ys h = h
among_behind x (y ∷ xs) ys h = inr (among_behind x xs ys h)

-- what was said stays said if more is
pub said_more : (base : ℕ) (xs ys : List Numbered) (number : ℕ) (topic payload : List ℕ) → SaidAbove base xs number topic payload → SaidAbove base (xs ++ ys) number topic payload
said_more base xs ys number topic payload h above =
    let x = h above in
    record { said = x.said; among = among_more x.said xs ys x.among; number_is = x.number_is; topic_is = x.topic_is; payload_is = x.payload_is }

-- for all copies
pub all_said_more : (base : ℕ) (xs ys : List Numbered) (r : Records) → AllSaid base xs r → AllSaid base (xs ++ ys) r
all_said_more base xs ys r h = record {
  queues = each_more (QueueSaid base xs) (QueueSaid base (xs ++ ys)) (λ s q. each_more (RowSaid base xs) (RowSaid base (xs ++ ys)) (λ e x. said_more base xs ys e.copy.id.publication e.copy.content.topic e.copy.content.payload x) s.queue q) r.sessions h.queues;
  retained = each_more (KeptSaid base xs) (KeptSaid base (xs ++ ys)) (λ k x. said_more base xs ys k.publication k.content.topic k.content.payload x) r.retained h.retained;
}

-- ---- deeds: what they let enter and retain is said

module _ (base : ℕ) (xs : List Numbered) where
  abbrev pub BringsSaid : Deed → Type 0
  BringsSaid (At who (Enter copy)) = SaidAbove base xs copy.id.publication copy.content.topic copy.content.payload
  BringsSaid (Keep kept) = KeptSaid base xs kept
  BringsSaid d = ⊤

  abbrev pub BringSaid : List Deed → Type 0
  BringSaid ds = AllByRecursion BringsSaid ds

  abbrev AreSaid : List Session → Type 0
  AreSaid ss = AllByRecursion (QueueSaid base xs) ss

  abbrev Q : Session → Type 0
  Q = QueueSaid base xs

  row_change : (place : ℕ) (phase : Phase) (rows : List CopyRow) → AllByRecursion (RowSaid base xs) rows → AllByRecursion (RowSaid base xs) (change_row copy_place place (in_phase phase) rows)
  row_change place phase rows h = all_changed copy_place (RowSaid base xs) place (in_phase phase) rows (λ e q. q) h

  part_said : (who : Whose) (part : Part) (s : Session) (r : Records) → BringsSaid (At who part) → AreSaid r.sessions → AreSaid (changed_all (part_rows part s) r).sessions
  part_said who (Resume expiry None) s r q h = all_changed birth_of Q s.birth (with_will None) _ (λ y x. x) (all_changed birth_of Q s.birth (with_columns (record (columns_of s) { expiry = expiry; closed = None })) r.sessions (λ y x. x) h)
  part_said who (Resume expiry (Some w)) s r q h = all_changed birth_of Q s.birth (with_will (Some w)) _ (λ y x. x) (all_changed birth_of Q s.birth (with_columns (record (columns_of s) { expiry = expiry; closed = None })) r.sessions (λ y x. x) h)
  part_said who (Close moment) s r q h = all_changed birth_of Q s.birth (with_columns (record (columns_of s) { closed = Some moment })) r.sessions (λ y x. x) h
  part_said who (SetExpiry expiry) s r q h = all_changed birth_of Q s.birth (with_columns (record (columns_of s) { expiry = expiry })) r.sessions (λ y x. x) h
  part_said who DropWill s r q h = all_changed birth_of Q s.birth (with_will None) r.sessions (λ y x. x) h
  part_said who (Subscribe x) s r q h = all_changed birth_of Q s.birth (with_subscription x) r.sessions (λ y z. z) h
  part_said who (Unsubscribe text) s r q h = all_changed birth_of Q s.birth (without_subscription text) r.sessions (λ y x. x) h
  part_said who (Open id) s r q h = all_changed birth_of Q s.birth (with_open id) r.sessions (λ y x. x) h
  part_said who (Release id) s r q h = all_changed birth_of Q s.birth (without_open id) r.sessions (λ y x. x) h
  part_said who (Enter copy) s r q h = all_changed birth_of Q s.birth (with_copy (new_entry copy s.queue)) r.sessions (λ y x. all_put copy_place (RowSaid base xs) QUEUE_LIMIT (new_entry copy s.queue) y.queue q x) h
  part_said who (Mark place phase) s r q h = all_changed birth_of Q s.birth (with_phase place phase) r.sessions (λ y x. row_change place phase y.queue x) h
  part_said who (Leave e ending) s r q h = all_changed birth_of Q s.birth (without_copy e.place) r.sessions (λ y x. each_filter (RowSaid base xs) (λ (row : CopyRow). not (nat_eq (copy_place row) e.place)) y.queue x) h

  part_kept : (part : Part) (s : Session) (r : Records) → (changed_all (part_rows part s) r).retained ≡ r.retained
  part_kept (Resume expiry None) s r = refl
  part_kept (Resume expiry (Some w)) s r = refl
  part_kept part s r = refl

  at_said : (who : Whose) (part : Part) (o : Option Session) (r : Records) → BringsSaid (At who part) → AllSaid base xs r → AllSaid base xs (changed_all (part_rows_of part o) r)
  at_said who part None r q h = h
  at_said who part (Some s) r q h = record { queues = part_said who part s r q h.queues; retained = subst (AllByRecursion (KeptSaid base xs)) (sym (part_kept part s r)) h.retained }

  put_said : (row : Columns) (ss : List Session) → AreSaid ss → AreSaid (put_session row ss)
  put_said row ss h = by (has_row birth_of row.birth ss)
    where
      by : (t : Bool) → AreSaid (cond t (change_row birth_of row.birth (with_columns row) ss) (put_row birth_of SESSION_LIMIT (fresh row) ss))
      by true = all_changed birth_of Q row.birth (with_columns row) ss (λ y x. x) h
      by false = all_put birth_of Q SESSION_LIMIT (fresh row) ss tt h

  begun_said : (row : Columns) (will : Option Will) (r : Records) → AllSaid base xs r → AllSaid base xs (stored_after (Begin row will) r)
  begun_said row None r h = record { queues = put_said row r.sessions h.queues; retained = h.retained }
  begun_said row (Some w) r h = record { queues = all_changed birth_of Q row.birth (with_will (Some w)) _ (λ y x. x) (put_said row r.sessions h.queues); retained = h.retained }

  deed_said : (d : Deed) (b : Broker) → BringsSaid d → AllSaid base xs b.records → AllSaid base xs (after d b).records
  deed_said (At who part) b q h = at_said who part (session_at who.birth b.records) b.records q h
  deed_said (Begin row will) b q h = begun_said row will b.records h
  deed_said (Finish who) b q h = record { queues = each_filter Q (λ (s : Session). not (nat_eq (birth_of s) who.birth)) b.records.sessions h.queues; retained = h.retained }
  deed_said (Keep kept) b q h = record { queues = h.queues; retained = all_put kept_place (KeptSaid base xs) RETAINED_LIMIT kept b.records.retained q h.retained }
  deed_said (Forget place) b q h = record { queues = h.queues; retained = each_filter (KeptSaid base xs) (λ (k : RetainedMessage). not (nat_eq (kept_place k) place)) b.records.retained h.retained }
  deed_said (Accept number origin m) b q h = record { queues = h.queues; retained = h.retained }
  deed_said (Name n) b q h = record { queues = h.queues; retained = h.retained }
  deed_said (Count n) b q h = record { queues = h.queues; retained = h.retained }
  deed_said (RefuseWill who) b q h = record { queues = h.queues; retained = h.retained }
  deed_said (Link n) b q h = record { queues = h.queues; retained = h.retained }
  deed_said (On n part) b q h = record { queues = h.queues; retained = h.retained }
  deed_said (Send n packet) b q h = record { queues = h.queues; retained = h.retained }
  deed_said (Gone n) b q h = record { queues = h.queues; retained = h.retained }

  deeds_said : (ds : List Deed) (b : Broker) → BringSaid ds → AllSaid base xs b.records → AllSaid base xs (after_all ds b).records
  deeds_said [] b q h = h
  deeds_said (d ∷ ds) b q h = deeds_said ds (after d b) q.1 (deed_said d b q.0 h)

  -- the moment that is stored behind the deeds leaves each copy and each retained message with its content
  pub done_said : (rows : List Change) (b : Broker) → AllSaid base xs b.records → AllSaid base xs (with_moment rows b).records
  done_said [] b h = h
  done_said (row ∷ rows) b h = record { queues = h.queues; retained = h.retained }

  -- ---- deeds that let nothing enter and retain nothing

  calm_brings : (d : Deed) → IsCalm d → BringsSaid d
  calm_brings (At who (Enter copy)) h = absurd h
  calm_brings (Keep kept) h = absurd h
  calm_brings d h = tt

  all_calm : (ds : List Deed) → AreCalm ds → BringSaid ds
  all_calm ds h = each_more IsCalm BringsSaid calm_brings ds h

  -- ---- copies that enter

  abbrev CopySaid : CopyTo → Type 0
  CopySaid d = SaidAbove base xs d.copy.id.publication d.copy.content.topic d.copy.content.payload

  enter_said : (env : Env) (d : CopyTo) (s : Session) → CopySaid d → BringSaid (enter_deeds env d.copy s)
  enter_said env d s h =
      let ts = way_made (queue_limits env) (since env s) (queue_on [] s) in
      each_append BringsSaid (flat_map (leave_deeds s) ts) (At (whose s) (Enter d.copy) ∷ []) (all_calm (flat_map (leave_deeds s) ts) (calm_leaves s ts)) (h, tt)

  deliver_said : (t : Bool) (env : Env) (d : CopyTo) (b : Broker) → CopySaid d → BringSaid (deliver_by t env d b)
  deliver_said true env d b h = by (session_at d.birth b.records)
    where
      by : (o : Option Session) → BringSaid (with_session o (λ s. always (enter_deeds env d.copy s)) b)
      by None = tt
      by (Some s) = enter_said env d s h
  deliver_said false env d b h = of_offer_if BringSaid (has_form d.copy b) (line_of d.birth b) (publish_of b.now false 0 d.copy) tt (λ l there. (tt, tt))

  deliveries_said : (env : Env) (ds : List CopyTo) (b : Broker) → AllByRecursion CopySaid ds → BringSaid (series (map (deliver env) ds) b)
  deliveries_said env [] b h = tt
  deliveries_said env (d ∷ ds) b h =
      let first = deliver env d b in
      let c = after_all first b in
      each_append BringsSaid first (series (map (deliver env) ds) c) (deliver_said (is_queued d) env d b h.0) (deliveries_said env ds c h.1)

  retain_said : (retain empty : Bool) (number : ℕ) (m : Message) (b : Broker) → SaidAbove base xs number m.topic m.payload → BringSaid (retain_by retain empty number m b)
  retain_said false empty number m b h = tt
  retain_said true true number m b h = all_calm (forgets (retained_of m.topic b.records)) (calm_forgets (retained_of m.topic b.records))
  retain_said true false number m b h = (h, tt)

-- ---- the copies of a publication carry what it does

-- of the publication with this number
record IsOfMessage (number : ℕ) (m : Message) (d : CopyTo) : Type 0 where
  publication : d.copy.id.publication ≡ number
  topic : d.copy.content.topic ≡ m.topic
  payload : d.copy.content.payload ≡ m.payload

routed_copies : (number now : ℕ) (m : Message) (cause : Cause) (cs : List Copy) → AllByRecursion (IsOfMessage number m) (map (copy_to number now m cause) cs)
routed_copies number now m cause cs =
    each_map (IsOfMessage number m) (copy_to number now m cause) cs (each_all (λ (c : Copy). IsOfMessage number m (copy_to number now m cause c)) (λ c. record { publication = refl; topic = refl; payload = refl }) cs)

routed_all : (number now : ℕ) (m : Message) (r : Routed) → AllByRecursion (IsOfMessage number m) (copies_to number now m r)
routed_all number now m r =
    each_append (IsOfMessage number m) (map (copy_to number now m Direct) r.direct) (flat_map (served_copies_to number now m) r.served) (routed_copies number now m Direct r.direct)
    (each_flat (IsOfMessage number m) (served_copies_to number now m) (λ s. routed_copies number now m (Share s.group) (copies_in s.copy)) r.served)

routed_if : (t : Bool) (number now : ℕ) (m : Message) (o : Option Routed) (ds : List CopyTo) → accepted_if t (option_map (copies_to number now m) o) ≡ Some ds → AllByRecursion (IsOfMessage number m) ds
routed_if false number now m o ds e = absurd cc
routed_if true number now m None ds e = absurd cc
routed_if true number now m (Some r) ds e = let same : copies_to number now m r ≡ ds = cc in subst (AllByRecursion (IsOfMessage number m)) same (routed_all number now m r)

accepted_all : (env : Env) (m : Message) (b : Broker) (ds : List CopyTo) → accepted_copies env m b ≡ Some ds → AllByRecursion (IsOfMessage (next_publication b.records) m) ds
accepted_all env m b ds e = routed_if (finds_place env m b.records) (next_publication b.records) b.now m (routing_of env m b.records) ds e

-- ---- those that a filter brings carry what the retained messages do

brought_said : (base : ℕ) (xs : List Numbered) (t : Bool) (now number : ℕ) (s : Session) (w : sub.Wish) (ks : List RetainedMessage) → AllByRecursion (KeptSaid base xs) ks → AllByRecursion (CopySaid base xs) (sub.brought_if t now number s w ks)
brought_said base xs false now number s w ks h = tt
brought_said base xs true now number s w ks h =
    let mine : RetainedMessage → Type 0 = KeptSaid base xs in
    let tabled = each_map (λ (y : Kept RetainedMessage). mine (sub.message_in y)) sub.kept_of ks h in
    let matched = each_filter (λ (y : Kept RetainedMessage). mine (sub.message_in y)) _ (map sub.kept_of ks) tabled in
    let messages = each_map mine sub.message_in (kept_for w.filter (map sub.kept_of ks)) matched in
    let fit = each_filter mine (sub.is_brought now s w) (map sub.message_in (kept_for w.filter (map sub.kept_of ks))) messages in
    each_map (CopySaid base xs) (sub.retained_copy_to s.birth number w) (filter (sub.is_brought now s w) (map sub.message_in (kept_for w.filter (map sub.kept_of ks)))) fit

-- ---- each call, and each opening

module _ (base : ℕ) where
  -- whatever was accepted before, and with what these deeds accept
  abbrev pub Tell : List Deed → Broker → Type 0
  Tell ds b = (before : List Numbered) → AllSaid base before b.records → AllSaid base (before ++ accepted ds) (after_all ds b).records

  quiet_tells : (ds : List Deed) (b : Broker) → ((all : List Numbered) → BringSaid base all ds) → Tell ds b
  quiet_tells ds b h before k =
      let all = before ++ accepted ds in
      deeds_said base all ds b (h all) (all_said_more base before (accepted ds) b.records k)

  tell_next : (xs ys : List Deed) (b : Broker) → Tell xs b → Tell ys (after_all xs b) → Tell (xs ++ ys) b
  tell_next xs ys b p q before k =
      let both = q (before ++ accepted xs) (p before k) in
      subst (λ (all : List Numbered). AllSaid base all (after_all (xs ++ ys) b).records)
      (append_assoc before (accepted xs) (accepted ys) ∙ ap (λ (more : List Numbered). before ++ more) (sym (filter_map-append accepted_in xs ys)))
      (subst (λ (c : Broker). AllSaid base ((before ++ accepted xs) ++ accepted ys) c.records) (sym (after_append xs ys b)) both)

  said_now : (before more : List Numbered) (number : ℕ) (m : Message) → SaidAbove base (before ++ record { number = number; message = m } ∷ more) number m.topic m.payload
  said_now before more number m above = record { said = record { number = number; message = m }; among = among_behind _ before _ (inl refl); number_is = refl; topic_is = refl; payload_is = refl }

  publish_tells : (env : Env) (origin : Origin) (m : Message) (ds : List CopyTo) (b : Broker) → accepted_copies env m b ≡ Some ds → Tell (publish env origin m ds b) b
  publish_tells env origin m ds b e before k =
      let number = next_publication b.records in
      let c = after (Accept number origin m) b in
      let next = retain_by m.retain (is_empty m.payload) number m c in
      let last = series (map (deliver env) ds) (after_all next c) in
      let all = before ++ accepted (publish env origin m ds b) in
      let now = said_now before (accepted (next ++ last)) number m in
      let copies = each_more (IsOfMessage number m) (CopySaid base all) (λ d q above.
      let x = now (subst (λ (n : ℕ). base < n) q.publication above) in
      record { said = x.said; among = x.among; number_is = x.number_is ∙ sym q.publication; topic_is = x.topic_is ∙ sym q.topic; payload_is = x.payload_is ∙ sym q.payload }) ds (accepted_all env m b ds e) in
      deeds_said base all (publish env origin m ds b) b
      (tt, each_append (BringsSaid base all) next last (retain_said base all m.retain (is_empty m.payload) number m c now) (deliveries_said base all env ds (after_all next c) copies))
      (all_said_more base before (accepted (publish env origin m ds b)) b.records k)

  grants_tell : (env : Env) (w : sub.Wish) (s : Session) (b : Broker) → Tell (sub.granted_filter env (sub.next_number b.records) s w (brought_to w s b) b).deeds b
  grants_tell env w s b before k =
      let number = sub.next_number b.records in
      let first : List Deed = Count number ∷ At (whose s) (Subscribe (sub.subscription number s w)) ∷ [] in
      let queued = filter is_queued (brought_to w s b) in
      let last = series (map (deliver env) queued) (after_all first b) in
      let all = before ++ accepted (first ++ last) in
      let more = all_said_more base before (accepted (first ++ last)) b.records k in
      let copies = each_filter (CopySaid base all) is_queued (brought_to w s b)
      (brought_said base all (not (begins_share w.filter) && sub.wants_retained w.options.retain_handling (sub.has_filter w.filter s)) b.now number s w b.records.retained more.retained) in
      deeds_said base all (first ++ last) b (tt, (tt, deliveries_said base all env queued (after_all first b) copies)) more

  abbrev anything : Broker → Type 0
  anything b = ⊤

  begin_brings : (all : List Numbered) (t : Bool) (l : Line) (c : Greeting) (r : Records) → BringSaid base all (begin_named t l c r)
  begin_brings all false l c r = (tt, (tt, (tt, tt)))
  begin_brings all true l c r = (tt, (tt, (tt, (tt, tt))))

  opens_bring : (all : List Numbered) (s : Session) (d : Delivery) → BringSaid base all (opens s d)
  opens_bring all s delivery.AtMostOnce = tt
  opens_bring all s (delivery.AtLeastOnce dup id) = tt
  opens_bring all s (delivery.ExactlyOnce dup id) = (tt, tt)

  telling : (env : Env) → Says env whatever anything Tell
  telling env = record {
    stays = λ ds b h. tt;
    calm = λ ds b h. quiet_tells ds b (λ all. all_calm base all ds h);
    next = tell_next;
    publish = λ origin m ds b k e. publish_tells env origin m ds b e;
    begins = λ l c r b. quiet_tells (begin_named (is_empty c.client_identifier) l c r) b (λ all. begin_brings all (is_empty c.client_identifier) l c r);
    opens = λ s p b came. quiet_tells (opens s p.delivery) b (λ all. opens_bring all s p.delivery);
    grants = λ w s b wished valid e. grants_tell env w s b;
  }

  -- ---- over the deeds of an event

  abbrev pub Keeps : List Deed → Broker → Broker → Type 0
  Keeps ds b d = (before : List Numbered) → AllSaid base before b.records → AllSaid base (before ++ accepted ds) d.records

  -- that contents are what was published is a law of every run
  pub keeping : (limits : Capacity) → Walk limits Keeps
  keeping limits = record {
    none = λ b before h. subst (λ (all : List Numbered). AllSaid base all b.records) (sym (append-nil before)) h;
    next = λ xs ys a b d p q before h.
        subst (λ (all : List Numbered). AllSaid base all d.records)
        (append_assoc before (accepted xs) (accepted ys) ∙ ap (λ (more : List Numbered). before ++ more) (sym (filter_map-append accepted_in xs ys))) (q (before ++ accepted xs) (p before h));
    unlink = λ n b d h. h;
    link = λ n b d h. h;
    call = λ choice now call b s unspent before h.
        let env = env_of limits choice b in
        let a = at_moment now b in
        let ds = deeds limits choice now call b in
        done_said base (before ++ accepted ds) (rows_of_all ds a.records) (after_all ds a)
        (call_says env whatever anything Tell (telling env) call (λ n packet e. tt) a tt before (record { queues = h.queues; retained = h.retained }));
    open_again = λ choice now b s unspent before h.
        let a = unopened now b.records in
        let env = env_of limits choice a in
        let ds = opening env a in
        done_said base (before ++ accepted ds) (rows_of_all ds a.records) (after_all ds a) (opening_says env whatever anything Tell (telling env) a tt before h);
  }
