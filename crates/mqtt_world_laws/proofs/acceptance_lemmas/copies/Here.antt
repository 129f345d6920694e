-- A copy enters and leaves the queue of a session that stands, and a session that ends has an empty queue: for each deed of
-- a step and of an opening.
use Rattle.std.proofs.Common.{◌≡◌, ℕ, suc, Bool, true, false, cond, ◌||◌, ◌⊎◌, List, [], ◌∷◌, ◌++◌, map, filter, length, Option, Some, None, nat_eq, nat_lt, refl, sym, ap, subst, ◌∙◌, arith, inl, inr}
use Rattle.std.specs.Prelude.{⊤, is_some, flat_map}
use Rattle.std.specs.List.{AllByRecursion}
use Rattle.std.proofs.lemmas.Bool.{cases_Bool, eqb-true}
use Rattle.std.proofs.lemmas.Cmp.{nat_eq_equiv}
use Rattle.mqtt_records.proofs.lists_lemmas.OrderLemmas.{apart}
use Rattle.mqtt_base.specs.declared.limits.TheConstants.{SESSION_LIMIT}
use Rattle.mqtt_base.specs.declared.session.Ending.TheVariants.{SessionEnded}
use Rattle.mqtt_base.specs.declared.session.Phase.TheVariants.{Sent}
use Rattle.mqtt_packet.specs.declared.connect.connect.Connect.{Connect as Greeting}
use Rattle.mqtt_topic.specs.names.Names.{is_empty}
use Rattle.mqtt_flow.specs.declared.outbound.entry.Turn.{Turn}
use Rattle.mqtt_flow.specs.declared.outbound.entry.Turn.TheVariants as turns
use Rattle.mqtt_flow.specs.outbound.Outbound.{way_made}
use Rattle.mqtt_records.specs.declared.messages.message.MessageCopy.{MessageCopy}
use Rattle.mqtt_records.specs.declared.messages.message.RetainedMessage.{RetainedMessage}
use Rattle.mqtt_records.specs.declared.messages.message.Will.{Will}
use Rattle.mqtt_records.specs.messages.Queue.{CopyRow}
use Rattle.mqtt_records.specs.declared.state.session.Session.{Session}
use Rattle.mqtt_records.specs.declared.state.session.Columns.{Columns}
use Rattle.mqtt_records.specs.declared.state.records.Records.{Records}
use Rattle.mqtt_records.specs.declared.state.change.Change.{Change}
use Rattle.mqtt_records.specs.declared.state.change.Change.TheVariants as change
use Rattle.mqtt_records.specs.lists.Order.{IsAbove, IsAscending, row_at, has_row, change_row, insert_row, remove_row}
use Rattle.mqtt_records.specs.state.Session.{birth_of, copy_place, with_columns, with_will, with_subscription, without_subscription, with_open, without_open, with_copy, with_phase, without_copy, fresh}
use Rattle.mqtt_records.specs.declared.state.change.Counter.{Counter}
use Rattle.mqtt_records.specs.declared.state.change.Counter.TheVariants.{Births, Publications, Subscribes, Autos, Moment}
use Rattle.mqtt_records.specs.state.Records.{changed, changed_all, put_session, in_session, with_counter}
use Rattle.mqtt_rules.specs.step.Packets.{publish_of}
use Rattle.mqtt_rules.specs.step.State.{Line, Broker, Env, session_at, line_of, queue_on}
use Rattle.mqtt_rules.specs.step.Deeds.{Whose, whose, Message, Origin, FromClient, Part, Resume, Close, SetExpiry, DropWill, Unsubscribe, Open, Release, Enter, Mark, Leave, Hear, SetAlias, Went, Deed, Accept, Begin, Name, Count, At, Finish, Keep, Forget, RefuseWill, Link, On, Send, Gone, will_row, part_rows, part_rows_of, rows_of, after, after_all, always, series}
use Rattle.mqtt_rules.specs.step.Deeds as deeds
use Rattle.mqtt_rules.specs.step.Outbound.{of_entry, leave_deeds, turn_deeds, since, queue_limits, enter_deeds}
use Rattle.mqtt_rules.specs.step.Routing.{CopyTo, is_queued, deliver_by, deliver, retained_of, forgets, retain_by, next_publication, publish}
use Rattle.mqtt_rules.specs.step.Closing.{end_session}
use Rattle.mqtt_rules.specs.step.Connect.{expiry_of, will_of, greet, begin_named}
use Rattle.mqtt_rules.specs.step.Fitting.{has_form, pump_turns}
use Rattle.mqtt_rules.specs.step.Inbound.{pump_deeds}
use Rattle.mqtt_rules.specs.step.Subscribe as sub
use Rattle.mqtt_rules.specs.step.Step.{Call, deeds_of, opening}
use Rattle.mqtt_rules.specs.step.Tick.{lapses, lapse_deeds}
use Rattle.mqtt_rules.specs.step.Laws.{IsAmong, IsOrdered}
use Rattle.mqtt_rules.proofs.step_lemmas.acts.Offers.{of_offer_if}
use Rattle.mqtt_rules.proofs.step_lemmas.acts.Goods.{AreGood, good_append, good_with_session}
use Rattle.mqtt_rules.proofs.step_lemmas.acts.Leads.{Leads}
use Rattle.mqtt_rules.proofs.step_lemmas.acts.Acts.{anyone, call_of_anyone, finds_anyone, is_alone, closing_session, closing_on, closing, brought_to, Law, leads_call, leads_opening}
use Rattle.mqtt_rules.proofs.step_lemmas.flight.FlightRows.{found_key, all_found, change_row-here}
use Rattle.mqtt_rules.proofs.step_lemmas.fit.StandLaw.{Orders, ordered_all, rising}
use Rattle.mqtt_rules.proofs.step_lemmas.fit.FitLaw.{all_among}

-- ---- what is said

abbrev pub Has : ℕ → Records → Type 0
Has k r = is_some (session_at k r) ≡ true

abbrev pub Here : Deed → Broker → Type 0
Here (At who (Enter copy)) b = Has who.birth b.records
Here (At who (Leave e ending)) b = Has who.birth b.records
Here (Finish who) b = (s : Session) → session_at who.birth b.records ≡ Some s → s.queue ≡ []
Here d b = ⊤

-- ---- deeds of one session, which it outlives

abbrev pub IsFor : ℕ → Deed → Type 0
IsFor k (At who part) = who.birth ≡ k
IsFor k (Finish who) = ⊥
IsFor k d = ⊤

abbrev pub AreFor : ℕ → List Deed → Type 0
AreFor k ds = AllByRecursion (IsFor k) ds

-- changes that end no session
abbrev IsKeeping : Change → Type 0
IsKeeping (change.RemoveSession birth) = ⊥
IsKeeping c = ⊤

changed_has : (k j : ℕ) (f : Session → Session) (ss : List Session) → ((s : Session) → birth_of (f s) ≡ birth_of s)
    → is_some (row_at birth_of k ss) ≡ true → is_some (row_at birth_of k (change_row birth_of j f ss)) ≡ true
changed_has k j f [] same h = h
changed_has k j f (s ∷ ss) same h = elim (cases_Bool (nat_eq (birth_of s) j)) [
  | inl its ↦ subst (λ (t : Bool). is_some (row_at birth_of k (cond t (f s ∷ ss) (s ∷ change_row birth_of j f ss))) ≡ true) (sym its)
      (ap (λ (n : ℕ). is_some (cond (nat_eq n k) (Some (f s)) (row_at birth_of k ss))) (same s) ∙ either (nat_eq (birth_of s) k) (f s) s (row_at birth_of k ss) h)
  | inr other ↦ subst (λ (t : Bool). is_some (row_at birth_of k (cond t (f s ∷ ss) (s ∷ change_row birth_of j f ss))) ≡ true) (sym other) (behind (nat_eq (birth_of s) k) (λ g. changed_has k j f ss same g) h)
]
  where
    either : (t : Bool) (x y : Session) (o : Option Session) → is_some (cond t (Some y) o) ≡ true → is_some (cond t (Some x) o) ≡ true
    either true x y o h = refl
    either false x y o h = h

    behind : (t : Bool) → (is_some (row_at birth_of k ss) ≡ true → is_some (row_at birth_of k (change_row birth_of j f ss)) ≡ true)
        → is_some (cond t (Some s) (row_at birth_of k ss)) ≡ true → is_some (cond t (Some s) (row_at birth_of k (change_row birth_of j f ss))) ≡ true
    behind true more h = refl
    behind false more h = more h

inserted_has : (k : ℕ) (x : Session) (ss : List Session) → is_some (row_at birth_of k ss) ≡ true → is_some (row_at birth_of k (insert_row birth_of x ss)) ≡ true
inserted_has k x [] h = absurd cc
inserted_has k x (s ∷ ss) h = by (nat_lt (birth_of x) (birth_of s)) (cases_Bool (nat_eq (birth_of x) (birth_of s))) (λ g. inserted_has k x ss g)
  where
    Goal : Bool → Bool → Type 0
    Goal t u = is_some (row_at birth_of k (cond t (x ∷ s ∷ ss) (cond u (x ∷ ss) (s ∷ insert_row birth_of x ss)))) ≡ true

    before : (t : Bool) (o : Option Session) → is_some o ≡ true → is_some (cond t (Some x) o) ≡ true
    before true o h = refl
    before false o h = h

    behind : (t : Bool) → (is_some (row_at birth_of k ss) ≡ true → is_some (row_at birth_of k (insert_row birth_of x ss)) ≡ true)
        → is_some (cond t (Some s) (row_at birth_of k ss)) ≡ true → is_some (cond t (Some s) (row_at birth_of k (insert_row birth_of x ss))) ≡ true
    behind true more h = refl
    behind false more h = more h

    instead : (t : Bool) → is_some (cond t (Some s) (row_at birth_of k ss)) ≡ true → is_some (cond t (Some x) (row_at birth_of k ss)) ≡ true
    instead true h = refl
    instead false h = h

    by : (t : Bool) → (nat_eq (birth_of x) (birth_of s) ≡ true) ⊎ (nat_eq (birth_of x) (birth_of s) ≡ false)
        → (is_some (row_at birth_of k ss) ≡ true → is_some (row_at birth_of k (insert_row birth_of x ss)) ≡ true) → Goal t (nat_eq (birth_of x) (birth_of s))
    by true u more = before (nat_eq (birth_of x) k) (row_at birth_of k (s ∷ ss)) h
    by false (inl its) more =
        let same : birth_of x ≡ birth_of s = eqb-true (birth_of x) (birth_of s) its in
        subst (Goal false) (sym its) (subst (λ (n : ℕ). is_some (cond (nat_eq n k) (Some x) (row_at birth_of k ss)) ≡ true) (sym same) (instead (nat_eq (birth_of s) k) h))
    by false (inr other) more = subst (Goal false) (sym other) (behind (nat_eq (birth_of s) k) more h)

put_has : (k : ℕ) (row : Columns) (ss : List Session) → is_some (row_at birth_of k ss) ≡ true → is_some (row_at birth_of k (put_session row ss)) ≡ true
put_has k row ss h = by (has_row birth_of row.birth ss) (has_row birth_of row.birth ss || nat_lt (length ss) SESSION_LIMIT)
  where
    by : (t u : Bool) → is_some (row_at birth_of k (cond t (change_row birth_of row.birth (with_columns row) ss) (cond u (insert_row birth_of (fresh row) ss) ss))) ≡ true
    by true u = changed_has k row.birth (with_columns row) ss (λ s. refl) h
    by false true = inserted_has k (fresh row) ss h
    by false false = h

-- a counter changes no session
pub counter_sessions : (c : Counter) (value : ℕ) (r : Records) → (with_counter c value r).sessions ≡ r.sessions
counter_sessions Births value r = refl
counter_sessions Publications value r = refl
counter_sessions Subscribes value r = refl
counter_sessions Autos value r = refl
counter_sessions Moment value r = refl

change_has : (k : ℕ) (c : Change) (r : Records) → IsKeeping c → Has k r → Has k (changed c r)
change_has k (change.SetCounter counter value) r q h = subst (λ (ss : List Session). is_some (row_at birth_of k ss) ≡ true) (sym (counter_sessions counter value r)) h
change_has k (change.PutSession row) r q h = put_has k row r.sessions h
change_has k (change.SetSession row) r q h = changed_has k row.birth (with_columns row) r.sessions (λ s. refl) h
change_has k (change.RemoveSession birth) r q h = absurd q
change_has k (change.PutWill birth will) r q h = changed_has k birth (with_will (Some will)) r.sessions (λ s. refl) h
change_has k (change.RemoveWill birth) r q h = changed_has k birth (with_will None) r.sessions (λ s. refl) h
change_has k (change.PutSubscription birth x) r q h = changed_has k birth (with_subscription x) r.sessions (λ s. refl) h
change_has k (change.RemoveSubscription birth text) r q h = changed_has k birth (without_subscription text) r.sessions (λ s. refl) h
change_has k (change.PutInbound birth id) r q h = changed_has k birth (with_open id) r.sessions (λ s. refl) h
change_has k (change.RemoveInbound birth id) r q h = changed_has k birth (without_open id) r.sessions (λ s. refl) h
change_has k (change.PutCopy birth row) r q h = changed_has k birth (with_copy row) r.sessions (λ s. refl) h
change_has k (change.SetCopy birth place phase) r q h = changed_has k birth (with_phase place phase) r.sessions (λ s. refl) h
change_has k (change.RemoveCopy birth place) r q h = changed_has k birth (without_copy place) r.sessions (λ s. refl) h
change_has k (change.PutRetained kept) r q h = h
change_has k (change.RemoveRetained place) r q h = h

changes_have : (k : ℕ) (cs : List Change) (r : Records) → AllByRecursion IsKeeping cs → Has k r → Has k (changed_all cs r)
changes_have k [] r q h = h
changes_have k (c ∷ cs) r q h = changes_have k cs (changed c r) q.1 (change_has k c r q.0 h)

will_keeping : (k : ℕ) (w : Option Will) → AllByRecursion IsKeeping (will_row k w ∷ [])
will_keeping k None = (tt, tt)
will_keeping k (Some w) = (tt, tt)

part_keeping : (part : Part) (s : Session) → AllByRecursion IsKeeping (part_rows part s)
part_keeping (Resume expiry will) s = (tt, will_keeping s.birth will)
part_keeping (Close moment) s = (tt, tt)
part_keeping (SetExpiry expiry) s = (tt, tt)
part_keeping DropWill s = (tt, tt)
part_keeping (deeds.Subscribe x) s = (tt, tt)
part_keeping (Unsubscribe text) s = (tt, tt)
part_keeping (Open id) s = (tt, tt)
part_keeping (Release id) s = (tt, tt)
part_keeping (Enter copy) s = (tt, tt)
part_keeping (Mark place phase) s = (tt, tt)
part_keeping (Leave e ending) s = (tt, tt)

part_of_keeping : (part : Part) (o : Option Session) → AllByRecursion IsKeeping (part_rows_of part o)
part_of_keeping part None = tt
part_of_keeping part (Some s) = part_keeping part s

begin_keeping : (row : Columns) (will : Option Will) → AllByRecursion IsKeeping (deeds.begin_rows row will)
begin_keeping row None = (tt, (tt, tt))
begin_keeping row (Some w) = (tt, (tt, (tt, tt)))

deed_has : (k j : ℕ) (d : Deed) (b : Broker) → IsFor j d → Has k b.records → Has k (after d b).records
deed_has k j (Accept number origin m) b q h = h
deed_has k j (Begin row will) b q h = changes_have k (deeds.begin_rows row will) b.records (begin_keeping row will) h
deed_has k j (Name n) b q h = h
deed_has k j (Count n) b q h = h
deed_has k j (At who part) b q h = changes_have k (part_rows_of part (session_at who.birth b.records)) b.records (part_of_keeping part (session_at who.birth b.records)) h
deed_has k j (Finish who) b q h = absurd q
deed_has k j (Keep kept) b q h = h
deed_has k j (Forget place) b q h = h
deed_has k j (RefuseWill who) b q h = h
deed_has k j (Link n) b q h = h
deed_has k j (On line part) b q h = h
deed_has k j (Send line packet) b q h = h
deed_has k j (Gone line) b q h = h

part_here : (who : Whose) (part : Part) (b : Broker) → Has who.birth b.records → Here (At who part) b
part_here who (Resume expiry will) b h = tt
part_here who (Close moment) b h = tt
part_here who (SetExpiry expiry) b h = tt
part_here who DropWill b h = tt
part_here who (deeds.Subscribe x) b h = tt
part_here who (Unsubscribe text) b h = tt
part_here who (Open id) b h = tt
part_here who (Release id) b h = tt
part_here who (Enter copy) b h = h
part_here who (Mark place phase) b h = tt
part_here who (Leave e ending) b h = h

deed_here : (k : ℕ) (d : Deed) (b : Broker) → IsFor k d → Has k b.records → Here d b
deed_here k (Accept number origin m) b q h = tt
deed_here k (Begin row will) b q h = tt
deed_here k (Name n) b q h = tt
deed_here k (Count n) b q h = tt
deed_here k (At who part) b q h = part_here who part b (subst (λ (n : ℕ). Has n b.records) (sym q) h)
deed_here k (Finish who) b q h = absurd q
deed_here k (Keep kept) b q h = tt
deed_here k (Forget place) b q h = tt
deed_here k (RefuseWill who) b q h = tt
deed_here k (Link n) b q h = tt
deed_here k (On line part) b q h = tt
deed_here k (Send line packet) b q h = tt
deed_here k (Gone line) b q h = tt

-- deeds for a session that stands find it
pub for_here : (k : ℕ) (ds : List Deed) (b : Broker) → AreFor k ds → Has k b.records → AreGood Here ds b
for_here k [] b q h = tt
for_here k (d ∷ ds) b q h = (deed_here k d b q.0 h, for_here k ds (after d b) q.1 (deed_has k k d b q.0 h))

for_has : (k : ℕ) (ds : List Deed) (b : Broker) → AreFor k ds → Has k b.records → Has k (after_all ds b).records
for_has k [] b q h = h
for_has k (d ∷ ds) b q h = for_has k ds (after d b) q.1 (deed_has k k d b q.0 h)

-- nor do those of one session end another
pub for_stays : (k j : ℕ) (ds : List Deed) (b : Broker) → AreFor j ds → Has k b.records → Has k (after_all ds b).records
for_stays k j [] b q h = h
for_stays k j (d ∷ ds) b q h = for_stays k j ds (after d b) q.1 (deed_has k j d b q.0 h)

-- ---- lists of deeds of one session

-- two lists for a session are for it
pub for_append : (k : ℕ) (xs ys : List Deed) → AreFor k xs → AreFor k ys → AreFor k (xs ++ ys)
for_append k [] ys p q = q
for_append k (x ∷ xs) ys p q = (p.0, for_append k xs ys p.1 q)

for_flat : {X : Type 0} (k : ℕ) (f : X → List Deed) (xs : List X) → ((x : X) → AreFor k (f x)) → AreFor k (flat_map f xs)
for_flat k f [] h = tt
for_flat k f (x ∷ xs) h = for_append k (f x) (flat_map f xs) (h x) (for_flat k f xs h)

for_entry : (k : ℕ) (o : Option CopyRow) (f : CopyRow → List Deed) → ((e : CopyRow) → AreFor k (f e)) → AreFor k (of_entry o f)
for_entry k None f h = tt
for_entry k (Some e) f h = h e

for_leave : (s : Session) (t : Turn) → AreFor s.birth (leave_deeds s t)
for_leave s (turns.Leave place ending) = for_entry s.birth (row_at copy_place place s.queue) (λ e. At (whose s) (Leave e ending) ∷ []) (λ e. (refl, tt))
for_leave s (turns.Send place id) = tt
for_leave s (turns.Resend place id) = tt
for_leave s (turns.Release place id order) = tt
for_leave s (turns.Outgrow place id order) = tt
for_leave s (turns.Repeat id) = tt
for_leave s (turns.Unknown id) = tt

for_turn : (now line : ℕ) (s : Session) (t : Turn) → AreFor s.birth (turn_deeds now line s t)
for_turn now line s (turns.Leave place ending) = for_leave s (turns.Leave place ending)
for_turn now line s (turns.Send place id) =
    for_entry s.birth (row_at copy_place place s.queue) (λ e. At (whose s) (Mark place (Sent id)) ∷ On line (Went place) ∷ Send line (publish_of now false id e.copy) ∷ []) (λ e. (refl, (tt, (tt, tt))))
for_turn now line s (turns.Resend place id) =
    for_entry s.birth (row_at copy_place place s.queue) (λ e. On line (Went place) ∷ Send line (publish_of now true id e.copy) ∷ []) (λ e. (tt, (tt, tt)))
for_turn now line s (turns.Release place id order) = (refl, (tt, tt))
for_turn now line s (turns.Outgrow place id order) = (refl, (tt, tt))
for_turn now line s (turns.Repeat id) = (tt, tt)
for_turn now line s (turns.Unknown id) = (tt, tt)

-- entering a copy is for its session
pub for_enter : (env : Env) (copy : MessageCopy) (s : Session) → AreFor s.birth (enter_deeds env copy s)
for_enter env copy s = for_append s.birth (flat_map (leave_deeds s) (way_made (queue_limits env) (since env s) (queue_on [] s))) (At (whose s) (Enter copy) ∷ []) (for_flat s.birth (leave_deeds s) (way_made (queue_limits env) (since env s) (queue_on [] s)) (for_leave s)) (refl, tt)

found_has : (k : ℕ) (s : Session) (r : Records) → session_at k r ≡ Some s → Has s.birth r
found_has k s r e = subst (λ (n : ℕ). Has n r) (sym (found_key birth_of k s r.sessions e)) (ap is_some e)

-- ---- publications

here_deliver : (t : Bool) (env : Env) (d : CopyTo) (b : Broker) → AreGood Here (deliver_by t env d b) b
here_deliver true env d b =
    good_with_session Here (session_at d.birth b.records) (λ s. always (enter_deeds env d.copy s)) b (λ s e. for_here s.birth (enter_deeds env d.copy s) b (for_enter env d.copy s) (found_has d.birth s b.records e))
here_deliver false env d b = of_offer_if (λ (ds : List Deed). AreGood Here ds b) (has_form d.copy b) (line_of d.birth b) (publish_of b.now false 0 d.copy) tt (λ l there. (tt, tt))

here_deliveries : (env : Env) (ds : List CopyTo) (b : Broker) → AreGood Here (series (map (deliver env) ds) b) b
here_deliveries env [] b = tt
here_deliveries env (d ∷ ds) b =
    let first = deliver env d b in
    let c = after_all first b in
    good_append Here first (series (map (deliver env) ds) c) b (here_deliver (is_queued d) env d b) (here_deliveries env ds c)

here_forgets : (o : Option RetainedMessage) (b : Broker) → AreGood Here (forgets o) b
here_forgets None b = tt
here_forgets (Some k) b = (tt, tt)

here_retain : (retain empty : Bool) (number : ℕ) (m : Message) (b : Broker) → AreGood Here (retain_by retain empty number m b) b
here_retain false empty number m b = tt
here_retain true true number m b = here_forgets (retained_of m.topic b.records) b
here_retain true false number m b = (tt, tt)

here_publish : (env : Env) (origin : Origin) (m : Message) (ds : List CopyTo) (b : Broker) → AreGood Here (publish env origin m ds b) b
here_publish env origin m ds b =
    let number = next_publication b.records in
    let c = after (Accept number origin m) b in
    let next = retain_by m.retain (is_empty m.payload) number m c in
    (tt, good_append Here next (series (map (deliver env) ds) (after_all next c)) c (here_retain m.retain (is_empty m.payload) number m c) (here_deliveries env ds (after_all next c)))

here_grants : (env : Env) (w : sub.Wish) (s : Session) (b : Broker) → AreGood Here (sub.granted_filter env (sub.next_number b.records) s w (brought_to w s b) b).deeds b
here_grants env w s b =
    let number = sub.next_number b.records in
    let first : List Deed = Count number ∷ At (whose s) (deeds.Subscribe (sub.subscription number s w)) ∷ [] in
    let c = after_all first b in
    good_append Here first (series (map (deliver env) (filter is_queued (brought_to w s b))) c) b (tt, (tt, tt)) (here_deliveries env (filter is_queued (brought_to w s b)) c)

-- ---- sessions

here_alone : (who : Whose) (part : Part) (b : Broker) → is_alone part ≡ true → Here (At who part) b
here_alone who (Leave e ending) b is = absurd cc
here_alone who (Enter copy) b is = absurd cc
here_alone who part b is = tt

here_closed : (keeps_will : Bool) (now : ℕ) (o : Option Session) (b : Broker) → AreGood Here (closing_session keeps_will now o) b
here_closed keeps_will now None b = tt
here_closed true now (Some s) b = (tt, tt)
here_closed false now (Some s) b = (tt, (tt, tt))

here_closing : (keeps_will : Bool) (now : ℕ) (session : Option ℕ) (r : Records) (b : Broker) → AreGood Here (closing_on keeps_will now session r) b
here_closing keeps_will now None r b = tt
here_closing keeps_will now (Some birth) r b = here_closed keeps_will now (session_at birth r) b

here_begin : (t : Bool) (l : Line) (c : Greeting) (b : Broker) → AreGood Here (begin_named t l c b.records) b
here_begin false l c b = (tt, (tt, (tt, tt)))
here_begin true l c b = (tt, (tt, (tt, (tt, tt))))

-- each copy of its queue leaves, in order, so that none is left
pub above_left : (n : ℕ) (es : List CopyRow) → IsAbove copy_place n es → remove_row copy_place n es ≡ es
above_left n [] a = refl
above_left n (e ∷ es) a = let more = a.0 in let other = apart e.place n (λ same. omega (arith, same, more)) in rw other (ap (λ (xs : List CopyRow). e ∷ xs) (above_left n es a.1))

-- the first copy leaves the others
pub first_left : (e : CopyRow) (es : List CopyRow) → IsAbove copy_place e.place es → remove_row copy_place e.place (e ∷ es) ≡ es
first_left e es a = let same = nat_eq_equiv.refl e.place in rw same (above_left e.place es a)

none_left : (s : Session) (es : List CopyRow) (b : Broker) → IsAscending copy_place es → ((t : Session) → session_at s.birth b.records ≡ Some t → t.queue ≡ es)
    → (t : Session) → session_at s.birth (after_all (map (λ e. At (whose s) (Leave e SessionEnded)) es) b).records ≡ Some t → t.queue ≡ []
none_left s [] b up is t there = is t there
none_left s (e ∷ es) b up is t there = none_left s es (after (At (whose s) (Leave e SessionEnded)) b) up.1 next t there
  where
    next : (t : Session) → session_at s.birth (after (At (whose s) (Leave e SessionEnded)) b).records ≡ Some t → t.queue ≡ es
    next t at = by (session_at s.birth b.records) refl at
      where
        by : (o : Option Session) → session_at s.birth b.records ≡ o → session_at s.birth (changed_all (part_rows_of (Leave e SessionEnded) (session_at s.birth b.records)) b.records) ≡ Some t → t.queue ≡ es
        by None none f =
            let same : session_at s.birth b.records ≡ Some t = sym (ap (λ (o : Option Session). session_at s.birth (changed_all (part_rows_of (Leave e SessionEnded) o) b.records)) none) ∙ f in
            let clash : None ≡ Some t = sym none ∙ same in
            absurd cc
        by (Some x) found f =
            let key : x.birth ≡ s.birth = found_key birth_of s.birth x b.records.sessions found in
            let rows : session_at s.birth (in_session x.birth (without_copy e.place) b.records) ≡ Some t = sym (ap (λ (o : Option Session). session_at s.birth (changed_all (part_rows_of (Leave e SessionEnded) o) b.records)) found) ∙ f in
            let here : session_at x.birth (in_session x.birth (without_copy e.place) b.records) ≡ Some (without_copy e.place x) =
            change_row-here birth_of x.birth (without_copy e.place) x b.records.sessions (λ y. refl) (ap (λ (n : ℕ). session_at n b.records) key ∙ found) in
            let both : Some (without_copy e.place x) ≡ Some t = sym here ∙ (ap (λ (n : ℕ). session_at n (in_session x.birth (without_copy e.place) b.records)) key ∙ rows) in
            let it : without_copy e.place x ≡ t = cc in
            ap (λ (y : Session). y.queue) (sym it) ∙ (ap (remove_row copy_place e.place) (is x found) ∙ first_left e es up.0)

here_end : (s : Session) (b : Broker) → IsAscending copy_place s.queue → session_at s.birth b.records ≡ Some s → AreGood Here (end_session s) b
here_end s b up there =
    let leaves = map (λ e. At (whose s) (Leave e SessionEnded)) s.queue in
    good_append Here leaves (Finish (whose s) ∷ []) b (for_here s.birth leaves b (all_for s.queue) (ap is_some there)) (none_left s s.queue b up (λ t at. same_queue t at), tt)
  where
    all_for : (es : List CopyRow) → AreFor s.birth (map (λ e. At (whose s) (Leave e SessionEnded)) es)
    all_for [] = tt
    all_for (e ∷ es) = (refl, all_for es)

    same_queue : (t : Session) → session_at s.birth b.records ≡ Some t → t.queue ≡ s.queue
    same_queue t at = let both : Some s ≡ Some t = sym there ∙ at in let it : s ≡ t = cc in ap (λ (y : Session). y.queue) (sym it)

-- ---- together

led : (ds : List Deed) (b : Broker) → Orders b → AreGood Here ds b → Leads Orders Here ds b
led ds b h good = (good, ordered_all ds b h)

stands_here : (s : Session) (b : Broker) → Orders b → IsAmong s b.records.sessions → session_at s.birth b.records ≡ Some s
stands_here s b h among = all_among (λ (x : Session). session_at x.birth b.records ≡ Some x) s b.records.sessions (all_found birth_of b.records.sessions h.sessions.ascending) among

here_law : (env : Env) → Law env anyone Orders Here
here_law env = record {
  finds = finds_anyone Orders;
  client_stays = λ client ds b h led its. tt;
  publishes = λ origin m ds b h said e. led (publish env origin m ds b) b h (here_publish env origin m ds b);
  open_id = λ s id m ds b k h its there new is. led (At (whose s) (Open id) ∷ []) (after_all (publish env FromClient m ds b) b) h (tt, tt);
  refuse_will = λ who b h its. led (RefuseWill who ∷ []) b h (tt, tt);
  alone = λ who part b h its is. led (At who part ∷ []) b h (here_alone who part b is, tt);
  closes = λ keeps_will l b h its on. led (closing keeps_will l b) b h (tt, here_closing keeps_will b.now l.session b.records (after (Gone l.number) b));
  ends = λ s b h its among may. let there = stands_here s b h among in led (end_session s) b h (here_end s b (rising s b h there) there);
  resumes = λ l c s b h its none came taken mine is prepared. led (At (whose s) (Resume (expiry_of c) (will_of c)) ∷ greet l c s.birth ∷ []) b h (tt, (tt, tt));
  begins = λ l c b h its none came taken name is room prepared. led (begin_named (is_empty c.client_identifier) l c b.records) b h (here_begin (is_empty c.client_identifier) l c b);
  grants = λ w s b h its asked granted. led (sub.granted_filter env (sub.next_number b.records) s w (brought_to w s b) b).deeds b h (here_grants env w s b);
  pumps = λ l s b h its is there. led (pump_deeds l b s) b h (for_here s.birth (pump_deeds l b s) b (for_flat s.birth (turn_deeds b.now l.number s) (pump_turns l b s) (for_turn b.now l.number s)) (ap is_some there));
  turns = λ a t l s b h its mine there is e. led (turn_deeds b.now l.number s t) b h (for_here s.birth (turn_deeds b.now l.number s t) b (for_turn b.now l.number s t) (ap is_some there));
  lapses = λ s b h among. let there = stands_here s b h among in
      led (lapse_deeds b.now s) b h (for_here s.birth (lapse_deeds b.now s) b (for_flat s.birth (leave_deeds s) (lapses b.now s) (for_leave s)) (ap is_some there));
  stale = λ k b h among. led (Forget k.place ∷ []) b h (tt, tt);
  links = λ b h can. led (Link (suc b.given) ∷ []) b h (tt, tt);
  hears = λ n b h its. led (On n Hear ∷ []) b h (tt, tt);
  sets = λ n alias topic b h its said. led (On n (SetAlias alias topic) ∷ []) b h (tt, tt);
  sends = λ n packet b h its. led (Send n packet ∷ []) b h (tt, tt);
}

-- the deeds of a call find what they speak of
pub here_call : (env : Env) (call : Call) (b : Broker) → IsOrdered b.records → AreGood Here (deeds_of env call b) b
here_call env call b h = (leads_call env anyone Orders Here (here_law env) call b h (call_of_anyone call b)).0

-- so do those of an opening
pub here_opening : (env : Env) (b : Broker) → IsOrdered b.records → AreGood Here (opening env b) b
here_opening env b h = (leads_opening env anyone Orders Here (here_law env) (λ s c g is. led (At (whose s) (Close c.now) ∷ []) c g (tt, tt)) (λ birth. tt) b h).0
