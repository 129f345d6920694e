-- What enters by the deeds of a publication and of a granted filter: the queued copies, each once.
use Rattle.std.proofs.Common.{◌≡◌, ℕ, suc, ◌≤◌, Bool, true, false, cond, not, ◌&&◌, inl, inr, List, [], ◌∷◌, ◌++◌, map, filter, length, Option, Some, None, refl, sym, ap, subst, ◌∙◌, append_assoc, append-nil, arith}
use Rattle.std.specs.Prelude.{⊤, is_some, flat_map, filter_map}
use Rattle.std.specs.List.{AllByRecursion, cons_option}
use Rattle.std.proofs.lemmas.Bool.{cases_Bool}
use Rattle.std.proofs.lemmas.Cmp.{nat_eq_equiv}
use Rattle.std.proofs.lemmas.List.Elements.{filter_map-append}
use Rattle.mqtt_base.specs.declared.session.CopyId.{CopyId}
use Rattle.mqtt_packet.specs.declared.codec.packet.Packet.{Packet}
use Rattle.mqtt_topic.specs.names.Names.{is_empty}
use Rattle.mqtt_flow.specs.outbound.Outbound.{way_made}
use Rattle.mqtt_flow.specs.declared.outbound.entry.Turn.{Turn}
use Rattle.mqtt_flow.specs.declared.outbound.entry.Turn.TheVariants as turns
use Rattle.mqtt_records.specs.declared.messages.message.MessageCopy.{MessageCopy}
use Rattle.mqtt_records.specs.declared.messages.message.RetainedMessage.{RetainedMessage}
use Rattle.mqtt_records.specs.messages.Queue.{CopyRow}
use Rattle.mqtt_records.specs.declared.state.session.Session.{Session}
use Rattle.mqtt_records.specs.declared.state.records.Records.{Records}
use Rattle.mqtt_records.specs.state.Session.{copy_place}
use Rattle.mqtt_records.specs.lists.Order.{row_at}
use Rattle.mqtt_rules.specs.step.Packets.{publish_of}
use Rattle.mqtt_rules.specs.step.State.{Line, Broker, Env, session_at, line_of, queue_on}
use Rattle.mqtt_rules.specs.step.Deeds.{whose, Message, Origin, Subscribe, Open, Enter, Leave, Deed, Accept, Begin, Count, At, Keep, after, after_all, always, series, with_session, offer}
use Rattle.mqtt_rules.specs.step.Fitting.{has_form, offer_copy}
use Rattle.mqtt_rules.specs.step.Outbound.{of_entry, leave_deeds, since, queue_limits, enter_deeds, room_at}
use Rattle.mqtt_rules.specs.step.Routing.{CopyTo, is_queued, deliver_by, deliver, retained_of, forgets, retain_by, next_publication, accepted_copies, publish}
use Rattle.mqtt_routes.specs.routing.Retained.{kept_for}
use Rattle.mqtt_topic.specs.names.Filters.{begins_share}
use Rattle.mqtt_rules.specs.step.Subscribe as sub
use Rattle.mqtt_rules.proofs.step_lemmas.acts.Offers.{of_offer, of_offer_if}
use Rattle.mqtt_rules.proofs.step_lemmas.acts.Acts.{brought_to}
use Rattle.mqtt_rules.proofs.step_lemmas.numbers.Copies.{each_flat}
use Rattle.mqtt_rules.proofs.step_lemmas.order.OrderedAccepted.{is_to, accepted_within}
use Rattle.mqtt_rules.proofs.step_lemmas.fit.StandLaw.{Orders}
use Rattle.mqtt_world_model.specs.model.Run.{entered_in}
use Rattle.mqtt_world_laws.specs.acceptance.Entries.{moments_of, id_of, queued_ids, ids_if, retained_ids, brings, brings_at}
use Rattle.mqtt_world_laws.proofs.acceptance_lemmas.copies.Here.{Has, AreFor, for_enter, for_stays}

-- ---- what enters by deeds, and what they bring

abbrev pub entered : List Deed → List CopyId
entered ds = filter_map entered_in ds

abbrev pub brought_by : Env → List Deed → Broker → List CopyId
brought_by env ds b = flat_map brings_at (moments_of env ds b)

abbrev pub Tells : Env → List Deed → Broker → Type 0
Tells env ds b = entered ds ≡ brought_by env ds b

-- two lists of deeds enter the copies of both
pub entered_append : (xs ys : List Deed) → entered (xs ++ ys) ≡ entered xs ++ entered ys
entered_append xs ys = filter_map-append entered_in xs ys

brought_append : (env : Env) (xs ys : List Deed) (b : Broker) → brought_by env (xs ++ ys) b ≡ brought_by env xs b ++ brought_by env ys (after_all xs b)
brought_append env [] ys b = refl
brought_append env (x ∷ xs) ys b =
    ap (λ (cs : List CopyId). brings env x b ++ cs) (brought_append env xs ys (after x b))
    ∙ sym (append_assoc (brings env x b) (brought_by env xs (after x b)) (brought_by env ys (after_all xs (after x b))))

-- and tell of both
pub tells_append : (env : Env) (xs ys : List Deed) (b : Broker) → Tells env xs b → Tells env ys (after_all xs b) → Tells env (xs ++ ys) b
tells_append env xs ys b p q =
    entered_append xs ys ∙ ap (λ (cs : List CopyId). cs ++ entered ys) p ∙ ap (λ (cs : List CopyId). brought_by env xs b ++ cs) q ∙ sym (brought_append env xs ys b)

-- ---- deeds that bring nothing, and those that let nothing enter either

abbrev pub IsMute : Deed → Type 0
IsMute d = (env : Env) (b : Broker) → brings env d b ≡ []

-- a deed that brings nothing, lets nothing enter, gives no number to a publication or a filter, and retains nothing
abbrev pub IsStill : Deed → Type 0
IsStill (Accept number origin m) = ⊥
IsStill (Count n) = ⊥
IsStill (Keep kept) = ⊥
IsStill (At who (Enter copy)) = ⊥
IsStill (At who (Subscribe x)) = ⊥
IsStill d = ⊤

-- and one that begins no session and opens no identifier either
abbrev pub IsCalm : Deed → Type 0
IsCalm (Begin row will) = ⊥
IsCalm (At who (Open id)) = ⊥
IsCalm d = IsStill d

abbrev AreMute : List Deed → Type 0
AreMute ds = AllByRecursion IsMute ds

abbrev pub AreStill : List Deed → Type 0
AreStill ds = AllByRecursion IsStill ds

abbrev pub AreCalm : List Deed → Type 0
AreCalm ds = AllByRecursion IsCalm ds

still : (d : Deed) → IsCalm d → IsStill d
still (Begin row will) h = absurd h
still (At who (Open id)) h = absurd h
still d h = h

-- calm deeds are still
pub stills : (ds : List Deed) → AreCalm ds → AreStill ds
stills [] h = tt
stills (d ∷ ds) h = (still d h.0, stills ds h.1)

mute : (d : Deed) → IsStill d → IsMute d
mute (Accept number origin m) h env b = absurd h
mute (Count n) h env b = absurd h
mute (Keep kept) h env b = absurd h
mute (At who (Enter copy)) h env b = absurd h
mute (At who (Subscribe x)) h env b = absurd h
mute d h env b = refl

mutes : (ds : List Deed) → AreStill ds → AreMute ds
mutes [] h = tt
mutes (d ∷ ds) h = (mute d h.0, mutes ds h.1)

-- a still deed enters no copy
pub no_entry : (d : Deed) → IsStill d → entered_in d ≡ None
no_entry (Accept number origin m) h = absurd h
no_entry (Count n) h = absurd h
no_entry (Keep kept) h = absurd h
no_entry (At who (Enter copy)) h = absurd h
no_entry (At who (Subscribe x)) h = absurd h
no_entry d h = refl

mute_append : (xs ys : List Deed) → AreMute xs → AreMute ys → AreMute (xs ++ ys)
mute_append [] ys p q = q
mute_append (x ∷ xs) ys p q = (p.0, mute_append xs ys p.1 q)

brought_none : (env : Env) (ds : List Deed) (b : Broker) → AreMute ds → brought_by env ds b ≡ []
brought_none env [] b h = refl
brought_none env (d ∷ ds) b h = ap (λ (cs : List CopyId). cs ++ brought_by env ds (after d b)) (h.0 env b) ∙ brought_none env ds (after d b) h.1

-- nor do many
pub entered_none : (ds : List Deed) → AreStill ds → entered ds ≡ []
entered_none [] h = refl
entered_none (d ∷ ds) h = ap (λ (o : Option CopyId). cons_option o (entered ds)) (no_entry d h.0) ∙ entered_none ds h.1

-- they tell of all that enters, which is nothing
pub still_tells : (env : Env) (ds : List Deed) (b : Broker) → AreStill ds → Tells env ds b
still_tells env ds b h = entered_none ds h ∙ sym (brought_none env ds b (mutes ds h))

-- ---- queues

-- a choice between calm deeds is calm
pub calm_cond : (t : Bool) (xs ys : List Deed) → AreCalm xs → AreCalm ys → AreCalm (cond t xs ys)
calm_cond true xs ys p q = p
calm_cond false xs ys p q = q

-- what is done for a copy that may stand is calm
pub calm_entry : (o : Option CopyRow) (f : CopyRow → List Deed) → ((e : CopyRow) → AreCalm (f e)) → AreCalm (of_entry o f)
calm_entry None f h = tt
calm_entry (Some e) f h = h e

-- a copy's leaving is calm
pub calm_leave : (s : Session) (t : Turn) → AreCalm (leave_deeds s t)
calm_leave s (turns.Leave place ending) = calm_entry (row_at copy_place place s.queue) (λ e. At (whose s) (Leave e ending) ∷ []) (λ e. (tt, tt))
calm_leave s (turns.Send place id) = tt
calm_leave s (turns.Resend place id) = tt
calm_leave s (turns.Release place id order) = tt
calm_leave s (turns.Outgrow place id order) = tt
calm_leave s (turns.Repeat id) = tt
calm_leave s (turns.Unknown id) = tt

-- so is that of many
pub calm_leaves : (s : Session) (ts : List Turn) → AreCalm (flat_map (leave_deeds s) ts)
calm_leaves s ts = each_flat IsCalm (leave_deeds s) (calm_leave s) ts

-- an offer to a line is calm
pub calm_offer : (o : Option Line) (packet : Packet) → AreCalm (offer o packet)
calm_offer o packet = of_offer AreCalm o packet tt (λ l there. (tt, tt))

-- so is that of a copy
pub calm_copy : (o : Option Line) (copy : MessageCopy) (b : Broker) → AreCalm (offer_copy o copy b)
calm_copy o copy b = of_offer_if AreCalm (has_form copy b) o (publish_of b.now false 0 copy) tt (λ l there. (tt, tt))

entered_once : (env : Env) (copy : MessageCopy) (s : Session) → entered (enter_deeds env copy s) ≡ copy.id ∷ []
entered_once env copy s =
    let ts = way_made (queue_limits env) (since env s) (queue_on [] s) in
    let leaves = flat_map (leave_deeds s) ts in
    entered_append leaves (At (whose s) (Enter copy) ∷ []) ∙ ap (λ (cs : List CopyId). cs ++ copy.id ∷ []) (entered_none leaves (stills leaves (calm_leaves s ts)))

mute_enter : (env : Env) (copy : MessageCopy) (s : Session) → AreMute (enter_deeds env copy s)
mute_enter env copy s =
    let ts = way_made (queue_limits env) (since env s) (queue_on [] s) in
    let leaves = flat_map (leave_deeds s) ts in
    mute_append leaves (At (whose s) (Enter copy) ∷ []) (mutes leaves (stills leaves (calm_leaves s ts))) ((λ env b. refl), tt)

-- ---- copies for sessions that stand

abbrev Stands : Records → CopyTo → Type 0
Stands r d = is_queued d ≡ true → Has d.birth r

abbrev pub AllStand : List CopyTo → Records → Type 0
AllStand ds r = AllByRecursion (Stands r) ds

stay : (ds : List CopyTo) (r q : Records) → ((k : ℕ) → Has k r → Has k q) → AllStand ds r → AllStand ds q
stay [] r q keeps h = tt
stay (d ∷ ds) r q keeps h = ((λ is. keeps d.birth (h.0 is)), stay ds r q keeps h.1)

for_copy : (k : ℕ) (o : Option Line) (copy : MessageCopy) (b : Broker) → AreFor k (offer_copy o copy b)
for_copy k o copy b = of_offer_if (AreFor k) (has_form copy b) o (publish_of b.now false 0 copy) tt (λ l there. (tt, tt))

-- what a delivery lets enter, that it brings nothing, and that it ends no session
pub record Delivers (t : Bool) (env : Env) (d : CopyTo) (b : Broker) : Type 0 where
  pub lets_in : entered (deliver_by t env d b) ≡ cond t (id_of d ∷ []) []
  pub brings_none : AreMute (deliver_by t env d b)
  pub keeps : (k : ℕ) → Has k b.records → Has k (after_all (deliver_by t env d b) b).records

delivers_to : (env : Env) (d : CopyTo) (b : Broker) → Has d.birth b.records → Delivers true env d b
delivers_to env d b has = by (session_at d.birth b.records) refl
  where
    by : (o : Option Session) → session_at d.birth b.records ≡ o → Delivers true env d b
    by None e = absurd (let no : false ≡ true = sym (ap is_some e) ∙ has in absurd cc)
    by (Some s) e =
        let acts : deliver_by true env d b ≡ enter_deeds env d.copy s = ap (λ (o : Option Session). with_session o (λ s. always (enter_deeds env d.copy s)) b) e in
        record {
          lets_in = ap entered acts ∙ entered_once env d.copy s;
          brings_none = subst AreMute (sym acts) (mute_enter env d.copy s);
          keeps = λ k h. subst (λ (ds : List Deed). Has k (after_all ds b).records) (sym acts) (for_stays k s.birth (enter_deeds env d.copy s) b (for_enter env d.copy s) h);
        }

delivers : (t : Bool) (env : Env) (d : CopyTo) (b : Broker) → (t ≡ true → Has d.birth b.records) → Delivers t env d b
delivers true env d b has = delivers_to env d b (has refl)
delivers false env d b has =
    let o = line_of d.birth b in
    let ds = offer_copy o d.copy b in
    let calm = stills ds (calm_copy o d.copy b) in
    record {
      lets_in = entered_none ds calm;
      brings_none = mutes ds calm;
      keeps = λ k h. for_stays k 0 ds b (for_copy 0 o d.copy b) h;
    }

-- and all of them
pub record DeliverAll (env : Env) (ds : List CopyTo) (b : Broker) : Type 0 where
  pub let_in : entered (series (map (deliver env) ds) b) ≡ queued_ids ds
  pub bring_none : AreMute (series (map (deliver env) ds) b)

one_more : (t : Bool) (d : CopyTo) (ds : List CopyTo) → cond t (id_of d ∷ []) [] ++ queued_ids ds ≡ map id_of (cond t (d ∷ filter is_queued ds) (filter is_queued ds))
one_more true d ds = refl
one_more false d ds = refl

deliver_all : (env : Env) (ds : List CopyTo) (b : Broker) → AllStand ds b.records → DeliverAll env ds b
deliver_all env [] b h = record { let_in = refl; bring_none = tt }
deliver_all env (d ∷ ds) b h =
    let first = deliver env d b in
    let c = after_all first b in
    let x = delivers (is_queued d) env d b h.0 in
    let more = deliver_all env ds c (stay ds b.records c.records x.keeps h.1) in
    let rest = series (map (deliver env) ds) c in
    record {
      let_in = entered_append first rest ∙ ap (λ (cs : List CopyId). cs ++ entered rest) x.lets_in
          ∙ ap (λ (cs : List CopyId). cond (is_queued d) (id_of d ∷ []) [] ++ cs) more.let_in ∙ one_more (is_queued d) d ds;
      bring_none = mute_append first rest x.brings_none more.bring_none;
    }

-- ---- the copies of an accepted publication are for sessions that stand, since there is room for them

one_to : (d : CopyTo) (ds : List CopyTo) → is_queued d ≡ true → length (filter (is_to d.birth) (d ∷ ds)) ≡ suc (length (filter (is_to d.birth) ds))
one_to d ds is = let same = nat_eq_equiv.refl d.birth in rw is (rw same refl)

fewer : (k : ℕ) (d : CopyTo) (ds : List CopyTo) → length (filter (is_to k) ds) ≤ length (filter (is_to k) (d ∷ ds))
fewer k d ds = by (is_to k d)
  where
    by : (t : Bool) → length (filter (is_to k) ds) ≤ length (cond t (d ∷ filter (is_to k) ds) (filter (is_to k) ds))
    by true = omega arith
    by false = omega arith

there : (env : Env) (n : ℕ) (o : Option Session) → 1 ≤ n → n ≤ room_at env o → is_some o ≡ true
there env n None some few = absurd (omega (arith, some, few))
there env n (Some s) some few = refl

all_stand : (env : Env) (ds : List CopyTo) (r : Records) → ((k : ℕ) → length (filter (is_to k) ds) ≤ room_at env (session_at k r)) → AllStand ds r
all_stand env [] r few = tt
all_stand env (d ∷ ds) r few = (
  (λ is. let same = one_to d ds is in there env (length (filter (is_to d.birth) (d ∷ ds))) (session_at d.birth r) (omega (arith, same)) (few d.birth)),
  all_stand env ds r (λ k. let less = fewer k d ds in let all = few k in omega (arith, less, all)),
)

-- the sessions of accepted copies stand
pub accepted_stand : (env : Env) (m : Message) (b : Broker) (ds : List CopyTo) → Orders b → accepted_copies env m b ≡ Some ds → AllStand ds b.records
accepted_stand env m b ds h e = all_stand env ds b.records (λ k. accepted_within env m b ds k e h.sessions.ascending)

-- ---- a publication

-- forgetting a retained message is calm
pub calm_forgets : (o : Option RetainedMessage) → AreCalm (forgets o)
calm_forgets None = tt
calm_forgets (Some k) = (tt, tt)

mute_retain : (retain empty : Bool) (number : ℕ) (m : Message) (b : Broker) → AreMute (retain_by retain empty number m b)
mute_retain false empty number m b = tt
mute_retain true true number m b = let o = retained_of m.topic b.records in mutes (forgets o) (stills (forgets o) (calm_forgets o))
mute_retain true false number m b = ((λ env b. refl), tt)

none_retained : (retain empty : Bool) (number : ℕ) (m : Message) (b : Broker) → entered (retain_by retain empty number m b) ≡ []
none_retained false empty number m b = refl
none_retained true true number m b = let o = retained_of m.topic b.records in entered_none (forgets o) (stills (forgets o) (calm_forgets o))
none_retained true false number m b = refl

for_forgets : (k : ℕ) (o : Option RetainedMessage) → AreFor k (forgets o)
for_forgets k None = tt
for_forgets k (Some x) = (tt, tt)

for_retain : (k : ℕ) (retain empty : Bool) (number : ℕ) (m : Message) (b : Broker) → AreFor k (retain_by retain empty number m b)
for_retain k false empty number m b = tt
for_retain k true true number m b = for_forgets k (retained_of m.topic b.records)
for_retain k true false number m b = (tt, tt)

published_all : (env : Env) (origin : Origin) (m : Message) (ds : List CopyTo) (b : Broker) → Orders b → accepted_copies env m b ≡ Some ds
    → let number = next_publication b.records in
    let c = after (Accept number origin m) b in
    DeliverAll env ds (after_all (retain_by m.retain (is_empty m.payload) number m c) c)
published_all env origin m ds b h e =
    let number = next_publication b.records in
    let c = after (Accept number origin m) b in
    let next = retain_by m.retain (is_empty m.payload) number m c in
    let d = after_all next c in
    deliver_all env ds d (stay ds b.records d.records (λ k has. for_stays k 0 next c (for_retain 0 m.retain (is_empty m.payload) number m c) has) (accepted_stand env m b ds h e))

-- a publication enters the copies that are queued
pub publish_enters : (env : Env) (origin : Origin) (m : Message) (ds : List CopyTo) (b : Broker) → Orders b → accepted_copies env m b ≡ Some ds → entered (publish env origin m ds b) ≡ queued_ids ds
publish_enters env origin m ds b h e =
    let number = next_publication b.records in
    let c = after (Accept number origin m) b in
    let next = retain_by m.retain (is_empty m.payload) number m c in
    let d = after_all next c in
    let all = series (map (deliver env) ds) d in
    entered_append next all ∙ ap (λ (cs : List CopyId). cs ++ entered all) (none_retained m.retain (is_empty m.payload) number m c) ∙ (published_all env origin m ds b h e).let_in

-- and tells of them
pub publish_tells : (env : Env) (origin : Origin) (m : Message) (ds : List CopyTo) (b : Broker) → Orders b → accepted_copies env m b ≡ Some ds → Tells env (publish env origin m ds b) b
publish_tells env origin m ds b h e =
    let number = next_publication b.records in
    let c = after (Accept number origin m) b in
    let next = retain_by m.retain (is_empty m.payload) number m c in
    let all = series (map (deliver env) ds) (after_all next c) in
    let x = published_all env origin m ds b h e in
    let none : brought_by env (next ++ all) c ≡ [] = brought_none env (next ++ all) c (mute_append next all (mute_retain m.retain (is_empty m.payload) number m c) x.bring_none) in
    let right : ids_if (accepted_copies env m b) ++ brought_by env (next ++ all) c ≡ queued_ids ds =
    ap (λ (cs : List CopyId). ids_if (accepted_copies env m b) ++ cs) none ∙ append-nil (ids_if (accepted_copies env m b)) ∙ ap ids_if e in
    publish_enters env origin m ds b h e ∙ sym right

-- ---- a filter that is granted

queued_again : (ds : List CopyTo) → queued_ids (filter is_queued ds) ≡ queued_ids ds
queued_again [] = refl
queued_again (d ∷ ds) = elim (cases_Bool (is_queued d)) [
  | inl is ↦ rw is (rw is (ap (λ (cs : List CopyId). id_of d ∷ cs) (queued_again ds)))
  | inr other ↦ rw other (queued_again ds)
]

-- the copies of retained messages are for the session itself
own_stand : (birth number : ℕ) (w : sub.Wish) (ks : List RetainedMessage) (r : Records) → Has birth r → AllStand (filter is_queued (map (sub.retained_copy_to birth number w) ks)) r
own_stand birth number w [] r has = tt
own_stand birth number w (k ∷ ks) r has = by (is_queued (sub.retained_copy_to birth number w k)) (own_stand birth number w ks r has)
  where
    by : (t : Bool) → AllStand (filter is_queued (map (sub.retained_copy_to birth number w) ks)) r
        → AllStand (cond t (sub.retained_copy_to birth number w k ∷ filter is_queued (map (sub.retained_copy_to birth number w) ks)) (filter is_queued (map (sub.retained_copy_to birth number w) ks))) r
    by true more = ((λ is. has), more)
    by false more = more

brought_stand : (t : Bool) (now number : ℕ) (s : Session) (w : sub.Wish) (ks : List RetainedMessage) (r : Records) → Has s.birth r → AllStand (filter is_queued (sub.brought_if t now number s w ks)) r
brought_stand false now number s w ks r has = tt
brought_stand true now number s w ks r has = own_stand s.birth number w (filter (sub.is_brought now s w) (map sub.message_in (kept_for w.filter (map sub.kept_of ks)))) r has

granted_all : (env : Env) (w : sub.Wish) (s : Session) (b : Broker) → session_at s.birth b.records ≡ Some s
    → DeliverAll env (filter is_queued (brought_to w s b)) (after (At (whose s) (Subscribe (sub.subscription (sub.next_number b.records) s w))) (after (Count (sub.next_number b.records)) b))
granted_all env w s b e =
    let number = sub.next_number b.records in
    let x = sub.subscription number s w in
    let c = after (Count number) b in
    let d = after (At (whose s) (Subscribe x)) c in
    let has : Has s.birth b.records = ap is_some e in
    let stays : Has s.birth d.records = for_stays s.birth s.birth (At (whose s) (Subscribe x) ∷ []) c (refl, tt) has in
    let t = not (begins_share w.filter) && sub.wants_retained w.options.retain_handling (sub.has_filter w.filter s) in
    deliver_all env (filter is_queued (brought_to w s b)) d (brought_stand t b.now number s w b.records.retained d.records stays)

-- a subscription enters the copies that it brings
pub grant_enters : (env : Env) (w : sub.Wish) (s : Session) (b : Broker) → session_at s.birth b.records ≡ Some s
    → entered (sub.granted_filter env (sub.next_number b.records) s w (brought_to w s b) b).deeds ≡ queued_ids (brought_to w s b)
grant_enters env w s b e = (granted_all env w s b e).let_in ∙ queued_again (brought_to w s b)

-- and tells of them
pub grant_tells : (env : Env) (w : sub.Wish) (s : Session) (b : Broker) → session_at s.birth b.records ≡ Some s → Tells env (sub.granted_filter env (sub.next_number b.records) s w (brought_to w s b) b).deeds b
grant_tells env w s b e =
    let number = sub.next_number b.records in
    let x = sub.subscription number s w in
    let ds = brought_to w s b in
    let c = after (Count number) b in
    let d = after (At (whose s) (Subscribe x)) c in
    let all = series (map (deliver env) (filter is_queued ds)) d in
    let it : retained_ids c x (session_at s.birth c.records) ≡ queued_ids ds = ap (retained_ids c x) e in
    let right : retained_ids c x (session_at s.birth c.records) ++ brought_by env all d ≡ queued_ids ds =
    ap (λ (cs : List CopyId). retained_ids c x (session_at s.birth c.records) ++ cs) (brought_none env all d (granted_all env w s b e).bring_none)
    ∙ append-nil (retained_ids c x (session_at s.birth c.records)) ∙ it in
    grant_enters env w s b e ∙ sym right
