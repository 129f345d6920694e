-- In a step: a publication that is accepted has the next number and is routed on tables in order, and what deeds bring of a publication is brought by its acceptance (MQTT 5.0, 3.3.4).
use Rattle.std.proofs.Common.{◌≡◌, ℕ, Bool, true, false, cond, not, ◌&&◌, List, [], ◌∷◌, ◌++◌, map, filter, Option, Some, None, nat_eq, refl, sym, ap, subst, ◌∙◌, inl, inr}
use Rattle.std.specs.Prelude.{⊤, flat_map, filter_map}
use Rattle.std.specs.List.{AllByRecursion, cons_option}
use Rattle.std.proofs.lemmas.Bool.{cases_Bool}
use Rattle.std.proofs.lemmas.List.Elements.{filter-append}
use Rattle.mqtt_base.specs.declared.session.Cause.{Cause}
use Rattle.mqtt_base.specs.declared.session.Cause.TheVariants.{Direct, Share, Retained}
use Rattle.mqtt_base.specs.declared.session.CopyId.{CopyId}
use Rattle.mqtt_flow.specs.outbound.Outbound.{way_made}
use Rattle.mqtt_flow.specs.declared.outbound.entry.Turn.{Turn}
use Rattle.mqtt_records.specs.declared.messages.message.MessageCopy.{MessageCopy}
use Rattle.mqtt_records.specs.declared.messages.message.RetainedMessage.{RetainedMessage}
use Rattle.mqtt_records.specs.declared.state.session.Session.{Session}
use Rattle.mqtt_records.specs.declared.state.subscription.Subscription.{Subscription}
use Rattle.mqtt_routes.specs.routing.Retained.{kept_for}
use Rattle.mqtt_topic.specs.names.Filters.{begins_share}
use Rattle.mqtt_topic.specs.names.Names.{is_empty}
use Rattle.mqtt_rules.specs.step.Deeds.{whose, Message, Origin, Subscribe, Enter, Deed, Accept, Count, At, after, after_all, always, series, with_session}
use Rattle.mqtt_rules.specs.step.Fitting.{has_form}
use Rattle.mqtt_rules.specs.step.Outbound.{leave_deeds, since, queue_limits, enter_deeds}
use Rattle.mqtt_rules.specs.step.Packets.{publish_of}
use Rattle.mqtt_rules.specs.step.Routing.{CopyTo, is_queued, deliver_by, deliver, retained_of, forgets, retain_by, next_publication, accepted_copies, publish}
use Rattle.mqtt_rules.specs.step.State.{Broker, Env, session_at, line_of, queue_on}
use Rattle.mqtt_rules.specs.step.Step.{Call, deeds_of, opening}
use Rattle.mqtt_rules.specs.step.Subscribe as sub
use Rattle.mqtt_rules.proofs.step_lemmas.acts.Acts.{brought_to}
use Rattle.mqtt_rules.proofs.step_lemmas.acts.Offers.{of_offer_if}
use Rattle.mqtt_rules.proofs.step_lemmas.numbers.Copies.{IsNumbered, each_append, each_map, each_more, routed_numbered}
use Rattle.mqtt_rules.proofs.step_lemmas.order.OrderedActs.{IsPlain, ArePlain, plain_flat, plain_leave}
use Rattle.mqtt_rules.proofs.step_lemmas.fit.StandLaw.{Orders}
use Rattle.mqtt_rules.specs.step.Numbers.{publication_given}
use Rattle.mqtt_world_model.specs.model.Run.{Acceptance, accepted_by, acceptances_of}
use Rattle.mqtt_world_model.specs.model.Laws.{is_own, is_routed}
use Rattle.mqtt_world_laws.specs.acceptance.Entries.{ids_if, queued_ids, retained_ids, wish_in}
use Rattle.mqtt_world_laws.proofs.acceptance_lemmas.copies.CopiesApart.{Any, accepted_differ}
use Rattle.mqtt_world_laws.proofs.acceptance_lemmas.copies.Differ.{each_mapped}
use Rattle.mqtt_world_laws.proofs.acceptance_lemmas.copies.EachAct.{Says, call_says, opening_says, says_still, whatever}
use Rattle.mqtt_world_laws.proofs.acceptance_lemmas.copies.Entering.{IsStill, AreStill, brought_by}
use Rattle.mqtt_world_laws.proofs.acceptance_lemmas.copies.RoutedApart.{IsCauseOf, id_to}

-- ---- deeds that accept nothing

abbrev pub IsOther : Deed → Type 0
IsOther (Accept number origin m) = ⊥
IsOther d = ⊤

abbrev pub AreOther : List Deed → Type 0
AreOther ds = AllByRecursion IsOther ds

plain_other : (d : Deed) → IsPlain d → IsOther d
plain_other (Accept number origin m) h = absurd h
plain_other d h = tt

plains_other : (ds : List Deed) → ArePlain ds → AreOther ds
plains_other [] h = tt
plains_other (d ∷ ds) h = (plain_other d h.0, plains_other ds h.1)

-- a copy's leaving is no acceptance
pub leave_other : (s : Session) (t : Turn) → AreOther (leave_deeds s t)
leave_other s t = plains_other (leave_deeds s t) (plain_leave s t)

still_other : (d : Deed) → IsStill d → IsOther d
still_other (Accept number origin m) h = absurd h
still_other d h = tt

none_by : (env : Env) (d : Deed) (b : Broker) → IsOther d → accepted_by env d b ≡ None
none_by env (Accept number origin m) b h = absurd h
none_by env d b h = refl

none_of : (env : Env) (ds : List Deed) (b : Broker) → AreOther ds → acceptances_of env ds b ≡ []
none_of env [] b h = refl
none_of env (d ∷ ds) b h = ap (λ (o : Option Acceptance). cons_option o (acceptances_of env ds (after d b))) (none_by env d b h.0) ∙ none_of env ds (after d b) h.1

accepted_append : (env : Env) (xs ys : List Deed) (b : Broker) → acceptances_of env (xs ++ ys) b ≡ acceptances_of env xs b ++ acceptances_of env ys (after_all xs b)
accepted_append env [] ys b = refl
accepted_append env (x ∷ xs) ys b = by (accepted_by env x b) (accepted_append env xs ys (after x b))
  where
    by : (o : Option Acceptance) → acceptances_of env (xs ++ ys) (after x b) ≡ acceptances_of env xs (after x b) ++ acceptances_of env ys (after_all xs (after x b))
        → cons_option o (acceptances_of env (xs ++ ys) (after x b)) ≡ cons_option o (acceptances_of env xs (after x b)) ++ acceptances_of env ys (after_all xs (after x b))
    by None rest = rest
    by (Some a) rest = ap (λ (accepted : List Acceptance). a ∷ accepted) rest

-- ---- an acceptance as it comes: it has the next number, and was routed on tables in order

-- the publication has the next number, and is accepted on tables in order, in these copies
pub record IsNext (a : Acceptance) : Type 0 where
  pub number : a.number ≡ next_publication a.broker.records
  pub order : Orders a.broker
  pub copies : List CopyTo
  pub routed_is : accepted_copies a.env a.message a.broker ≡ Some copies

abbrev pub AreNext : List Acceptance → Type 0
AreNext xs = AllByRecursion IsNext xs

abbrev pub Next : Env → List Deed → Broker → Type 0
Next env ds b = AreNext (acceptances_of env ds b)

module _ (env : Env) where
  others_next : (ds : List Deed) (b : Broker) → AreOther ds → Next env ds b
  others_next ds b h = subst AreNext (sym (none_of env ds b h)) tt

  stills_next : (ds : List Deed) (b : Broker) → AreStill ds → Next env ds b
  stills_next ds b h = others_next ds b (each_more IsStill IsOther still_other ds h)

  next_then : (xs ys : List Deed) (b : Broker) → Next env xs b → Next env ys (after_all xs b) → Next env (xs ++ ys) b
  next_then xs ys b p q = subst AreNext (sym (accepted_append env xs ys b)) (each_append IsNext (acceptances_of env xs b) (acceptances_of env ys (after_all xs b)) p q)

  -- what a publication and a granted filter do behind their first deed
  other_enter : (copy : MessageCopy) (s : Session) → AreOther (enter_deeds env copy s)
  other_enter copy s =
      let ts = way_made (queue_limits env) (since env s) (queue_on [] s) in
      each_append IsOther (flat_map (leave_deeds s) ts) (At (whose s) (Enter copy) ∷ []) (plains_other (flat_map (leave_deeds s) ts) (plain_flat (leave_deeds s) (plain_leave s) ts)) (tt, tt)

  other_deliver : (t : Bool) (d : CopyTo) (b : Broker) → AreOther (deliver_by t env d b)
  other_deliver true d b = by (session_at d.birth b.records)
    where
      by : (o : Option Session) → AreOther (with_session o (λ s. always (enter_deeds env d.copy s)) b)
      by None = tt
      by (Some s) = other_enter d.copy s
  other_deliver false d b = of_offer_if AreOther (has_form d.copy b) (line_of d.birth b) (publish_of b.now false 0 d.copy) tt (λ l there. (tt, tt))

  -- handing over copies accepts nothing
  pub other_deliveries : (ds : List CopyTo) (b : Broker) → AreOther (series (map (deliver env) ds) b)
  other_deliveries [] b = tt
  other_deliveries (d ∷ ds) b =
      let first = deliver env d b in
      let c = after_all first b in
      each_append IsOther first (series (map (deliver env) ds) c) (other_deliver (is_queued d) d b) (other_deliveries ds c)

  other_forgets : (o : Option RetainedMessage) → AreOther (forgets o)
  other_forgets None = tt
  other_forgets (Some k) = (tt, tt)

  -- retaining a message accepts nothing
  pub other_retain : (retain empty : Bool) (number : ℕ) (m : Message) (b : Broker) → AreOther (retain_by retain empty number m b)
  other_retain false empty number m b = tt
  other_retain true true number m b = other_forgets (retained_of m.topic b.records)
  other_retain true false number m b = (tt, tt)

  publish_next : (origin : Origin) (m : Message) (ds : List CopyTo) (b : Broker) → Orders b → accepted_copies env m b ≡ Some ds → Next env (publish env origin m ds b) b
  publish_next origin m ds b h e =
      let number = next_publication b.records in
      let c = after (Accept number origin m) b in
      let next = retain_by m.retain (is_empty m.payload) number m c in
      let all = series (map (deliver env) ds) (after_all next c) in
      (record { number = refl; order = h; copies = ds; routed_is = e }, others_next (next ++ all) c (each_append IsOther next all (other_retain m.retain (is_empty m.payload) number m c) (other_deliveries ds (after_all next c))))

  grants_next : (w : sub.Wish) (s : Session) (b : Broker) → session_at s.birth b.records ≡ Some s → Next env (sub.granted_filter env (sub.next_number b.records) s w (brought_to w s b) b).deeds b
  grants_next w s b e =
      let number = sub.next_number b.records in
      let first : List Deed = Count number ∷ At (whose s) (Subscribe (sub.subscription number s w)) ∷ [] in
      let all = series (map (deliver env) (filter is_queued (brought_to w s b))) (after_all first b) in
      others_next (first ++ all) b (tt, (tt, other_deliveries (filter is_queued (brought_to w s b)) (after_all first b)))

  saying : Says env whatever Orders (Next env)
  saying = says_still env (Next env) stills_next next_then publish_next grants_next

  -- each publication that a call accepts has the next number
  pub call_next : (call : Call) (b : Broker) → Orders b → Next env (deeds_of env call b) b
  call_next call b h = call_says env whatever Orders (Next env) saying call (λ n packet e. tt) b h

  -- each publication that an opening accepts has the next number
  pub opening_next : (b : Broker) → Orders b → Next env (opening env b) b
  opening_next b h = opening_says env whatever Orders (Next env) saying b h

-- ---- the numbers of what is accepted are those that the deeds give

-- the numbers that are given are those of acceptances
pub numbers_are : (env : Env) (ds : List Deed) (b : Broker) → filter_map publication_given ds ≡ map (λ (a : Acceptance). a.number) (acceptances_of env ds b)
numbers_are env [] b = refl
numbers_are env (Accept number origin m ∷ ds) b = ap (λ (ns : List ℕ). number ∷ ns) (numbers_are env ds (after (Accept number origin m) b))
numbers_are env (d ∷ ds) b = numbers_are env ds (after d b)

-- ---- what a publication brings, by its number

abbrev pub its_ids : Acceptance → List CopyId
its_ids a = ids_if (accepted_copies a.env a.message a.broker)

abbrev pub own_ids : ℕ → Acceptance → List CopyId
own_ids n a = cond (nat_eq a.number n) (its_ids a) []

-- a copy of the publication of this number, not of a retained message
abbrev IsOf : ℕ → CopyId → Type 0
IsOf k i = (i.publication ≡ k) × (is_routed i.cause ≡ true)

all_kept : (n k : ℕ) (is : List CopyId) → nat_eq k n ≡ true → AllByRecursion (IsOf k) is → filter (is_own n) is ≡ is
all_kept n k [] same h = refl
all_kept n k (i ∷ is) same h =
    let its : nat_eq i.publication n ≡ true = ap (λ (x : ℕ). nat_eq x n) h.0.0 ∙ same in
    let routed = h.0.1 in
    rw (its, routed) (ap (λ (cs : List CopyId). i ∷ cs) (all_kept n k is same h.1))

none_kept : (n k : ℕ) (is : List CopyId) → nat_eq k n ≡ false → AllByRecursion (IsOf k) is → filter (is_own n) is ≡ []
none_kept n k [] other h = refl
none_kept n k (i ∷ is) other h =
    let its : nat_eq i.publication n ≡ false = ap (λ (x : ℕ). nat_eq x n) h.0.0 ∙ other in
    rw its (none_kept n k is other h.1)

routed_cause : (x : Cause) → IsCauseOf Any x → is_routed x ≡ true
routed_cause Direct h = refl
routed_cause (Share group) h = refl
routed_cause (Retained subscribe) h = absurd h

each_of : (number now : ℕ) (ds : List CopyTo) → AllByRecursion (IsNumbered number now) ds → AllByRecursion (λ (d : CopyTo). IsCauseOf Any d.copy.id.cause) ds → AllByRecursion (λ (d : CopyTo). IsOf number d.copy.id) ds
each_of number now [] p q = tt
each_of number now (d ∷ ds) p q = ((p.0.publication, routed_cause d.copy.id.cause q.0), each_of number now ds p.1 q.1)

accepted_own : (n : ℕ) (a : Acceptance) → IsNext a → filter (is_own n) (its_ids a) ≡ own_ids n a
accepted_own n a h =
    subst (λ (o : Option (List CopyTo)). filter (is_own n) (ids_if o) ≡ cond (nat_eq a.number n) (ids_if o) []) (sym h.routed_is) (elim (cases_Bool (nat_eq a.number n)) [
      | inl same ↦ rw same (all_kept n a.number (queued_ids h.copies) same each)
      | inr other ↦ rw other (none_kept n a.number (queued_ids h.copies) other each)
    ])
  where
    numbered : AllByRecursion (λ (d : CopyTo). IsOf (next_publication a.broker.records) d.copy.id) h.copies
    numbered =
        each_of (next_publication a.broker.records) a.broker.now h.copies (routed_numbered a.env a.message a.broker h.copies h.routed_is)
        (accepted_differ a.env a.message a.broker h.copies h.order h.routed_is).caused

    each : AllByRecursion (IsOf a.number) (queued_ids h.copies)
    each =
        subst (λ (k : ℕ). AllByRecursion (IsOf k) (queued_ids h.copies)) (sym h.number)
        (each_mapped (IsOf (next_publication a.broker.records)) id_to is_queued h.copies (each_map (IsOf (next_publication a.broker.records)) id_to h.copies numbered))

-- what a filter brings is of retained messages
no_own : (n birth number : ℕ) (w : sub.Wish) (ks : List RetainedMessage) → filter (is_own n) (queued_ids (map (sub.retained_copy_to birth number w) ks)) ≡ []
no_own n birth number w [] = refl
no_own n birth number w (k ∷ ks) = by (is_queued (sub.retained_copy_to birth number w k)) (nat_eq k.publication n) (no_own n birth number w ks)
  where
    rest : List CopyTo
    rest = filter is_queued (map (sub.retained_copy_to birth number w) ks)

    by : (t u : Bool) → filter (is_own n) (map id_to rest) ≡ []
        → filter (is_own n) (map id_to (cond t (sub.retained_copy_to birth number w k ∷ rest) rest)) ≡ []
    by false u none = none
    by true u none = elim (cases_Bool (nat_eq k.publication n)) [ inl is ↦ rw is none | inr other ↦ rw other none ]

no_own_if : (n : ℕ) (t : Bool) (now number : ℕ) (s : Session) (w : sub.Wish) (ks : List RetainedMessage) → filter (is_own n) (queued_ids (sub.brought_if t now number s w ks)) ≡ []
no_own_if n false now number s w ks = refl
no_own_if n true now number s w ks = no_own n s.birth number w (filter (sub.is_brought now s w) (map sub.message_in (kept_for w.filter (map sub.kept_of ks))))

retained_own : (n : ℕ) (b : Broker) (x : Subscription) (o : Option Session) → filter (is_own n) (retained_ids b x o) ≡ []
retained_own n b x None = refl
retained_own n b x (Some s) =
    let w = wish_in x in
    no_own_if n (not (begins_share w.filter) && sub.wants_retained w.options.retain_handling (sub.has_filter w.filter s)) b.now b.records.subscribes s w b.records.retained

-- what an acceptance brings is its own
pub own_brought : (n : ℕ) (env : Env) (ds : List Deed) (b : Broker) → Next env ds b → filter (is_own n) (brought_by env ds b) ≡ flat_map (own_ids n) (acceptances_of env ds b)
own_brought n env [] b h = refl
own_brought n env (Accept number origin m ∷ ds) b h =
    let a : Acceptance = record { number = number; message = m; env = env; broker = b } in
    let c = after (Accept number origin m) b in
    filter-append (is_own n) (its_ids a) (brought_by env ds c) ∙ ap (λ (cs : List CopyId). cs ++ filter (is_own n) (brought_by env ds c)) (accepted_own n a h.0)
    ∙ ap (λ (cs : List CopyId). own_ids n a ++ cs) (own_brought n env ds c h.1)
own_brought n env (At who (Subscribe x) ∷ ds) b h =
    let c = after (At who (Subscribe x)) b in
    let first = retained_ids b x (session_at who.birth b.records) in
    filter-append (is_own n) first (brought_by env ds c) ∙ ap (λ (cs : List CopyId). cs ++ filter (is_own n) (brought_by env ds c)) (retained_own n b x (session_at who.birth b.records))
    ∙ own_brought n env ds c h
own_brought n env (d ∷ ds) b h = own_brought n env ds (after d b) h
