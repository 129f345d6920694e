-- Every step and opening gives each copy that enters a queue an identity of its own.
use Rattle.std.proofs.Common.{◌≡◌, ℕ, suc, ◌<◌, Bool, true, false, not, ◌&&◌, List, [], ◌∷◌, ◌++◌, filter, map, Option, Some, None, refl, sym, ap, subst, ◌∙◌, inl, inr, arith}
use Rattle.std.specs.Prelude.{◌≢◌, flat_map, option_map}
use Rattle.std.specs.List.{AllByRecursion}
use Rattle.mqtt_base.specs.declared.session.Cause.{Cause}
use Rattle.mqtt_base.specs.declared.session.Cause.TheVariants.{Direct, Share, Retained}
use Rattle.mqtt_base.specs.declared.session.CopyId.{CopyId}
use Rattle.mqtt_flow.specs.outbound.Outbound.{way_made}
use Rattle.mqtt_flow.specs.declared.outbound.entry.Turn.{Turn}
use Rattle.mqtt_flow.specs.declared.outbound.entry.Turn.TheVariants as turns
use Rattle.mqtt_keep.specs.lawful.Lawful.{IsUpTo}
use Rattle.mqtt_records.specs.declared.messages.message.RetainedMessage.{RetainedMessage}
use Rattle.mqtt_records.specs.state.Session.{copy_place}
use Rattle.mqtt_records.specs.declared.state.change.Change.{Change}
use Rattle.mqtt_records.specs.declared.state.records.Records.{Records}
use Rattle.mqtt_records.specs.declared.state.session.Session.{Session}
use Rattle.mqtt_records.specs.declared.state.subscription.Subscription.{Subscription}
use Rattle.mqtt_routes.specs.routing.Acceptance.{Routed}
use Rattle.mqtt_routes.specs.routing.Retained.{kept_for}
use Rattle.mqtt_routes.specs.declared.routing.retained.Kept.{Kept}
use Rattle.mqtt_routes.specs.declared.routing.subscription.Subscription.{Subscription as RoutedSubscription}
use Rattle.mqtt_records.specs.lists.Distinct.{AllDiffer}
use Rattle.mqtt_records.specs.lists.Order.{row_at}
use Rattle.mqtt_topic.specs.names.Filters.{begins_share}
use Rattle.mqtt_topic.specs.names.Names.{is_empty}
use Rattle.mqtt_rules.specs.declared.step.Capacity.{Capacity}
use Rattle.mqtt_rules.specs.step.Deeds.{whose, Message, Origin, Resume, Close, SetExpiry, DropWill, Subscribe, Unsubscribe, Open, Release, Enter, Mark, Leave, Deed, Accept, Begin, Name, Count, At, Finish, Keep, Forget, RefuseWill, Link, On, Send, Gone, after, after_all, always, rows_of_all, series}
use Rattle.mqtt_rules.specs.step.Fitting.{has_form, offer_copy}
use Rattle.mqtt_rules.specs.step.Laws.{IsAmong, IsOrdered}
use Rattle.mqtt_rules.specs.step.Outbound.{enter_deeds, leave_deeds, queue_limits, since}
use Rattle.mqtt_rules.specs.step.Packets.{publish_of}
use Rattle.mqtt_rules.specs.step.Routing.{CopyTo, accepted_copies, accepted_if, answers, copies_to, deliver, deliver_by, finds_place, forgets, is_queued, is_queued_at, next_publication, publication_of, publish, retain_by, retained_of, routed_subscription, routing_of, subscriber_of, subscribers}
use Rattle.mqtt_rules.specs.step.State.{Broker, Env, Line, MemberChoice, line_of, queue_on, session_at, stored}
use Rattle.mqtt_rules.specs.step.Step.{Call, at_moment, deeds, deeds_of, env_of, opened, opening, stepped, unopened, with_moment}
use Rattle.mqtt_rules.specs.step.Subscribe as sub
use Rattle.mqtt_rules.proofs.step_lemmas.acts.Offers.{of_offer_if}
use Rattle.mqtt_rules.proofs.step_lemmas.acts.Acts.{brought_to}
use Rattle.mqtt_rules.proofs.step_lemmas.numbers.Copies.{IsNumbered, Kinds, kinds_at, each_filter, each_map, each_more, routed_numbered}
use Rattle.mqtt_rules.proofs.step_lemmas.acts.Goods.{AreGood}
use Rattle.mqtt_rules.proofs.step_lemmas.acts.Leads.{leads_append, leads_flat, leads_of_entry, leads_with_session}
use Rattle.mqtt_rules.proofs.step_lemmas.order.OrderedActs.{IsPlain, Keeping, leads_all, leads_open}
use Rattle.mqtt_broker.specs.reopening.Identities.{HasIdentities, HaveIdentities, IsGivenCause, IsGivenCopy}
use Rattle.mqtt_broker.proofs.reopening_lemmas.CopiesKept.{Good, IsAbsent, IsAbsentIn, IsNewCopy, IsOfGroup, Keeps, Led, Stays, filters_in, filters_of, id_in, kept, more, one, quiet_deeds, quiet_deliver, quiet_leaves}
use Rattle.mqtt_broker.proofs.reopening_lemmas.EachSession.{deed_each}
use Rattle.mqtt_world_laws.proofs.acceptance_lemmas.copies.CopiesApart.{births_ascend, brought_differ}
use Rattle.mqtt_world_laws.proofs.acceptance_lemmas.copies.Differ.{differ_filtered}
use Rattle.mqtt_world_laws.proofs.acceptance_lemmas.copies.RoutedApart.{AreStanding, IsApart, IsCauseOf, copies_caused, copies_differ, id_to, ids_to, routed_apart}

-- ---- a copy enters, and those of a publication, one after the other

abbrev IsNewTo : Records → CopyTo → Type 0
IsNewTo r d = IsUpTo r.publications d.copy.id.publication × IsGivenCause r.subscribes d.copy.id.cause × IsOfGroup (filters_of r) d.copy.id.cause × IsAbsent d.copy.id r

abbrev none : CopyId → Type 0
none id = ⊥

leads_leave : (s : Session) (t : Turn) (b : Broker) → Keeps b → Led (leave_deeds s t) b
leads_leave s (turns.Leave place ending) b k =
    leads_of_entry Keeps Good (row_at copy_place place s.queue) (λ e. At (whose s) (Leave e ending) ∷ []) b k (λ e is. one (At (whose s) (Leave e ending)) b k tt)
leads_leave s (turns.Send place id) b k = (tt, k)
leads_leave s (turns.Resend place id) b k = (tt, k)
leads_leave s (turns.Release place id order) b k = (tt, k)
leads_leave s (turns.Outgrow place id order) b k = (tt, k)
leads_leave s (turns.Repeat id) b k = (tt, k)
leads_leave s (turns.Unknown id) b k = (tt, k)

new_copy : (Q : CopyId → Type 0) (d : CopyTo) (old new : Records) → is_queued_at d.copy.qos ≡ true → ((i : CopyId) → Q i → d.copy.id ≢ i) → Stays Q old new → IsNewTo old d → IsNewCopy d.copy new
new_copy Q d old new queued apart stays h = record {
  given = record {
    qos = queued;
    publication = subst (λ (n : ℕ). IsUpTo n d.copy.id.publication) (sym stays.publications) h.0;
    cause = subst (λ (n : ℕ). IsGivenCause n d.copy.id.cause) (sym stays.subscribes) h.1;
  };
  group = subst (λ (fs : List (List ℕ)). IsOfGroup fs d.copy.id.cause) (sym stays.filters) h.2;
  absent = stays.absent d.copy.id apart h.3;
}

leads_enter : (env : Env) (d : CopyTo) (s : Session) (b : Broker) → is_queued d ≡ true → Keeps b → IsNewTo b.records d → Led (enter_deeds env d.copy s) b
leads_enter env d s b queued k new =
    let ts = way_made (queue_limits env) (since env s) (queue_on [] s) in
    let first = flat_map (leave_deeds s) ts in
    leads_append Keeps Good first (At (whose s) (Enter d.copy) ∷ []) b
    (leads_flat Keeps Good (leave_deeds s) (leads_leave s) ts b k)
    (λ h. one (At (whose s) (Enter d.copy)) (after_all first b) h
    (new_copy none d b.records (after_all first b).records queued (λ i no. absurd no) (quiet_deeds none first b (quiet_leaves none s ts b)) new))

leads_offer : (o : Option Line) (d : CopyTo) (b : Broker) → Keeps b → Led (offer_copy o d.copy b) b
leads_offer o d b k =
    let packet = publish_of b.now false 0 d.copy in
    of_offer_if (λ (ds : List Deed). Led ds b) (has_form d.copy b) o packet (tt, k) (λ l there. one (Send l.number packet) b k tt)

leads_by : (t : Bool) (env : Env) (d : CopyTo) (b : Broker) → is_queued d ≡ t → Keeps b → IsNewTo b.records d → Led (deliver_by t env d b) b
leads_by true env d b queued k new =
    leads_with_session Keeps Good (session_at d.birth b.records) (λ s. always (enter_deeds env d.copy s)) b k (λ s e. leads_enter env d s b queued k new)
leads_by false env d b queued k new = leads_offer (line_of d.birth b) d b k

-- what is new stays so while others come
still_new : (d : CopyTo) (ds : List CopyTo) (old new : Records) → Stays (λ i. i ≡ d.copy.id) old new → AllByRecursion (λ i. d.copy.id ≢ i) (ids_to ds) → AllByRecursion (IsNewTo old) ds → AllByRecursion (IsNewTo new) ds
still_new d [] old new stays apart h = tt
still_new d (x ∷ xs) old new stays apart h = (
  (
    subst (λ (n : ℕ). IsUpTo n x.copy.id.publication) (sym stays.publications) h.0.0,
    subst (λ (n : ℕ). IsGivenCause n x.copy.id.cause) (sym stays.subscribes) h.0.1,
    subst (λ (fs : List (List ℕ)). IsOfGroup fs x.copy.id.cause) (sym stays.filters) h.0.2,
    stays.absent x.copy.id (λ i is e. apart.0 (sym (e ∙ is))) h.0.3,
  ),
  still_new d xs old new stays apart.1 h.1,
)

-- deliveries of new copies lead from copies that differ to such
pub leads_deliveries : (env : Env) (ds : List CopyTo) (b : Broker) → Keeps b → AllByRecursion (IsNewTo b.records) ds → AllDiffer (ids_to ds) → Led (series (map (deliver env) ds) b) b
leads_deliveries env [] b k new differ = (tt, k)
leads_deliveries env (d ∷ ds) b k new differ =
    let first = deliver env d b in
    let c = after_all first b in
    leads_append Keeps Good first (series (map (deliver env) ds) c) b (leads_by (is_queued d) env d b refl k new.0)
    (λ h. leads_deliveries env ds c h
    (still_new d ds b.records c.records (quiet_deeds (λ i. i ≡ d.copy.id) first b (quiet_deliver (λ i. i ≡ d.copy.id) env d b refl)) differ.0 new.1) differ.1)

-- ---- the copies of a publication

among_first : {X : Type 0} (x : X) (xs ys : List X) → IsAmong x xs → IsAmong x (xs ++ ys)
among_first x [] ys h = absurd h
among_first x (y ∷ xs) ys h = h_or (y ∷ xs) h
  where
    h_or : (zs : List _) → IsAmong x zs → IsAmong x (zs ++ ys)
    h_or [] q = absurd q
    h_or (z ∷ zs) q = elim q [ inl it ↦ inl it | inr rest ↦ inr (h_or zs rest) ]

among_last : {X : Type 0} (x : X) (xs ys : List X) → IsAmong x ys → IsAmong x (xs ++ ys)
among_last x [] ys h = h
among_last x (y ∷ xs) ys h = inr (among_last x xs ys h)

abbrev StandsIn : List (List ℕ) → List ℕ → Type 0
StandsIn all text = IsAmong text all

subs_stand : (all : List (List ℕ)) (xs : List Subscription) → ((text : List ℕ) → IsAmong text (map (λ x. x.filter) xs) → IsAmong text all) → AllByRecursion (λ (s : RoutedSubscription). StandsIn all s.filter) (map routed_subscription xs)
subs_stand all [] sub = tt
subs_stand all (x ∷ xs) sub = (sub x.filter (inl refl), subs_stand all xs (λ text among. sub text (inr among)))

all_stand : (all : List (List ℕ)) (ss : List Session) → ((text : List ℕ) → IsAmong text (flat_map filters_in ss) → IsAmong text all) → AllByRecursion (AreStanding (StandsIn all)) (map subscriber_of ss)
all_stand all [] sub = tt
all_stand all (s ∷ ss) sub = (
  subs_stand all s.subscriptions (λ text among. sub text (among_first text (filters_in s) (flat_map filters_in ss) among)),
  all_stand all ss (λ text among. sub text (among_last text (filters_in s) (flat_map filters_in ss) among)),
)

-- apart from one another, and each of a group that stands, if of one
record AreRouted (r : Records) (ds : List CopyTo) : Type 0 where
  pub differ : AllDiffer (ids_to ds)
  pub caused : AllByRecursion (λ d. IsCauseOf (StandsIn (filters_of r)) d.copy.id.cause) ds

routed_if : (t : Bool) (number now : ℕ) (m : Message) (r : Records) (o : Option Routed) (ds : List CopyTo) → ((x : Routed) → o ≡ Some x → IsApart (StandsIn (filters_of r)) x)
    → accepted_if t (option_map (copies_to number now m) o) ≡ Some ds → AreRouted r ds
routed_if false number now m r o ds h e = absurd cc
routed_if true number now m r None ds h e = absurd cc
routed_if true number now m r (Some x) ds h e =
    let same : copies_to number now m x ≡ ds = cc in
    let apart = h x refl in
    subst (AreRouted r) same (record { differ = copies_differ number now m (StandsIn (filters_of r)) x apart; caused = copies_caused number now m (StandsIn (filters_of r)) x apart })

accepted_routed : (env : Env) (m : Message) (b : Broker) (ds : List CopyTo) → IsOrdered b.records → accepted_copies env m b ≡ Some ds → AreRouted b.records ds
accepted_routed env m b ds ordered e =
    let r = b.records in
    routed_if (finds_place env m r) (next_publication r) b.now m r (routing_of env m r) ds
    (λ x is. routed_apart (StandsIn (filters_of r)) (answers env r) (publication_of m) (env.choice (next_publication r) m.sender) (subscribers r) x
    (births_ascend r.sessions ordered.sessions.ascending) (all_stand (filters_of r) r.sessions (λ text among. among)) is) e

caused_group : (all : List (List ℕ)) (c : Cause) → IsCauseOf (StandsIn all) c → IsOfGroup all c
caused_group all Direct h = tt
caused_group all (Share group) h = h
caused_group all (Retained subscribe) h = tt

caused_given : (all : List (List ℕ)) (m : ℕ) (c : Cause) → IsCauseOf (StandsIn all) c → IsGivenCause m c
caused_given all m Direct h = tt
caused_given all m (Share group) h = tt
caused_given all m (Retained subscribe) h = absurd h

-- no copy that stands is of a publication to come
number_absent : (n m : ℕ) (id : CopyId) (ss : List Session) → n < id.publication → AllByRecursion (HasIdentities n m) ss → AllByRecursion (IsAbsentIn id) ss
number_absent n m id [] less h = tt
number_absent n m id (s ∷ ss) less h = (
  each_more (λ row. IsGivenCopy n m row.copy) (λ row. id ≢ id_in row) (λ row q e. let up = q.publication.1 in let same = ap (λ (i : CopyId). i.publication) e in absurd (omega (arith, up, same, less))) s.queue h.0.each,
  number_absent n m id ss less h.1,
)

-- the copies of a publication are new on the state after its number was given, whatever was retained
published_new : (number now : ℕ) (r c : Records) (ds : List CopyTo) → HaveIdentities r → number ≡ suc r.publications → c.publications ≡ number → c.sessions ≡ r.sessions
    → AllByRecursion (IsNumbered number now) ds → AllByRecursion (λ d. IsCauseOf (StandsIn (filters_of r)) d.copy.id.cause) ds → AllByRecursion (IsNewTo c) ds
published_new number now r c [] h next is same numbered caused = tt
published_new number now r c (d ∷ ds) h next is same numbered caused =
    let its = numbered.0.publication in (
      (
        (omega (arith, its, next), omega (arith, its, is)),
        caused_given (filters_of r) c.subscribes d.copy.id.cause caused.0,
        subst (λ (ss : List Session). IsOfGroup (flat_map filters_in ss) d.copy.id.cause) (sym same) (caused_group (filters_of r) d.copy.id.cause caused.0),
        subst (λ (ss : List Session). AllByRecursion (IsAbsentIn d.copy.id) ss) (sym same) (number_absent r.publications r.subscribes d.copy.id r.sessions (omega (arith, its, next)) h.sessions),
      ),
      published_new number now r c ds h next is same numbered.1 caused.1,
    )

-- ---- a publication

leads_forgets : (o : Option RetainedMessage) (b : Broker) → Keeps b → Led (forgets o) b
leads_forgets None b k = (tt, k)
leads_forgets (Some x) b k = one (Forget x.place) b k tt

new_number : (n number : ℕ) (ks : List RetainedMessage) → n < number → AllByRecursion (λ k. IsUpTo n k.publication) ks → AllByRecursion (λ k. number ≢ k.publication) ks
new_number n number ks less h = each_more (λ k. IsUpTo n k.publication) (λ k. number ≢ k.publication) (λ k q e. let up = q.1 in omega (arith, up, e, less)) ks h

leads_retain : (retain empty : Bool) (m : Message) (n : ℕ) (b : Broker) → Keeps b → n < b.records.publications → AllByRecursion (λ k. IsUpTo n k.publication) b.records.retained → Led (retain_by retain empty b.records.publications m b) b
leads_retain false empty m n b k less h = (tt, k)
leads_retain true true m n b k less h = leads_forgets (retained_of m.topic b.records) b k
leads_retain true false m n b k less h = one (Keep _) b k (record { publication = (omega (arith, less), omega arith); new = new_number n b.records.publications b.records.retained less h })

forgotten_same : (o : Option RetainedMessage) (b : Broker) → ((after_all (forgets o) b).records.publications ≡ b.records.publications) × ((after_all (forgets o) b).records.sessions ≡ b.records.sessions)
forgotten_same None b = (refl, refl)
forgotten_same (Some x) b = (refl, refl)

retained_same : (retain empty : Bool) (number : ℕ) (m : Message) (b : Broker)
    → ((after_all (retain_by retain empty number m b) b).records.publications ≡ b.records.publications) × ((after_all (retain_by retain empty number m b) b).records.sessions ≡ b.records.sessions)
retained_same false empty number m b = (refl, refl)
retained_same true true number m b = forgotten_same (retained_of m.topic b.records) b
retained_same true false number m b = (refl, refl)

-- so does a publication
pub leads_publish : (env : Env) (origin : Origin) (m : Message) (ds : List CopyTo) (b : Broker) → Keeps b → accepted_copies env m b ≡ Some ds → Led (publish env origin m ds b) b
leads_publish env origin m ds b k e =
    let r = b.records in
    let number = next_publication r in
    let c = after (Accept number origin m) b in
    let next = retain_by m.retain (is_empty m.payload) number m c in
    let d = after_all next c in
    let same = retained_same m.retain (is_empty m.payload) number m c in
    let routed = accepted_routed env m b ds k.ordered e in
    more (Accept number origin m) (next ++ series (map (deliver env) ds) d) b k (omega arith)
    (λ h. leads_append Keeps Good next (series (map (deliver env) ds) d) c
    (leads_retain m.retain (is_empty m.payload) m r.publications c h (omega arith) k.retained)
    (λ g. leads_deliveries env ds d g (published_new number b.now r d.records ds k refl same.0 same.1 (routed_numbered env m b ds e) routed.caused) routed.differ))

-- ---- the retained messages that a filter brings

module _ (number : ℕ) (s : Session) (w : sub.Wish) where
  -- what holds of each, by what holds of the messages
  brought_each : (P : CopyTo → Type 0) (t : Bool) (now : ℕ) (ks : List RetainedMessage) → AllByRecursion (λ k. P (sub.retained_copy_to s.birth number w k)) ks → AllByRecursion P (sub.brought_if t now number s w ks)
  brought_each P false now ks h = tt
  brought_each P true now ks h =
      let mine : RetainedMessage → Type 0 = λ k. P (sub.retained_copy_to s.birth number w k) in
      let tabled = each_map (λ (y : Kept RetainedMessage). mine (sub.message_in y)) sub.kept_of ks h in
      let matched = each_filter (λ (y : Kept RetainedMessage). mine (sub.message_in y)) _ (map sub.kept_of ks) tabled in
      let messages = each_map mine sub.message_in (kept_for w.filter (map sub.kept_of ks)) matched in
      let fit = each_filter mine (sub.is_brought now s w) (map sub.message_in (kept_for w.filter (map sub.kept_of ks))) messages in
      each_map P (sub.retained_copy_to s.birth number w) (filter (sub.is_brought now s w) (map sub.message_in (kept_for w.filter (map sub.kept_of ks)))) fit

-- no copy that stands is for a subscribe to come
subscribe_absent : (n m number publication birth : ℕ) (ss : List Session) → m < number → AllByRecursion (HasIdentities n m) ss
    → AllByRecursion (IsAbsentIn (record { publication = publication; birth = birth; cause = Retained number })) ss
subscribe_absent n m number publication birth [] less h = tt
subscribe_absent n m number publication birth (s ∷ ss) less h = (
  each_more (λ row. IsGivenCopy n m row.copy) (λ row. record { publication = publication; birth = birth; cause = Retained number } ≢ id_in row)
      (λ row q e. absurd (clash row.copy.id.cause q.cause (ap (λ (i : CopyId). i.cause) e))) s.queue h.0.each,
  subscribe_absent n m number publication birth ss less h.1,
)
  where
    clash : (c : Cause) → IsGivenCause m c → Retained number ≡ c → ⊥
    clash Direct q e = absurd cc
    clash (Share group) q e = absurd cc
    clash (Retained subscribe) q e = let is : number ≡ subscribe = cc in let up = q.1 in absurd (omega (arith, is, up, less))

granted_new : (s : Session) (w : sub.Wish) (now : ℕ) (r c : Records) (t : Bool) → HaveIdentities r → c.publications ≡ r.publications → c.subscribes ≡ sub.next_number r
    → ((id : CopyId) → IsAbsent id r → IsAbsent id c) → AllByRecursion (IsNewTo c) (sub.brought_if t now (sub.next_number r) s w r.retained)
granted_new s w now r c t h publications subscribes absent =
    let number = sub.next_number r in
    brought_each number s w (IsNewTo c) t now r.retained
    (each_more (λ k. IsUpTo r.publications k.publication) (λ k. IsNewTo c (sub.retained_copy_to s.birth number w k))
    (λ k q. let up = q.1 in (
      (q.0, omega (arith, up, publications)),
      (omega arith, omega (arith, subscribes)),
      tt,
      absent (sub.retained_copy s.birth number w k).id (subscribe_absent r.publications r.subscribes number k.publication s.birth r.sessions (omega arith) h.sessions),
    )) r.retained h.retained)

-- so does a subscription
pub leads_grants : (env : Env) (w : sub.Wish) (s : Session) (b : Broker) → Keeps b → Led (sub.granted_filter env (sub.next_number b.records) s w (brought_to w s b) b).deeds b
leads_grants env w s b k =
    let r = b.records in
    let number = sub.next_number r in
    let x = sub.subscription number s w in
    let ds = brought_to w s b in
    let d = after (Count number) b in
    let c = after (At (whose s) (Subscribe x)) d in
    let queued = filter is_queued ds in
    let brings = not (begins_share w.filter) && sub.wants_retained w.options.retain_handling (sub.has_filter w.filter s) in
    let same = kinds_at (whose s) (Subscribe x) d in
    let absent : (id : CopyId) → IsAbsent id r → IsAbsent id c.records = λ id h. deed_each (IsAbsentIn id) (IsAbsentIn id) (λ t p. p) (At (whose s) (Subscribe x)) d (λ u t there is p. p) h in
    let new = granted_new s w b.now r c.records brings k (ap (λ (y : Kinds). y.publications) same) (ap (λ (y : Kinds). y.subscribes) same) absent in
    let differ = brought_differ w s b k.differ in
    more (Count number) (At (whose s) (Subscribe x) ∷ series (map (deliver env) queued) c) b k (omega arith)
    (λ h. more (At (whose s) (Subscribe x)) (series (map (deliver env) queued) c) d h tt
    (λ g. leads_deliveries env queued c g (each_filter (IsNewTo c.records) is_queued ds new) (differ_filtered id_to is_queued ds differ)))

-- ---- the law

plain_good : (d : Deed) (b : Broker) → IsPlain d → Good d b
plain_good (At who (Enter copy)) b plain = absurd plain
plain_good (At who (Resume expiry will)) b plain = tt
plain_good (At who (Close moment)) b plain = tt
plain_good (At who (SetExpiry expiry)) b plain = tt
plain_good (At who DropWill) b plain = tt
plain_good (At who (Subscribe x)) b plain = tt
plain_good (At who (Unsubscribe text)) b plain = tt
plain_good (At who (Open id)) b plain = tt
plain_good (At who (Release id)) b plain = tt
plain_good (At who (Mark place phase)) b plain = tt
plain_good (At who (Leave e ending)) b plain = tt
plain_good (Accept number origin m) b plain = absurd plain
plain_good (Begin row will) b plain = absurd plain
plain_good (Name n) b plain = tt
plain_good (Count n) b plain = absurd plain
plain_good (Finish who) b plain = tt
plain_good (Keep kept) b plain = absurd plain
plain_good (Forget place) b plain = tt
plain_good (RefuseWill who) b plain = tt
plain_good (Link n) b plain = tt
plain_good (On n part) b plain = tt
plain_good (Send n packet) b plain = tt
plain_good (Gone n) b plain = tt

abbrev only : Records → Broker
only r = record { records = r; lines = []; given = 0; now = 0; tellings = [] }

keeping : (env : Env) → Keeping env HaveIdentities Good
keeping env = record {
  plain = λ d r plain p. kept d (only r) p (plain_good d (only r) plain);
  good = λ d b plain p. plain_good d b plain;
  born = λ row will b p. tt;
  begin = λ row will r room p. kept (Begin row will) (only r) p tt;
  publish = λ origin m ds b e p. leads_publish env origin m ds b p e;
  grants = λ w s b there room p. leads_grants env w s b p;
  moment = λ now r p. record { ordered = record { sessions = p.ordered.sessions; each = p.ordered.each; retained = p.ordered.retained }; sessions = p.sessions; retained = p.retained; differ = p.differ };
}

-- ---- a step and an opening

-- and each deed of a call
pub call_good : (env : Env) (call : Call) (b : Broker) → HaveIdentities b.records → AreGood Good (deeds_of env call b) b
call_good env call b h = (leads_all env HaveIdentities Good (keeping env) call b h).0

-- and of an opening
pub opening_good : (env : Env) (b : Broker) → HaveIdentities b.records → AreGood Good (opening env b) b
opening_good env b h = (leads_open env HaveIdentities Good (keeping env) b h).0

moment_has : (rows : List Change) (b : Broker) → HaveIdentities b.records → HaveIdentities (with_moment rows b).records
moment_has [] b h = h
moment_has (row ∷ rows) b h = record { ordered = record { sessions = h.ordered.sessions; each = h.ordered.each; retained = h.ordered.retained }; sessions = h.sessions; retained = h.retained; differ = h.differ }

-- behind a step all copies in a queue differ
pub step_identities : (limits : Capacity) (choice : MemberChoice) (now : ℕ) (call : Call) (b : Broker) → HaveIdentities (stored b) → HaveIdentities (stored (stepped limits choice now call b))
step_identities limits choice now call b h =
    let c = at_moment now b in
    let env = env_of limits choice b in
    let ds = deeds limits choice now call b in
    moment_has (rows_of_all ds c.records) (after_all ds c) (leads_all env HaveIdentities Good (keeping env) call c h).1

-- so they do behind an opening
pub opening_identities : (limits : Capacity) (choice : MemberChoice) (now : ℕ) (r : Records) → HaveIdentities r → HaveIdentities (stored (opened limits choice now r))
opening_identities limits choice now r h =
    let b = unopened now r in
    let env = env_of limits choice b in
    let ds = opening env b in
    moment_has (rows_of_all ds b.records) (after_all ds b) (leads_open env HaveIdentities Good (keeping env) b h).1
