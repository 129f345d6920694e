-- Every step, and every opening, keeps each queue within the limit.
use Rattle.std.proofs.Common.{◌≡◌, ℕ, suc, ◌+◌, ◌-◌, ◌++◌, ◌≤◌, Bool, true, false, ◌&&◌, List, [], ◌∷◌, length, filter, map, Option, Some, None, nat_eq, refl, ap, sym, subst, ◌∙◌, arith, inl, inr}
use Rattle.std.specs.List.{AllByRecursion}
use Rattle.std.proofs.lemmas.Bool.{cases_Bool, eqb-true}
use Rattle.std.proofs.lemmas.Cmp.{nat_eq_equiv}
use Rattle.std.proofs.lemmas.Bool.Decides.{nat_tests}
use Rattle.mqtt_topic.specs.names.Names.{is_empty}
use Rattle.mqtt_packet.specs.declared.codec.packet.Packet.{Packet}
use Rattle.mqtt_records.specs.declared.messages.message.RetainedMessage.{RetainedMessage}
use Rattle.mqtt_base.specs.declared.limits.TheConstants.{QUEUE_LIMIT}
use Rattle.mqtt_records.specs.declared.state.session.Session.{Session}
use Rattle.mqtt_records.specs.declared.state.subscription.Subscription.{Subscription}
use Rattle.mqtt_records.specs.declared.state.records.Records.{Records}
use Rattle.mqtt_records.specs.declared.state.change.Counter.TheVariants.{Moment}
use Rattle.mqtt_records.specs.declared.state.change.Change.TheVariants.{SetCounter}
use Rattle.mqtt_records.specs.lists.Order.{IsAscending, row_at, change_row}
use Rattle.mqtt_records.specs.state.Session.{birth_of, with_subscription}
use Rattle.mqtt_records.specs.state.Records.{changed_all}
use Rattle.mqtt_rules.specs.step.Fitting.{has_form}
use Rattle.mqtt_rules.specs.declared.step.Capacity.{Capacity}
use Rattle.mqtt_rules.specs.step.Packets.{publish_of}
use Rattle.mqtt_rules.specs.step.State.{Line, Broker, Env, stored, session_at, line_of, MemberChoice}
use Rattle.mqtt_rules.specs.step.Deeds.{whose, Message, Origin, Part, Enter, Deed, Accept, Count, At, Keep, Forget, Act, after, after_all, part_rows_of, stored_after, then, always, series, with_session, of_session, offer}
use Rattle.mqtt_rules.specs.step.Deeds as deed
use Rattle.mqtt_rules.specs.step.Outbound.{since, room, room_at, enter_deeds}
use Rattle.mqtt_rules.specs.step.Routing.{CopyTo, retained_of, next_publication, accepted_copies, is_queued, deliver_by, deliver, forgets, retain_by, publish}
use Rattle.mqtt_rules.specs.step.Subscribe as sub
use Rattle.mqtt_rules.specs.step.Step.{Call, stepped, env_of, unopened, opened}
use Rattle.mqtt_rules.specs.step.Laws.{HasTables, IsOrdered}
use Rattle.mqtt_rules.proofs.step_lemmas.acts.Offers.{of_offer, of_offer_if}
use Rattle.mqtt_rules.proofs.step_lemmas.order.Ordered.{length-filter_le, all-filter, changed-ordered}
use Rattle.mqtt_rules.proofs.step_lemmas.order.OrderedActs.{IsPlain, both, Keeping, birth_found}
use Rattle.mqtt_rules.proofs.step_lemmas.acts.Goods.{AreGood, good_append}
use Rattle.mqtt_rules.proofs.step_lemmas.acts.Leads.{Leads, leads_append}
use Rattle.mqtt_rules.proofs.step_lemmas.acts.Acts.{brought_to}
use Rattle.mqtt_rules.proofs.step_lemmas.order.OrderedAccepted.{is_to, accepted_within}
use Rattle.mqtt_rules.proofs.step_lemmas.order.OrderedQueues.{stay_is}
use Rattle.mqtt_rules.proofs.step_lemmas.order.OrderedLimits.{step_keeps, opening_keeps}
use Rattle.mqtt_rules.proofs.step_lemmas.order.OrderedEnters.{change_here, all_found, AreShort, ShortQueues, RoomToEnter, still_short, own_stay, enters, some_same, still_one}

-- the copies still to be delivered fit
abbrev Fits : Env → List CopyTo → List Session → Type 0
Fits env ds ss = (birth : ℕ) (s : Session) → row_at birth_of birth ss ≡ Some s → length (filter (is_to birth) ds) ≤ env.limits.queue - own_stay env s

-- what a list of deeds leaves of a state
abbrev Good : ℕ → Env → List CopyTo → Broker → Type 0
Good limit env ds b = ShortQueues limit b.records × Fits env ds b.records.sessions

fewer_fit : (env : Env) (d : CopyTo) (ds : List CopyTo) (ss : List Session) → Fits env (d ∷ ds) ss → Fits env ds ss
fewer_fit env d ds ss fits birth s found =
    let all = fits birth s found in
    let less : length (filter (is_to birth) ds) ≤ length (filter (is_to birth) (d ∷ ds)) = elim (cases_Bool (is_to birth d)) [ inl so ↦ rw so (omega arith) | inr not_so ↦ rw not_so (omega arith) ] in
    omega (arith, all, less)

one_fits : (env : Env) (d : CopyTo) (ds : List CopyTo) (ss : List Session) (s : Session) → is_queued d ≡ true → Fits env (d ∷ ds) ss → row_at birth_of d.birth ss ≡ Some s → own_stay env s + suc (length (filter (is_to d.birth) ds)) ≤ env.limits.queue
one_fits env d ds ss s queued fits found =
    let so : is_to d.birth d ≡ true = rw (queued, nat_eq_equiv.refl d.birth) refl in
    let all = fits d.birth s found in
    let one : length (filter (is_to d.birth) (d ∷ ds)) ≡ suc (length (filter (is_to d.birth) ds)) = rw so refl in
    omega (arith, all, one)

own_birth : (birth : ℕ) (s : Session) (ss : List Session) → s.birth ≡ birth → row_at birth_of birth ss ≡ Some s → row_at birth_of s.birth ss ≡ Some s
own_birth birth s ss same found = ap (λ n. row_at birth_of n ss) same ∙ found

birth_is : (birth : ℕ) (ss : List Session) (s : Session) → row_at birth_of birth ss ≡ Some s → s.birth ≡ birth
birth_is birth ss s found = birth_found birth ss s found

delivered : (limit : ℕ) (env : Env) (d : CopyTo) (ds : List CopyTo) (b : Broker) (o : Option Session) → env.limits.queue ≤ limit → env.limits.queue ≤ QUEUE_LIMIT → is_queued d ≡ true → session_at d.birth b.records ≡ o → Good limit env (d ∷ ds) b
    → Good limit env ds (after_all (with_session o (λ s. always (enter_deeds env d.copy s)) b) b) × AreGood RoomToEnter (with_session o (λ s. always (enter_deeds env d.copy s)) b) b
delivered limit env d ds b None le small queued is good = ((good.0, fewer_fit env d ds b.records.sessions good.1), tt)
delivered limit env d ds b (Some s) le small queued is good =
    let ss = b.records.sessions in
    let mine = birth_is d.birth ss s is in
    let own = own_birth d.birth s ss mine is in
    let all = one_fits env d ds ss s queued good.1 is in
    let tables = all_found birth_of HasTables d.birth ss s good.0.ordered.each is in
    let made = enters limit env d.copy s b le small tables own (omega (arith, all)) good.0 in
    let new = (after_all (enter_deeds env d.copy s) b).records.sessions in
    let e = made.0 in (
      (
        made.1,
        λ birth x found. elim (cases_Bool (nat_eq s.birth birth)) [
          | inl same ↦
              let at : s.birth ≡ birth = eqb-true s.birth birth same in
              let it : e.mine ≡ x = some_same e.mine x (sym e.found ∙ ap (λ n. row_at birth_of n new) at ∙ found) in
              let to : d.birth ≡ birth = sym mine ∙ at in
              let bound : length (filter (is_to d.birth) ds) ≤ env.limits.queue - own_stay env e.mine = (let stays = e.stays in omega (arith, stays, all)) in
              let there : length (filter (is_to birth) ds) ≤ env.limits.queue - own_stay env e.mine = subst (λ (n : ℕ). length (filter (is_to n) ds) ≤ env.limits.queue - own_stay env e.mine) to bound in
              subst (λ (y : Session). length (filter (is_to birth) ds) ≤ env.limits.queue - own_stay env y) it there
          | inr other ↦ fewer_fit env d ds ss good.1 birth x (sym (e.others birth other) ∙ found)
        ],
      ),
      made.2,
    )

offered : (o : Option Line) (p : Packet) (b : Broker) → stored (after_all (offer o p) b) ≡ stored b
offered o p b = of_offer (λ (ds : List Deed). stored (after_all ds b) ≡ stored b) o p refl (λ l there. refl)

offer_room : (o : Option Line) (p : Packet) (b : Broker) → AreGood RoomToEnter (offer o p) b
offer_room o p b = of_offer (λ (ds : List Deed). AreGood RoomToEnter ds b) o p tt (λ l there. (tt, tt))

deliver_good : (limit : ℕ) (t : Bool) (env : Env) (d : CopyTo) (ds : List CopyTo) (b : Broker) → env.limits.queue ≤ limit → env.limits.queue ≤ QUEUE_LIMIT → is_queued d ≡ t → Good limit env (d ∷ ds) b
    → Good limit env ds (after_all (deliver_by t env d b) b) × AreGood RoomToEnter (deliver_by t env d b) b
deliver_good limit true env d ds b le small is good = delivered limit env d ds b (session_at d.birth b.records) le small is refl good
deliver_good limit false env d ds b le small is good = (
  subst (λ (r : Records). ShortQueues limit r × Fits env ds r.sessions) (sym (of_offer_if (λ (ds : List Deed). stored (after_all ds b) ≡ stored b) (has_form d.copy b) (line_of d.birth b) (publish_of b.now false 0 d.copy) refl (λ l there. refl))) (good.0, fewer_fit env d ds b.records.sessions good.1),
  of_offer_if (λ (ds : List Deed). AreGood RoomToEnter ds b) (has_form d.copy b) (line_of d.birth b) (publish_of b.now false 0 d.copy) tt (λ l there. (tt, tt)),
)

abbrev Short : ℕ → Broker → Type 0
Short limit b = ShortQueues limit b.records

all_delivered : (limit : ℕ) (env : Env) (ds : List CopyTo) (b : Broker) → env.limits.queue ≤ limit → env.limits.queue ≤ QUEUE_LIMIT → Good limit env ds b → Leads (Short limit) RoomToEnter (series (map (deliver env) ds) b) b
all_delivered limit env [] b le small good = (tt, good.0)
all_delivered limit env (d ∷ ds) b le small good =
    let first = deliver env d b in
    let c = after_all first b in
    let one = deliver_good limit (is_queued d) env d ds b le small refl good in
    let rest = all_delivered limit env ds c le small one.0 in
    (good_append RoomToEnter first (series (map (deliver env) ds) c) b one.1 rest.0, both (ShortQueues limit) first (series (map (deliver env) ds) c) b rest.1)

-- ---- a publication

within_room : (env : Env) (s : Session) (n : ℕ) → n ≤ room env s → n ≤ env.limits.queue - own_stay env s
within_room env s n le =
    let same = stay_is env.limits.full (since env s) s.birth s.queue in
    omega (arith, same, le)

accepted_fit : (env : Env) (m : Message) (b : Broker) (ds : List CopyTo) → accepted_copies env m b ≡ Some ds → IsAscending birth_of b.records.sessions → Fits env ds b.records.sessions
accepted_fit env m b ds is up birth s found =
    let few = accepted_within env m b ds birth is up in
    within_room env s (length (filter (is_to birth) ds)) (subst (λ (o : Option Session). length (filter (is_to birth) ds) ≤ room_at env o) found few)

forgets_good : (limit : ℕ) (env : Env) (ds : List CopyTo) (o : Option RetainedMessage) (b : Broker) → Good limit env ds b → Good limit env ds (after_all (forgets o) b) × AreGood RoomToEnter (forgets o) b
forgets_good limit env ds None b good = (good, tt)
forgets_good limit env ds (Some k) b good = ((still_short limit (Forget k.place) b.records tt good.0, good.1), (tt, tt))

retain_good : (limit : ℕ) (env : Env) (ds : List CopyTo) (t e : Bool) (number : ℕ) (m : Message) (b : Broker) → Good limit env ds b
    → Good limit env ds (after_all (retain_by t e number m b) b) × AreGood RoomToEnter (retain_by t e number m b) b
retain_good limit env ds false e number m b good = (good, tt)
retain_good limit env ds true true number m b good = forgets_good limit env ds (retained_of m.topic b.records) b good
retain_good limit env ds true false number m b good = ((still_short limit (Keep _) b.records tt good.0, good.1), (tt, tt))

publishes_short : (limit : ℕ) (env : Env) (origin : Origin) (m : Message) (ds : List CopyTo) (b : Broker) → env.limits.queue ≤ limit → env.limits.queue ≤ QUEUE_LIMIT → accepted_copies env m b ≡ Some ds → ShortQueues limit b.records
    → Leads (Short limit) RoomToEnter (publish env origin m ds b) b
publishes_short limit env origin m ds b le small is short =
    let number = next_publication b.records in
    let first : List Deed = Accept number origin m ∷ [] in
    let c = after_all first b in
    let kept = retain_by m.retain (is_empty m.payload) number m c in
    let good : Good limit env ds c = (still_short limit (Accept number origin m) b.records tt short, accepted_fit env m b ds is short.ordered.sessions.ascending) in
    let next = retain_good limit env ds m.retain (is_empty m.payload) number m c good in
    let rest = all_delivered limit env ds (after_all kept c) le small next.0 in
    leads_append (Short limit) RoomToEnter first (kept ++ series (map (deliver env) ds) (after_all kept c)) b ((tt, tt), good.0)
    (λ h. leads_append (Short limit) RoomToEnter kept (series (map (deliver env) ds) (after_all kept c)) c (next.1, next.0.0) (λ g. rest))

-- ---- retained messages for a subscription

abbrev IsFor : ℕ → CopyTo → Type 0
IsFor birth d = d.birth ≡ birth

brought_for : (t : Bool) (now number : ℕ) (s : Session) (w : sub.Wish) (ks : List RetainedMessage) → AllByRecursion (IsFor s.birth) (sub.brought_if t now number s w ks)
brought_for false now number s w ks = tt
brought_for true now number s w ks = each_for s.birth number w _
  where
    each_for : (birth number : ℕ) (w : sub.Wish) (ks : List RetainedMessage) → AllByRecursion (IsFor birth) (map (sub.retained_copy_to birth number w) ks)
    each_for birth number w [] = tt
    each_for birth number w (k ∷ ks) = (refl, each_for birth number w ks)

none_for : (birth other : ℕ) (ds : List CopyTo) → nat_eq birth other ≡ false → AllByRecursion (IsFor birth) ds → length (filter (is_to other) ds) ≡ 0
none_for birth other [] differ all = refl
none_for birth other (d ∷ ds) differ all =
    let not_it : nat_eq d.birth other ≡ false = ap (λ n. nat_eq n other) all.0 ∙ differ in
    let not_so : is_to other d ≡ false = and_false (is_queued d) (nat_eq d.birth other) not_it in
    rw not_so (none_for birth other ds differ all.1)
  where
    and_false : (x y : Bool) → y ≡ false → (x && y) ≡ false
    and_false true y is = is
    and_false false y is = refl

granted_fit : (env : Env) (s : Session) (x : Subscription) (ds : List CopyTo) (ss new : List Session) → new ≡ change_row birth_of s.birth (with_subscription x) ss
    → row_at birth_of s.birth ss ≡ Some s → AllByRecursion (IsFor s.birth) ds → length ds ≤ room env s → Fits env ds new
granted_fit env s x ds ss new is found all le birth y there = elim (cases_Bool (nat_eq s.birth birth)) [
  | inl same ↦
      let at : s.birth ≡ birth = eqb-true s.birth birth same in
      let mine : row_at birth_of s.birth new ≡ Some (with_subscription x s) = ap (row_at birth_of s.birth) is ∙ change_here birth_of s.birth (with_subscription x) ss s (λ z. refl) found in
      let it : with_subscription x s ≡ y = some_same (with_subscription x s) y (sym mine ∙ ap (λ n. row_at birth_of n new) at ∙ there) in
      let fewer = length-filter_le (is_to birth) ds in
      let bound : length (filter (is_to birth) ds) ≤ env.limits.queue - own_stay env s = within_room env s (length (filter (is_to birth) ds)) (omega (arith, fewer, le)) in
      subst (λ (z : Session). length (filter (is_to birth) ds) ≤ env.limits.queue - own_stay env z) it bound
  | inr other ↦
      let none = none_for s.birth birth ds other all in
      omega (arith, none)
]

grants_short : (limit : ℕ) (env : Env) (w : sub.Wish) (s : Session) (b : Broker) → env.limits.queue ≤ limit → env.limits.queue ≤ QUEUE_LIMIT → session_at s.birth b.records ≡ Some s → length (filter is_queued (brought_to w s b)) ≤ room env s
    → ShortQueues limit b.records → Leads (Short limit) RoomToEnter (sub.granted_filter env (sub.next_number b.records) s w (brought_to w s b) b).deeds b
grants_short limit env w s b up small found le short =
    let number = sub.next_number b.records in
    let x = sub.subscription number s w in
    let ds = filter is_queued (brought_to w s b) in
    let count = Count number in
    let put = At (whose s) (deed.Subscribe x) in
    let first : List Deed = count ∷ put ∷ [] in
    let c = after_all first b in
    let is : c.records.sessions ≡ change_row birth_of s.birth (with_subscription x) b.records.sessions
    = ap (λ (o : Option Session). (changed_all (part_rows_of (deed.Subscribe x) o) (stored_after count b.records)).sessions) found
    in
    let all = all-filter (IsFor s.birth) is_queued (brought_to w s b) (brought_for _ b.now number s w b.records.retained) in
    let still = still_short limit put (stored_after count b.records) tt (still_short limit count b.records tt short) in
    leads_append (Short limit) RoomToEnter first (series (map (deliver env) ds) c) b ((tt, (tt, tt)), still)
    (λ h. all_delivered limit env ds c up small (still, granted_fit env s x ds b.records.sessions c.records.sessions is found all le))

room_plain : (d : Deed) (b : Broker) → IsPlain d → RoomToEnter d b
room_plain (At who (Enter copy)) b plain = absurd plain
room_plain d b plain = tt

-- every deed that finds room keeps all queues within the limit
pub queues_keeping : (limit : ℕ) (env : Env) → env.limits.queue ≤ limit → env.limits.queue ≤ QUEUE_LIMIT → Keeping env (ShortQueues limit) RoomToEnter
queues_keeping limit env le small = record {
  plain = λ d r q p. still_short limit d r (still_one d q) p;
  good = λ d b q p. room_plain d b q;
  born = λ row will b p. tt;
  begin = λ row will r room p. still_short limit (deed.Begin row will) r tt p;
  publish = λ origin m ds b is p. publishes_short limit env origin m ds b le small is p;
  grants = λ w s b found fits p. grants_short limit env w s b le small found (grind (arith, nat_tests)) p;
  moment = λ now r p. record { ordered = changed-ordered (SetCounter Moment now) r p.ordered; short = p.short };
}

-- a step keeps all queues within the broker's limit
pub step_queues : (limits : Capacity) (choice : MemberChoice) (now : ℕ) (call : Call) (b : Broker) → limits.queue ≤ QUEUE_LIMIT → IsOrdered (stored b) → AreShort limits.queue (stored b).sessions
    → AreShort limits.queue (stored (stepped limits choice now call b)).sessions
step_queues limits choice now call b small ordered short =
    let env = env_of limits choice b in
    (step_keeps limits choice now call b (ShortQueues limits.queue) RoomToEnter (queues_keeping limits.queue env (omega arith) small) (record { ordered = ordered; short = short })).short

-- an opening keeps all queues within the broker's limit
pub opening_queues : (limits : Capacity) (choice : MemberChoice) (now : ℕ) (r : Records) → limits.queue ≤ QUEUE_LIMIT → IsOrdered r → AreShort limits.queue r.sessions
    → AreShort limits.queue (stored (opened limits choice now r)).sessions
opening_queues limits choice now r small ordered short =
    let env = env_of limits choice (unopened now r) in
    (opening_keeps limits choice now r (ShortQueues limits.queue) RoomToEnter (queues_keeping limits.queue env (omega arith) small) (record { ordered = ordered; short = short })).short
