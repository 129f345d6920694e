-- Every run of the world, in the eyes of each receiver; and drains from wherever one comes to (MQTT 5.0, 4.3, 4.4, 4.6).
use Rattle.std.proofs.Common.{◌≡◌, ℕ, ◌≤◌, ◌⊎◌, true, false, List, [], ◌∷◌, ◌++◌, map, Some, nat_lt, refl, sym, ap, subst, ◌∙◌, arith}
use Rattle.std.specs.Prelude.{All}
use Rattle.std.proofs.lemmas.Bool.{ltb-true}
use Rattle.std.proofs.lemmas.List.Elements.{All-from_recursion, recursion_from_All}
use Rattle.mqtt_base.specs.declared.session.CopyId.{CopyId}
use Rattle.mqtt_flow.specs.outbound.Receiver.{puback}
use Rattle.mqtt_world_model.specs.model.Ends.{Back, answers, Receiver}
use Rattle.mqtt_world_model.specs.model.Laws.{copies_in, handed_count, released_in, stand_among}
use Rattle.mqtt_world_model.specs.model.Run.{Turn, are_beginnings_clean, begins_clean, read_at, run, setting, turned}
use Rattle.mqtt_world_model.specs.model.World.{World, old_to_broker, receiver_named, to_broker}
use Rattle.mqtt_rules.proofs.step_lemmas.flight.FlightRows.{all_more}
use Rattle.mqtt_rules.specs.step.Laws.{AreWithin}
use Rattle.mqtt_rules.specs.step.State.{MemberChoice, session_named}
use Rattle.mqtt_rules.specs.declared.step.Capacity.{Capacity}
use Rattle.mqtt_rules.specs.step.Step.{is_opening_spent}
use Rattle.mqtt_world_laws.specs.acceptance.Fair.{IsFair, opened_world}
use Rattle.mqtt_world_laws.specs.acceptance.Spending.{run_spends, spending}
use Rattle.mqtt_world_laws.proofs.acceptance_lemmas.publishers.Runs.{both_true, either}
use Rattle.mqtt_world_laws.specs.receiver.Drains.{after_round, copies_left, drained, enough_rounds, is_over, round_turns, rounds_taken}
use Rattle.mqtt_records.specs.lists.Distinct.{AllDiffer}
use Rattle.mqtt_world_laws.specs.receiver.Tags.{id_of}
use Rattle.mqtt_world_laws.proofs.receiver_lemmas.drains.DrainRuns.{run_append}
use Rattle.mqtt_rules.specs.spelling.Sending.{SendsWell}
use Rattle.mqtt_world_laws.proofs.reading_lemmas.Goings.{nobody_well}
use Rattle.mqtt_world_laws.specs.delivery.Acknowledging.{AreRead}
use Rattle.mqtt_world_laws.specs.delivery.HandedOver.{AreHandedInOrder, CarryQueued, WasHandedOver, queued_by}
use Rattle.mqtt_world_laws.specs.delivery.Standing.{IsPlaced, IsSeen}
use Rattle.mqtt_world_laws.specs.receiver.Connecting.{any_size}
use Rattle.mqtt_world_laws.specs.delivery.Taking.{EachTakes, ItsLineTakes, ReceiverTakes}
use Rattle.mqtt_world_laws.specs.delivery.Untouched.{IsUntouched}
use Rattle.mqtt_world_laws.proofs.delivery_lemmas.taken.Acknowledged.{acknowledged_read, acknowledged_read_there}
use Rattle.mqtt_world_laws.proofs.delivery_lemmas.drains.Drains.{MayBeDrained, TakesSome, ends_over, ends_within, none_after, over_or_drains, round_carried}
use Rattle.mqtt_world_laws.proofs.delivery_lemmas.order.Growing.{begin_same}
use Rattle.mqtt_world_laws.proofs.delivery_lemmas.whole.HandedOver.{handed_over}
use Rattle.mqtt_world_laws.proofs.delivery_lemmas.whole.Ledgers.{Grows, handed_for_good, run_remains}
use Rattle.mqtt_world_laws.proofs.delivery_lemmas.contents.QueueContents.{carry_queued}
use Rattle.mqtt_world_laws.proofs.delivery_lemmas.order.QueueOrder.{handed_in_queue_order}
use Rattle.mqtt_world_laws.proofs.delivery_lemmas.others.Runs.{IsKept, run_kept}
use Rattle.mqtt_world_laws.proofs.delivery_lemmas.others.Standings.{handed_in_order, new_stands, runs_so}
use Rattle.mqtt_world_laws.proofs.delivery_lemmas.own.Taking.{new_takes, takes_there}
use Rattle.mqtt_world_laws.proofs.delivery_lemmas.own.Sizes.{queue_fits}
use Rattle.mqtt_world_laws.proofs.delivery_lemmas.broker.Untouched.{opened_untouched}

-- ---- the run

-- an untouched world keeps what is asked of a receiver
pub untouched_kept : (c : List ℕ) (limits : Capacity) (w : World) → AreWithin limits → IsUntouched limits w → IsKept [] c limits w
untouched_kept c limits w within u = record {
  stands = new_stands c any_size limits w within u.tidy u.new;
  fit = record {
    unused = u.unused;
    distinct = u.distinct;
    once = u.retained;
    takes = new_takes c w u.new;
    well = nobody_well w (record { publishers = u.new.publishers; receivers = u.new.receivers; strangers = u.new.strangers }) u.sends;
  };
}

-- so does every fair run
pub fair_run_kept : (limits : Capacity) (ts : List Turn) (w : World) → IsUntouched limits w → IsFair limits ts w → (c : List ℕ) → IsKept [] c limits (run limits ts w)
fair_run_kept limits ts w u fair c = run_kept [] c limits ts w (untouched_kept c limits w fair.within u) fair.unspent fair.clean

-- what it has stored may be opened under whatever limits
pub run_opens_under : (limits others : Capacity) (ts : List Turn) (choice : MemberChoice) (now : ℕ) (w : World) → IsUntouched limits w → IsFair limits ts w → AreWithin others → is_opening_spent others choice now (run limits ts w).broker.records ≡ false
    → IsUntouched others (opened_world others choice now (run limits ts w).broker.records)
run_opens_under limits others ts choice now w u fair within unspent =
    let k = fair_run_kept limits ts w u fair [] in
    let a = k.stands.standing.around in
    opened_untouched others choice now (run limits ts w).broker.records within (record { coherent = a.steady.coherent; unspent = unspent }) k.fit.distinct k.fit.once k.fit.well.sends.contents.stored k.fit.well.sends.phases

-- and so under its own
pub run_opens_again : (limits : Capacity) (ts : List Turn) (choice : MemberChoice) (now : ℕ) (w : World) → IsUntouched limits w → IsFair limits ts w → is_opening_spent limits choice now (run limits ts w).broker.records ≡ false
    → IsUntouched limits (opened_world limits choice now (run limits ts w).broker.records)
run_opens_again limits ts choice now w u fair unspent = run_opens_under limits limits ts choice now w u fair fair.within unspent

-- in every fair run a receiver was handed its copies once and in order
pub run_hands : (limits : Capacity) (ts : List Turn) (w : World) → IsUntouched limits w → IsFair limits ts w → (c : List ℕ) (r : Receiver) → receiver_named c (run limits ts w) ≡ Some r → WasHandedOver r (run limits ts w).broker
run_hands limits ts w u fair c r e = handed_over [] c any_size limits r (run limits ts w) (fair_run_kept limits ts w u fair c).stands e

-- each copy once
pub run_hands_once : (limits : Capacity) (ts : List Turn) (w : World) → IsUntouched limits w → IsFair limits ts w → (c : List ℕ) (r : Receiver) → receiver_named c (run limits ts w) ≡ Some r → (copy : CopyId) → handed_count copy r ≤ 1
run_hands_once limits ts w u fair c r e = (run_hands limits ts w u fair c r e).once

-- a copy that is released was handed over exactly once
pub run_hands_released : (limits : Capacity) (ts : List Turn) (w : World) → IsUntouched limits w → IsFair limits ts w → (c : List ℕ) (r : Receiver) → receiver_named c (run limits ts w) ≡ Some r
    → All (λ (copy : CopyId). handed_count copy r ≡ 1) (released_in (session_named r.client (run limits ts w).broker.records))
run_hands_released limits ts w u fair c r e = (run_hands limits ts w u fair c r e).released

-- what its packets carry is what the copies are
pub run_carries : (limits : Capacity) (ts : List Turn) (w : World) → IsUntouched limits w → IsFair limits ts w → (c : List ℕ) (r : Receiver) → receiver_named c (run limits ts w) ≡ Some r
    → CarryQueued (session_named r.client (run limits ts w).broker.records) r.ledger × CarryQueued (session_named r.client (run limits ts w).broker.records) r.once
run_carries limits ts w u fair c r e =
    let h = run_hands limits ts w u fair c r e in
    let b = (run limits ts w).broker in
    let o = session_named r.client b.records in
    (carry_queued h.number h.copies h.numbered o b r.ledger h.queued h.carried.0, carry_queued h.number h.copies h.numbered o b r.once h.queued h.carried.1)

-- ---- runs one after the other

-- two runs spend nothing if both together do
pub spent_append : (limits : Capacity) (xs ys : List Turn) (w : World) → run_spends limits (xs ++ ys) w ≡ false → (run_spends limits xs w ≡ false) × (run_spends limits ys (run limits xs w) ≡ false)
spent_append limits [] ys w h = (refl, h)
spent_append limits (t ∷ xs) ys w h =
    let v = turned limits t w in
    let costs = either (read_at spending (setting limits t) t.event w) (run_spends limits (xs ++ ys) v) h in
    let rest = spent_append limits xs ys v costs.1 in
    (rw (costs.0, rest.0) refl, rest.1)

-- their beginnings are clean if those of both are
pub carried_append : (limits : Capacity) (xs ys : List Turn) (w : World) → are_beginnings_clean limits (xs ++ ys) w ≡ true → (are_beginnings_clean limits xs w ≡ true) × (are_beginnings_clean limits ys (run limits xs w) ≡ true)
carried_append limits [] ys w h = (refl, h)
carried_append limits (t ∷ xs) ys w h =
    let v = turned limits t w in
    let both = both_true (begins_clean t.event w) (are_beginnings_clean limits (xs ++ ys) v) h in
    let rest = carried_append limits xs ys v both.1 in
    (rw (both.0, rest.0) refl, rest.1)

-- ---- in the order of its queue

-- what is handed over keeps its order
pub run_in_order : (limits : Capacity) (xs ys : List Turn) (w : World) → IsUntouched limits w → IsFair limits (xs ++ ys) w → (c : List ℕ) (q r : Receiver) → receiver_named c (run limits xs w) ≡ Some q → receiver_named c (run limits (xs ++ ys) w) ≡ Some r
    → AreHandedInOrder (queued_by (session_named q.client (run limits xs w).broker.records)) r
run_in_order limits xs ys w u fair c q r e f =
    let costs = spent_append limits xs ys w fair.unspent in
    let clean = carried_append limits xs ys w fair.clean in
    let v = run limits xs w in
    let last = run limits ys v in
    let k = fair_run_kept limits xs w u (record { within = fair.within; unspent = costs.0; clean = clean.0 }) c in
    let s = k.stands in
    let then_ = run_kept s.ids c limits ys v (record { stands = record { ids = s.ids; grown = begin_same s.ids; ns = s.ns; standing = s.standing }; fit = k.fit }) costs.1 clean.1 in
    let t = then_.stands in
    let found : receiver_named c last ≡ Some r = sym (ap (receiver_named c) (run_append limits xs ys w)) ∙ f in
    let x = runs_so c any_size limits s.ids s.ns q v s.standing e in
    let placed : IsPlaced any_size t.ids t.ns r last.broker = subst (IsSeen any_size t.ids t.ns last.broker) found t.standing.seen in
    let all : t.ids ≡ map id_of x.after ++ t.grown.0 = t.grown.1 ∙ ap (λ (ids : List CopyId). ids ++ t.grown.0) (sym x.same) in
    handed_in_queue_order x.after t.grown.0 (session_named q.client v.broker.records) v.broker r x.run_is.queue_is
    (subst (λ (ids : List CopyId). AllDiffer ids) all placed.told.differ)
    (subst (λ (ids : List CopyId). stand_among (copies_in r.ledger) ids ≡ true) all (handed_in_order c any_size limits t.ids t.ns r last t.standing found))

-- ---- for good

-- and stays handed over
pub run_for_good : (limits : Capacity) (xs ys : List Turn) (w : World) → IsUntouched limits w → IsFair limits (xs ++ ys) w → (c : List ℕ) (q r : Receiver) → receiver_named c (run limits xs w) ≡ Some q → receiver_named c (run limits (xs ++ ys) w) ≡ Some r
    → All (λ (copy : CopyId). handed_count copy r ≡ 1) (released_in (session_named q.client (run limits xs w).broker.records))
run_for_good limits xs ys w u fair c q r e f =
    let costs = spent_append limits xs ys w fair.unspent in
    let clean = carried_append limits xs ys w fair.clean in
    let v = run limits xs w in
    let found : receiver_named c (run limits ys v) ≡ Some r = sym (ap (receiver_named c) (run_append limits xs ys w)) ∙ f in
    let copies = released_in (session_named q.client v.broker.records) in
    let then_ = run_hands_released limits xs w u (record { within = fair.within; unspent = costs.0; clean = clean.0 }) c q e in
    let once = run_hands_once limits (xs ++ ys) w u fair c r f in
    All-from_recursion (λ (copy : CopyId). handed_count copy r ≡ 1) copies
    (all_more (λ (copy : CopyId). handed_count copy q ≡ 1) (λ (copy : CopyId). handed_count copy r ≡ 1) copies (λ copy one. handed_for_good c limits ys v q r copy e found one (once copy))
    (recursion_from_All (λ (copy : CopyId). handed_count copy q ≡ 1) copies then_))

-- a run keeps what was handed over
pub run_keeps_ledger : (limits : Capacity) (ys : List Turn) (v : World) (c : List ℕ) (q r : Receiver) → receiver_named c v ≡ Some q → receiver_named c (run limits ys v) ≡ Some r → Grows q r
run_keeps_ledger limits ys v c q r e f =
    let x = run_remains c limits ys v q e in
    let both : Some x.0 ≡ Some r = sym x.1 ∙ f in
    let same : x.0 ≡ r = cc in
    subst (Grows q) same x.2

-- ---- what is acknowledged

-- a copy of QoS 1 that a PUBACK ends as taken was read
pub run_acknowledges : (limits : Capacity) (ts : List Turn) (choice : MemberChoice) (w : World) → IsUntouched limits w → IsFair limits ts w → (c : List ℕ) (i code : ℕ) (rest : List Back) (r : Receiver) → receiver_named c (run limits ts w) ≡ Some r
    → r.line.up ≡ answers (puback i code) ∷ rest → AreRead r (record { limits = limits; choice = choice }) (to_broker c) (run limits ts w)
run_acknowledges limits ts choice w u fair c i code rest r e up = acknowledged_read [] c any_size i code rest (record { limits = limits; choice = choice }) r (run limits ts w) (fair_run_kept limits ts w u fair c).stands e up

-- also if the PUBACK comes on the old line
pub run_acknowledges_there : (limits : Capacity) (ts : List Turn) (choice : MemberChoice) (w : World) → IsUntouched limits w → IsFair limits ts w → (c : List ℕ) (i code : ℕ) (rest : List Back) (r : Receiver) → receiver_named c (run limits ts w) ≡ Some r
    → r.line.old ≡ answers (puback i code) ∷ rest → AreRead r (record { limits = limits; choice = choice }) (old_to_broker c) (run limits ts w)
run_acknowledges_there limits ts choice w u fair c i code rest r e old = acknowledged_read_there [] c any_size i code rest (record { limits = limits; choice = choice }) r (run limits ts w) (fair_run_kept limits ts w u fair c).stands e old

-- ---- a drain

-- its line takes packets, and what waits for it is no larger than it takes
pub takes_some : (c : List ℕ) (w : World) → ItsLineTakes c w → SendsWell w.broker → TakesSome c any_size w
takes_some c w takes sends r n birth l e is at on =
    let x = takes_there c r n birth l w takes e is at on in
    let its : ReceiverTakes r w.broker = subst (λ (o : _). EachTakes o w.broker) e takes in
    let above = ltb-true 0 r.window (both_true (nat_lt 0 r.window) _ its.window).0 in
    let same = x.0 in
    (x.1, omega (arith, above, same), queue_fits birth w.broker sends.contents)

-- after a round that spends no number
pub over_or_drained : (limits : Capacity) (choice : MemberChoice) (c : List ℕ) (v : World) → IsKept [] c limits v → run_spends limits (round_turns limits choice c v) v ≡ false
    → (is_over c (after_round limits choice c v) ≡ true) ⊎ MayBeDrained c any_size (after_round limits choice c v)
over_or_drained limits choice c v kept unspent =
    let k = run_kept [] c limits (round_turns limits choice c v) v kept unspent (round_carried c limits choice v) in
    let later = after_round limits choice c v in
    over_or_drains [] c any_size limits later k.stands k.fit.distinct (takes_some c later k.fit.takes k.fit.well.sends) (none_after c limits choice v)

-- a drain ends within its bound
pub drain_within : (limits : Capacity) (ts : List Turn) (choice : MemberChoice) (c : List ℕ) (most : ℕ) (w : World) → IsUntouched limits w → IsFair limits ts w
    → run_spends limits (round_turns limits choice c (run limits ts w)) (run limits ts w) ≡ false
    → rounds_taken limits choice c most (run limits ts w) ≤ enough_rounds (copies_left c (after_round limits choice c (run limits ts w)))
drain_within limits ts choice c most w u fair unspent = ends_within c limits choice any_size most (run limits ts w) (over_or_drained limits choice c (run limits ts w) (fair_run_kept limits ts w u fair c) unspent)

-- and its queue is empty then
pub drain_over : (limits : Capacity) (ts : List Turn) (choice : MemberChoice) (c : List ℕ) (most : ℕ) (w : World) → IsUntouched limits w → IsFair limits ts w
    → run_spends limits (round_turns limits choice c (run limits ts w)) (run limits ts w) ≡ false
    → enough_rounds (copies_left c (after_round limits choice c (run limits ts w))) ≤ most → is_over c (drained limits choice c most (run limits ts w)) ≡ true
drain_over limits ts choice c most w u fair unspent enough = ends_over c limits choice any_size most (run limits ts w) (over_or_drained limits choice c (run limits ts w) (fair_run_kept limits ts w u fair c) unspent) enough
