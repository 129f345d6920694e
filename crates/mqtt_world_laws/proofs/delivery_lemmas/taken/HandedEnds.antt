-- In a run: each copy of a receiver that ended as taken since it has come was handed over by the end (MQTT 5.0, 4.3.2, 4.3.3).
use Rattle.std.proofs.Common.{◌≡◌, ℕ, ◌+◌, ◌≤◌, true, false, List, [], ◌∷◌, ◌++◌, Some, sym, ap, ◌∙◌, arith}
use Rattle.std.specs.Prelude.{All, filter_map}
use Rattle.std.specs.List.{AllByRecursion}
use Rattle.std.proofs.lemmas.List.Elements.{All-from_recursion, filter_map-append}
use Rattle.mqtt_base.specs.declared.session.CopyId.{CopyId}
use Rattle.mqtt_base.specs.declared.session.Qos.{Qos}
use Rattle.mqtt_base.specs.declared.session.Qos.TheVariants.{AtLeastOnce, AtMostOnce, ExactlyOnce}
use Rattle.mqtt_world_model.specs.model.Ends.{Entry, Receiver}
use Rattle.mqtt_world_model.specs.model.Laws.{WasTaken, copies_in, count_of, handed_count}
use Rattle.mqtt_world_model.specs.model.Run.{End, Turn, are_beginnings_clean, begins_clean, deeds_at, deeds_over, ended_in, read_at, run, setting, turned}
use Rattle.mqtt_world_model.specs.model.World.{World, receiver_named}
use Rattle.mqtt_rules.proofs.step_lemmas.numbers.Copies.{each_more}
use Rattle.mqtt_rules.specs.declared.step.Capacity.{Capacity}
use Rattle.mqtt_world_laws.specs.acceptance.Fair.{IsFair}
use Rattle.mqtt_world_laws.specs.acceptance.Spending.{run_spends, spending}
use Rattle.mqtt_world_laws.proofs.acceptance_lemmas.copies.Counting.{count_append}
use Rattle.mqtt_world_laws.proofs.acceptance_lemmas.publishers.Runs.{both_true, either}
use Rattle.mqtt_world_laws.proofs.receiver_lemmas.drains.DrainRuns.{run_append}
use Rattle.mqtt_world_laws.specs.delivery.HandedOnce.{WasHanded}
use Rattle.mqtt_world_laws.specs.delivery.Untouched.{IsUntouched}
use Rattle.mqtt_world_laws.proofs.delivery_lemmas.taken.EndsTaken.{AreGot, IsGot, ends_append, event_got}
use Rattle.mqtt_world_laws.proofs.delivery_lemmas.whole.EveryRun.{carried_append, fair_run_kept, run_hands_once, run_keeps_ledger, spent_append}
use Rattle.mqtt_world_laws.proofs.delivery_lemmas.whole.Ledgers.{Grows, IsFront, run_remains}
use Rattle.mqtt_world_laws.proofs.delivery_lemmas.others.Runs.{IsKept, turn_kept}

-- ---- what was handed over stays so

grown : (copy : CopyId) (xs ys : List Entry) → IsFront xs ys → count_of copy (copies_in xs) ≤ count_of copy (copies_in ys)
grown copy xs ys g =
    let all : count_of copy (copies_in ys) ≡ count_of copy (copies_in xs) + count_of copy (copies_in g.0) =
    ap (λ (es : List Entry). count_of copy (copies_in es)) g.1 ∙ (ap (count_of copy) (filter_map-append (λ (z : Entry). z.copy) xs g.0) ∙ count_append copy (copies_in xs) (copies_in g.0)) in
    omega (arith, all)

taken_later : (q : Qos) (copy : CopyId) (p r : Receiver) → Grows p r → handed_count copy r ≤ 1 → WasTaken q copy p → WasTaken q copy r
taken_later AtMostOnce copy p r g most h = tt
taken_later AtLeastOnce copy p r g most h = let more = grown copy p.once r.once g.once in omega (arith, more, h)
taken_later ExactlyOnce copy p r g most h = let more = grown copy p.ledger r.ledger g.ledger in omega (arith, more, most, h)

got_later : (c : List ℕ) (p r : Receiver) (xs : List End) → Grows p r → ((copy : CopyId) → handed_count copy r ≤ 1) → AllByRecursion (IsGot c p) xs → AllByRecursion (IsGot c r) xs
got_later c p r xs g most h = each_more (IsGot c p) (IsGot c r) (λ x got its taken. taken_later x.qos x.copy p r g (most x.copy) (got its taken)) xs h

-- ---- over the events

run_got : (c : List ℕ) (limits : Capacity) (ys : List Turn) (v : World) (q r : Receiver) → IsKept [] c limits v → receiver_named c v ≡ Some q → receiver_named c (run limits ys v) ≡ Some r → run_spends limits ys v ≡ false → are_beginnings_clean limits ys v ≡ true
    → ((copy : CopyId) → handed_count copy r ≤ 1) → AreGot c r (deeds_over limits ys v)
run_got c limits [] v q r k e f unspent carried most = tt
run_got c limits (t ∷ ts) v q r k e f unspent carried most =
    let u = turned limits t v in
    let costs = either (read_at spending (setting limits t) t.event v) (run_spends limits ts u) unspent in
    let clean = both_true (begins_clean t.event v) (are_beginnings_clean limits ts u) carried in
    let first = event_got c (setting limits t) q [] v k.stands e t.event costs.0 in
    let stays = run_remains c limits (t ∷ []) v q e in
    let rest = run_got c limits ts u stays.0 r (turn_kept [] c limits t v k clean.0 costs.0) stays.1 f costs.1 clean.1 most in
    let ds = deeds_at (setting limits t) t.event v in
    ends_append (IsGot c r) ds (deeds_over limits ts u) (got_later c q r (filter_map ended_in ds) (run_keeps_ledger limits (t ∷ ts) v c q r e f) most first) rest

-- each copy that ends as taken in the rest of a fair run was handed over
pub run_takes : (limits : Capacity) (xs ys : List Turn) (w : World) → IsUntouched limits w → IsFair limits (xs ++ ys) w → (c : List ℕ) (q : Receiver) → receiver_named c (run limits xs w) ≡ Some q → (r : Receiver) → receiver_named c (run limits (xs ++ ys) w) ≡ Some r
    → All (WasHanded c r) (filter_map ended_in (deeds_over limits ys (run limits xs w)))
run_takes limits xs ys w u fair c q e r f =
    let costs = spent_append limits xs ys w fair.unspent in
    let clean = carried_append limits xs ys w fair.clean in
    let v = run limits xs w in
    let found : receiver_named c (run limits ys v) ≡ Some r = sym (ap (receiver_named c) (run_append limits xs ys w)) ∙ f in
    let k = fair_run_kept limits xs w u (record { within = fair.within; unspent = costs.0; clean = clean.0 }) c in
    All-from_recursion (WasHanded c r) (filter_map ended_in (deeds_over limits ys v))
    (run_got c limits ys v q r k e found costs.1 clean.1 (run_hands_once limits (xs ++ ys) w u fair c r f))
