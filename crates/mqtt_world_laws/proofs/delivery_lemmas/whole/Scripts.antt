-- All that holds of every run; and each drain of a script ends, from wherever the script has come to (MQTT 5.0, 4.3, 4.4, 4.6).
use Rattle.std.proofs.Common.{◌≡◌, ℕ, zero, suc, ◌+◌, ◌*◌, ◌≤◌, Bool, true, false, cond, ◌||◌, List, [], ◌∷◌, ◌++◌, refl, sym, ap, subst, ◌∙◌, arith}
use Rattle.mqtt_world_model.specs.model.Run.{Turn, are_beginnings_clean, run}
use Rattle.mqtt_world_model.specs.model.World.{World, receiver_named, start}
use Rattle.mqtt_rules.specs.step.State.{MemberChoice}
use Rattle.mqtt_rules.specs.declared.step.Capacity.{Capacity}
use Rattle.mqtt_world_laws.proofs.acceptance_lemmas.copies.Walks.{counted}
use Rattle.mqtt_world_laws.specs.acceptance.Fair.{IsFair}
use Rattle.mqtt_world_laws.specs.acceptance.Identities.{TellsApart}
use Rattle.mqtt_world_laws.specs.acceptance.Spending.{run_spends}
use Rattle.mqtt_world_laws.proofs.acceptance_lemmas.publishers.Carried.{all_carried}
use Rattle.mqtt_world_laws.proofs.acceptance_lemmas.copies.CopyRuns.{run_balances, run_numbers}
use Rattle.mqtt_world_laws.proofs.acceptance_lemmas.copies.OnceRuns.{ends_once, enters_once, start_apart, waits_or_has_ended}
use Rattle.mqtt_world_laws.proofs.acceptance_lemmas.copies.Routed.{run_routed}
use Rattle.mqtt_world_laws.proofs.acceptance_lemmas.publishers.Runs.{accepts_once, few_open}
use Rattle.mqtt_world_laws.proofs.acceptance_lemmas.copies.StepRuns.{run_enters, run_goes_out}
use Rattle.mqtt_world_laws.specs.receiver.Drains.{Doing, after_round, all_turns, copies_left, count_by_end, drain_by, drain_turns, drains, happens, is_bad_drain, is_none_left, is_over, round_turns, rounds_taken, turns_of}
use Rattle.mqtt_world_laws.specs.delivery.Scripts.{AllDrainsEnd, DeliversOnce, DrainEnds, EndsWhere}
use Rattle.mqtt_world_laws.specs.delivery.Untouched.{IsUntouched}
use Rattle.mqtt_world_laws.proofs.delivery_lemmas.drains.Drains.{ends_over, ends_within}
use Rattle.mqtt_world_laws.proofs.delivery_lemmas.whole.EveryRun.{carried_append, over_or_drained, run_carries, run_for_good, run_hands, run_in_order, spent_append, untouched_kept}
use Rattle.mqtt_world_laws.proofs.delivery_lemmas.others.Runs.{IsKept, run_kept}
use Rattle.mqtt_world_laws.proofs.delivery_lemmas.contents.ContentRuns.{run_reads}
use Rattle.mqtt_world_laws.proofs.delivery_lemmas.taken.HandedEnds.{run_takes}
use Rattle.mqtt_world_laws.proofs.delivery_lemmas.whole.Newcomers.{run_hands_all}
use Rattle.mqtt_world_laws.proofs.delivery_lemmas.broker.Untouched.{start_untouched}

-- every fair run delivers exactly once
pub run_delivers : (limits : Capacity) (ts : List Turn) (w : World) → IsUntouched limits w → TellsApart w.broker.records → IsFair limits ts w → DeliversOnce limits ts w
run_delivers limits ts w u apart fair = record {
  accepted = accepts_once limits ts w u.new fair;
  carried = all_carried limits ts w u.new fair;
  few_open = few_open limits ts w u.new fair;
  routed = run_routed limits ts w;
  numbered = run_numbers limits ts w u.new (counted limits ts w fair);
  entered = run_enters limits ts w u.new (counted limits ts w fair);
  enters = enters_once limits ts w u.new (counted limits ts w fair) apart;
  ends = ends_once limits ts w u.new (counted limits ts w fair) apart;
  waits_or_has_ended = waits_or_has_ended limits ts w u.new (counted limits ts w fair) apart;
  balanced = run_balances limits ts w u.new (counted limits ts w fair);
  goes_out = run_goes_out limits ts w u.new (counted limits ts w fair);
  handed = run_hands limits ts w u fair;
  carries = run_carries limits ts w u fair;
  for_good = λ xs ys is c q r e f. run_for_good limits xs ys w u (subst (λ (zs : List Turn). IsFair limits zs w) (sym is) fair) c q r e (ap (λ (zs : List Turn). receiver_named c (run limits zs w)) is ∙ f);
  in_order = λ xs ys is c q r e f. run_in_order limits xs ys w u (subst (λ (zs : List Turn). IsFair limits zs w) (sym is) fair) c q r e (ap (λ (zs : List Turn). receiver_named c (run limits zs w)) is ∙ f);
  taken = λ xs ys is c q r e f. run_takes limits xs ys w u (subst (λ (zs : List Turn). IsFair limits zs w) (sym is) fair) c q e r (ap (λ (zs : List Turn). receiver_named c (run limits zs w)) is ∙ f);
  as_entered = run_hands_all limits ts w u fair;
  carries_each = λ numbers c r e. run_reads limits ts w u numbers (run_numbers limits ts w u.new (counted limits ts w fair)) fair c r e;
}

-- ---- a drain

-- it is over already
none_taken : (limits : Capacity) (choice : MemberChoice) (c : List ℕ) (most : ℕ) (w : World) → is_over c w ≡ true → DrainEnds limits choice c most w
none_taken limits choice c zero w over = record {
  is_within = omega arith;
  over = λ enough. let le : 2 * copies_left c (after_round limits choice c w) + 1 ≤ 0 = enough in absurd (omega (arith, le));
}
none_taken limits choice c (suc more) w over =
    let v = after_round limits choice c w in
    let none : rounds_taken limits choice c (suc more) w ≡ 0 = ap (λ (t : Bool). count_by_end t (rounds_taken limits choice c more v)) over in
    let turns : drain_turns limits choice c (suc more) w ≡ [] = ap (λ (t : Bool). drain_by t (round_turns limits choice c w) (drain_turns limits choice c more v)) over in
    record {
      is_within = omega (arith, none);
      over = λ enough. ap (λ (ts : List Turn). is_over c (run limits ts w)) turns ∙ over;
    }

-- or it goes on, and its first round spends no number
drain_ends : (limits : Capacity) (choice : MemberChoice) (c : List ℕ) (most : ℕ) (w : World) → IsKept [] c limits w → run_spends limits (turns_of limits (drains choice c most) w) w ≡ false → DrainEnds limits choice c most w
drain_ends limits choice c most w k unspent = by_bad (is_bad_drain c w) refl unspent
  where
    by_over : (j : ℕ) (t : Bool) → is_over c w ≡ t → run_spends limits (drain_turns limits choice c j w) w ≡ false → DrainEnds limits choice c j w
    by_over j true over u = none_taken limits choice c j w over
    by_over zero false on u = record {
      is_within = omega arith;
      over = λ enough. let le : 2 * copies_left c (after_round limits choice c w) + 1 ≤ 0 = enough in absurd (omega (arith, le));
    }
    by_over (suc more) false on u =
        let rest = drain_turns limits choice c more (after_round limits choice c w) in
        let goes : run_spends limits (round_turns limits choice c w ++ rest) w ≡ false = subst (λ (t : Bool). run_spends limits (drain_by t (round_turns limits choice c w) rest) w ≡ false) on u in
        let x = over_or_drained limits choice c w k (spent_append limits (round_turns limits choice c w) rest w goes).0 in
        record { is_within = ends_within c limits choice _ (suc more) w x; over = λ enough. ends_over c limits choice _ (suc more) w x enough }

    by_bad : (bad : Bool) → is_bad_drain c w ≡ bad → run_spends limits (cond bad [] (drain_turns limits choice c most w)) w ≡ false → DrainEnds limits choice c most w
    by_bad true is u = none_taken limits choice c most w (over_if_bad (is_none_left (copies_left c w)) (is_bad_drain c w) is)
      where
        over_if_bad : (a bad : Bool) → bad ≡ true → (a || bad) ≡ true
        over_if_bad true bad h = refl
        over_if_bad false bad h = h
    by_bad false is u = by_over most (is_over c w) refl u

-- ---- a script

doing_ends : (limits : Capacity) (d : Doing) (w : World) → ((c : List ℕ) → IsKept [] c limits w) → run_spends limits (turns_of limits d w) w ≡ false → EndsWhere limits d w
doing_ends limits (happens t) w k u = tt
doing_ends limits (drains choice c most) w k u = drain_ends limits choice c most w (k c) u

all_end : (limits : Capacity) (ds : List Doing) (w : World) → ((c : List ℕ) → IsKept [] c limits w) → run_spends limits (all_turns limits ds w) w ≡ false → are_beginnings_clean limits (all_turns limits ds w) w ≡ true → AllDrainsEnd limits ds w
all_end limits [] w k unspent carried = tt
all_end limits (d ∷ ds) w k unspent carried =
    let turns = turns_of limits d w in
    let v = run limits turns w in
    let costs = spent_append limits turns (all_turns limits ds v) w unspent in
    let clean = carried_append limits turns (all_turns limits ds v) w carried in
    (doing_ends limits d w k costs.0, all_end limits ds v (λ c. run_kept [] c limits turns w (k c) costs.0 clean.0) costs.1 clean.1)

-- and every drain of a script ends
pub script_drains : (limits : Capacity) (ds : List Doing) (w : World) → IsUntouched limits w → IsFair limits (all_turns limits ds w) w → AllDrainsEnd limits ds w
script_drains limits ds w u fair = all_end limits ds w (λ c. untouched_kept c limits w fair.within u) fair.unspent fair.clean

-- ---- from nothing

-- also from the start
pub start_delivers : (limits : Capacity) (ds : List Doing) → IsFair limits (all_turns limits ds start) start → DeliversOnce limits (all_turns limits ds start) start
start_delivers limits ds fair = run_delivers limits (all_turns limits ds start) start (start_untouched limits fair.within) start_apart fair

-- also from the start
pub start_drains : (limits : Capacity) (ds : List Doing) → IsFair limits (all_turns limits ds start) start → AllDrainsEnd limits ds start
start_drains limits ds fair = script_drains limits ds start (start_untouched limits fair.within) fair
