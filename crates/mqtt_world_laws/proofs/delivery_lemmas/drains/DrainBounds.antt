-- The rounds of a drain, by the copies that stand at its start and those that enter in its first round.
use Rattle.std.proofs.Common.{◌≡◌, ℕ, ◌+◌, ◌≤◌, true, false, List, [], length, arith}
use Rattle.mqtt_world_model.specs.model.Run.{Turn, run}
use Rattle.mqtt_world_model.specs.model.World.{World}
use Rattle.mqtt_rules.specs.step.State.{MemberChoice}
use Rattle.mqtt_rules.specs.declared.step.Capacity.{Capacity}
use Rattle.mqtt_world_laws.specs.acceptance.Copies.{entered_from}
use Rattle.mqtt_world_laws.specs.acceptance.Fair.{IsFair}
use Rattle.mqtt_world_laws.specs.acceptance.Spending.{run_spends}
use Rattle.mqtt_world_laws.specs.receiver.Drains.{after_round, copies_left, drained, enough_rounds, is_over, round_turns, rounds_taken}
use Rattle.mqtt_world_laws.specs.delivery.Untouched.{IsUntouched}
use Rattle.mqtt_world_laws.proofs.delivery_lemmas.whole.EveryRun.{drain_over, drain_within, untouched_kept}
use Rattle.mqtt_world_laws.proofs.delivery_lemmas.order.QueueGrowth.{queue_grows}
use Rattle.mqtt_world_laws.proofs.delivery_lemmas.others.Runs.{run_kept}

module _ (limits : Capacity) (ts : List Turn) (choice : MemberChoice) (c : List ℕ) (w : World) (u : IsUntouched limits w) (fair : IsFair limits ts w)
    (unspent : run_spends limits (round_turns limits choice c (run limits ts w)) (run limits ts w) ≡ false) where
  abbrev v : World
  v = run limits ts w

  abbrev brought : ℕ
  brought = length (entered_from limits (round_turns limits choice c v) v)

  bounded : copies_left c (after_round limits choice c v) ≤ copies_left c v + brought
  bounded =
      let around = (run_kept [] c limits ts w (untouched_kept c limits w fair.within u) fair.unspent fair.clean).stands.standing.around in
      queue_grows c limits (round_turns limits choice c v) v around.within around.steady unspent

  -- a drain takes no more rounds than are enough for the copies that stand and that enter in its first round
  pub few_rounds : (most : ℕ) → rounds_taken limits choice c most (run limits ts w) ≤ enough_rounds (copies_left c (run limits ts w) + length (entered_from limits (round_turns limits choice c (run limits ts w)) (run limits ts w)))
  few_rounds most = let some = bounded in let within = drain_within limits ts choice c most w u fair unspent in omega (arith, some, within)

  -- after so many rounds a drain is over
  pub over_then : (most : ℕ) → enough_rounds (copies_left c (run limits ts w) + length (entered_from limits (round_turns limits choice c (run limits ts w)) (run limits ts w))) ≤ most → is_over c (drained limits choice c most (run limits ts w)) ≡ true
  over_then most enough = let some = bounded in drain_over limits ts choice c most w u fair unspent (omega (arith, some, enough))
