-- After a drain nothing waits, so each copy has ended; and the law of scripts, after any lives (MQTT 5.0, 4.3, 4.4, 4.6).
use Rattle.std.proofs.Common.{◌≡◌, ℕ, Bool, false, cond, List, [], ◌++◌, sym, ap, subst, ◌∙◌}
use Rattle.mqtt_rules.specs.declared.step.Capacity.{Capacity}
use Rattle.mqtt_rules.specs.step.Laws.{AreWithin}
use Rattle.mqtt_rules.specs.step.State.{MemberChoice}
use Rattle.mqtt_world_model.specs.model.Run.{Turn, run}
use Rattle.mqtt_world_model.specs.model.World.{World}
use Rattle.mqtt_world_laws.specs.acceptance.Fair.{IsFair}
use Rattle.mqtt_world_laws.specs.acceptance.Spending.{run_spends}
use Rattle.mqtt_world_laws.specs.receiver.Drains.{Doing, all_turns, drain_turns, drains, is_bad_drain}
use Rattle.mqtt_world_laws.proofs.receiver_lemmas.drains.DrainRuns.{run_append}
use Rattle.mqtt_world_laws.proofs.delivery_lemmas.whole.EveryRun.{carried_append, fair_run_kept, spent_append}
use Rattle.mqtt_world_laws.specs.drains.Emptied.{HasEnough, waiting_for}
use Rattle.mqtt_world_laws.proofs.drains_lemmas.Emptied.{doing_empties}
use Rattle.mqtt_world_laws.specs.headline.Lives.{AreFairLives, BeginsWell, BrokerLife, IsFairScript, after_lives}
use Rattle.mqtt_world_laws.proofs.headline_lemmas.Lives.{lives_begin}
use Rattle.mqtt_world_laws.specs.published.Published.{ArePassedOn, HasReceivedAll}
use Rattle.mqtt_world_laws.proofs.published_lemmas.Received.{all_passed_on}

-- nothing waits for a receiver that was drained
none_left : (limits : Capacity) (ts : List Turn) (choice : MemberChoice) (reader : List ℕ) (most : ℕ) (w : World) → BeginsWell limits w → IsFair limits (ts ++ drain_turns limits choice reader most (run limits ts w)) w
    → is_bad_drain reader (run limits ts w) ≡ false → HasEnough limits choice reader most (run limits ts w) → waiting_for reader (run limits (ts ++ drain_turns limits choice reader most (run limits ts w)) w) ≡ 0
none_left limits ts choice reader most w m fair good enough =
    let v = run limits ts w in
    let turns = drain_turns limits choice reader most v in
    let costs = spent_append limits ts turns w fair.unspent in
    let begun : IsFair limits ts w = record { within = fair.within; unspent = costs.0; clean = (carried_append limits ts turns w fair.clean).0 } in
    let goes : run_spends limits (cond (is_bad_drain reader v) [] turns) v ≡ false = subst (λ (bad : Bool). run_spends limits (cond bad [] turns) v ≡ false) (sym good) costs.1 in
    let empties = doing_empties limits (drains choice reader most) v (fair_run_kept limits ts w m.untouched begun) goes good in
    ap (waiting_for reader) (run_append limits ts turns w) ∙ empties.empty enough

-- after a drain each copy for its receiver has ended
pub drain_received : (limits : Capacity) (ts : List Turn) (choice : MemberChoice) (reader : List ℕ) (most : ℕ) (w : World) → BeginsWell limits w → IsFair limits (ts ++ drain_turns limits choice reader most (run limits ts w)) w
    → is_bad_drain reader (run limits ts w) ≡ false → HasEnough limits choice reader most (run limits ts w) → HasReceivedAll reader limits (ts ++ drain_turns limits choice reader most (run limits ts w)) w
drain_received limits ts choice reader most w m fair good enough client n p q r e f s =
    let zs = ts ++ drain_turns limits choice reader most (run limits ts w) in
    ((all_passed_on limits zs w m fair).reaches client n p reader q r e f s).emptied (none_left limits ts choice reader most w m fair good enough)

-- behind any lives of the broker what is published is received
pub lives_passed_on : (limits : Capacity) (ls : List BrokerLife) (ds : List Doing) → AreWithin limits → AreFairLives limits ls → IsFairScript limits ds (after_lives limits ls) → ArePassedOn limits (all_turns limits ds (after_lives limits ls)) (after_lives limits ls)
lives_passed_on limits ls ds within h fair = all_passed_on limits (all_turns limits ds (after_lives limits ls)) (after_lives limits ls) (lives_begin limits ls within h) fair
