-- No line from the first on is the session's.
use Rattle.std.proofs.Common.{◌≡◌, ℕ, ◌≤◌, ◌-◌, length}
use Rattle.mqtt_rules.specs.step.Deeds.{without_place}
use Rattle.mqtt_broker_step.specs.Lines.{changed_from}
use Rattle.mqtt_broker_step.proofs.leaving.next_of.Given as goal

abbrev pub invariant-loop-at : goal.invariant-loop-at
invariant-loop-at l =
    ((place : ℕ) → changed_from l.fn.from (without_place l.birth place) l.lines ≡ changed_from l.at (without_place l.birth place) l.lines) × (l.fn.from ≤ l.at)

abbrev pub decreases-loop-at : goal.decreases-loop-at
decreases-loop-at l = length l.lines - l.at
