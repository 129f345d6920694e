use Rattle.std.proofs.Common.{◌≡◌, ◌-◌, map}
use Rattle.mqtt_rules.specs.step.Deeds.{without_place}
use Rattle.mqtt_broker_step.specs.Lines.{changed_from}
use Rattle.mqtt_broker_step.specs.Undoing.{with_lines}
use Rattle.mqtt_broker_step.specs.Stepping.{with_broker}
use Rattle.mqtt_broker_step.proofs.step.Step.drop_places.Given as goal

-- the lines from here on lead to the same end
abbrev pub invariant-loop-at : goal.invariant-loop-at
invariant-loop-at l =
    with_broker (with_lines (changed_from l.at (without_place l.birth l.place) l.self.broker.lines) l.self.broker) l.self
    ≡ with_broker (with_lines (map (without_place l.birth l.place) l.initial.self.broker.lines) l.initial.self.broker) l.initial.self

abbrev pub decreases-loop-at : goal.decreases-loop-at
decreases-loop-at l = l.count - l.at
