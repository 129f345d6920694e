-- Restarts of the broker, and stops before and after the commit of what it was asked for (MQTT 5.0, 4.1, 4.4).
use Rattle.std.specs.Prelude.{◌≡◌, ℕ}
use Rattle.mqtt_world_model.specs.model.World.{World}
use Rattle.mqtt_rules.specs.step.State.{Broker, MemberChoice}
use Rattle.mqtt_rules.specs.step.Step.{Call, opened, stepped}
use Rattle.mqtt_rules.specs.declared.step.Capacity.{Capacity}

-- the broker opens again with what is stored
abbrev pub reopened : Capacity → MemberChoice → ℕ → Broker → Broker
reopened limits choice now b = opened limits choice now b.records

-- it stops after the commit of a call, and opens again
abbrev pub stopped_after : Capacity → MemberChoice → ℕ → Call → Broker → Broker
stopped_after limits choice now call b = reopened limits choice now (stepped limits choice now call b)

-- the broker and all receivers are the same in both
pub record AreAlike (v w : World) : Type 0 where
  pub broker : v.broker ≡ w.broker
  pub receivers : v.receivers ≡ w.receivers
