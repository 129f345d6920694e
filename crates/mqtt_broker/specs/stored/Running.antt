-- An engine over a store.
use Rattle.std.specs.Prelude.{Bool}
use Rattle.mqtt_rules.specs.declared.step.Capacity.{Capacity}
use Rattle.mqtt_rules.specs.step.State.{Broker}

-- its store, its limits, its state, and whether the store has failed
pub record Running (K : Type 0) : Type 0 where
  pub keep : K
  pub limits : Capacity
  pub broker : Broker
  pub stopped : Bool
