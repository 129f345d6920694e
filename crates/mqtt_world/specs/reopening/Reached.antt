-- What a broker has left after a run from nothing stored (MQTT 5.0, 4.1).
use Rattle.std.specs.Prelude.{◌≡◌, List}
use Rattle.mqtt_records.specs.declared.state.records.Records.{Records}
use Rattle.mqtt_rules.specs.step.Laws.{Event, after_events, blank}
use Rattle.mqtt_rules.specs.step.State.{stored}
use Rattle.mqtt_broker.specs.reopening.Written.{AreFair}

-- after openings and calls with lawful packets, or with a fault's bytes, under limits within those of the tables, while no number is
-- spent
pub record WasLeft (r : Records) : Type 0 where
  pub events : List Event
  pub fair : AreFair events blank
  pub is : stored (after_events events blank) ≡ r
