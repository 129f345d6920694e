-- How a world begins in which each receiver is handed its copies once over every run (MQTT 5.0, 2.2.1, 3.3.1.3, 4.1).
use Rattle.mqtt_world_laws.specs.receiver.Served.{IsTidy}
use Rattle.mqtt_world_model.specs.model.World.{World}
use Rattle.mqtt_rules.specs.step.Flight.{HasDistinctIdentifiers}
use Rattle.mqtt_rules.specs.declared.step.Capacity.{Capacity}
use Rattle.mqtt_rules.specs.spelling.Sending.{SendsWell}
use Rattle.mqtt_world_laws.specs.acceptance.Fair.{IsNew}
use Rattle.mqtt_world_laws.specs.delivery.Alone.{HaveSentNothing}
use Rattle.mqtt_world_laws.specs.delivery.Retaining.{AreRetainedOnce}

-- nobody is there yet; and what is stored, or was read before, is as a broker leaves it: no two copies in flight in a session
-- have one identifier, no two retained messages are of one publication, no copy went out on a line on which nobody is
-- connected, and what the broker sends has a spelling: contents are lawful, and identifiers in flight have two bytes
pub record IsUntouched (limits : Capacity) (w : World) : Type 0 where
  pub new : IsNew w
  pub tidy : IsTidy limits w.broker
  pub distinct : HasDistinctIdentifiers w.broker.records
  pub retained : AreRetainedOnce w.broker.records
  pub unused : HaveSentNothing w.broker
  pub sends : SendsWell w.broker
