-- What goes on from event to event, whatever happens: so that the broker reads and sends lawful packets (MQTT 5.0, 1.5.4, 2.1.4,
-- 2.2.1, 4.3).
use Rattle.std.specs.Prelude.{ℕ, ◌<◌, List, slice_index}
use Rattle.std.specs.List.{AllByRecursion}
use Rattle.mqtt_packet.specs.codec.Packets.{HasSpelling}
use Rattle.mqtt_world_model.specs.model.Ends.{Receiver}
use Rattle.mqtt_world_model.specs.model.Lines.{Down}
use Rattle.mqtt_world_model.specs.model.World.{Stranger, World}
use Rattle.mqtt_rules.specs.spelling.Sending.{SendsWell}
use Rattle.mqtt_world_model.specs.single_steps.Sound.{AreSound, Carries}
use Rattle.mqtt_world_model.specs.single_steps.Taken.{HasIdentifier}

-- each is below 256; behind the end stands 0
abbrev pub AreBytes : List ℕ → Type 0
AreBytes bytes = (i : ℕ) → slice_index bytes i < 256

-- what a stranger's line holds is bytes
abbrev pub HoldsBytes : Stranger → Type 0
HoldsBytes s = AreBytes s.held

-- a packet under way from the broker has a spelling
abbrev pub IsSpelled : Down → Type 0
IsSpelled d = HasSpelling d.packet

-- what comes to a receiver has a spelling, and its answers have packet identifiers
pub record IsFine (r : Receiver) : Type 0 where
  pub line : Carries HasIdentifier r.line
  pub down : AllByRecursion IsSpelled r.line.down

-- the broker sends well; each end has under way, and will send, what the broker takes; what comes to receivers has a spelling,
-- and their answers have packet identifiers; and what strangers hold is bytes
pub record GoesWell (w : World) : Type 0 where
  pub sends : SendsWell w.broker
  pub ends : AreSound w
  pub receivers : AllByRecursion IsFine w.receivers
  pub strangers : AllByRecursion HoldsBytes w.strangers
