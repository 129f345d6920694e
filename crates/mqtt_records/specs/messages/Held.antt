-- What is in memory of a copy in a queue, and the copy that it stands for (MQTT 5.0, 3.3).
use Rattle.std.specs.Prelude.{⊤, ◌≡◌, ℕ, [], length, Option}
use Rattle.mqtt_records.specs.declared.messages.held.Held.{Held}
use Rattle.mqtt_records.specs.declared.messages.held.Held.TheVariants.{Whole, Slim}
use Rattle.mqtt_records.specs.declared.messages.held.Rest.{Rest}
use Rattle.mqtt_records.specs.declared.messages.message.MessageCopy.{MessageCopy}
use Rattle.mqtt_records.specs.messages.Filling.{Filling, filled_copy}
use Rattle.mqtt_records.specs.messages.Queue.{Knows}
use Rattle.mqtt_records.specs.messages.Slim.{bare_properties, zeros}

-- the same, in whichever box
abbrev pub IsSame : Held → Held → Type 0
IsSame (Whole said) (Whole other) = other.value ≡ said.value
IsSame (Whole said) Slim = ⊥
IsSame Slim (Whole other) = ⊥
IsSame Slim Slim = ⊤

-- what rules read of a copy, and its topic
abbrev pub rest_in : MessageCopy → Rest
rest_in copy =
    record { id = copy.id; qos = copy.qos; retain = copy.retain; topic = copy.content.topic; arrived = copy.content.arrived }

-- a copy of which this is the rest, and which says nothing
abbrev pub spread : Rest → MessageCopy
spread rest = record {
  id = rest.id;
  qos = rest.qos;
  retain = rest.retain;
  identifiers = [];
  content = record { topic = rest.topic; properties = []; payload = []; arrived = rest.arrived };
}

-- what is said beside the topic: what is in memory, or as many bytes that say nothing but the Message Expiry Interval
abbrev pub said_in : ℕ → ℕ → Option ℕ → Held → Filling
said_in pairs payload interval (Whole said) = said.value
said_in pairs payload interval Slim =
    record { identifiers = []; properties = bare_properties pairs interval; payload = zeros payload }

-- the copy, by the bytes of its properties and payload and its Message Expiry Interval
abbrev pub held_copy : ℕ → ℕ → Option ℕ → Rest → Held → MessageCopy
held_copy pairs payload interval rest held = filled_copy (said_in pairs payload interval held) (spread rest)

-- a row remembers of its copy what it has to
pub record Remembers (size pairs payload : ℕ) (interval : Option ℕ) (copy : MessageCopy) : Type 0 where
  pub known : Knows size pairs interval copy
  pub rest : payload ≡ length copy.content.payload
