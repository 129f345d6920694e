-- The copies of one publication: what they have in common, and whom each is for (MQTT 5.0, 3.3, 3.3.4, 4.8).
use Rattle.std.specs.Prelude.{ℕ, List, map}
use Rattle.mqtt_base.specs.declared.session.Cause.{Cause}
use Rattle.mqtt_records.specs.declared.messages.message.Content.{Content}
use Rattle.mqtt_records.specs.declared.messages.message.MessageCopy.{MessageCopy}
use Rattle.mqtt_routes.specs.routing.Intended.{Copy}
use Rattle.mqtt_rules.specs.step.Packets.{quality}
use Rattle.mqtt_broker_queue.specs.declared.publications.copies.Addressee.{Addressee}

-- what all copies of a publication have in common: its number, and what they say
pub record InCommon : Type 0 where
  pub number : ℕ
  pub content : Content

-- who gets a copy as it was routed
abbrev pub addressee : Cause → Copy → Addressee
addressee cause c = record { birth = c.birth; cause = cause; qos = quality c.qos; retain = c.retain; identifiers = c.identifiers }

-- the copy of a publication for a session
abbrev pub copy_for : InCommon → Addressee → MessageCopy
copy_for p to = record {
  id = record { publication = p.number; birth = to.birth; cause = to.cause };
  qos = to.qos;
  retain = to.retain;
  identifiers = to.identifiers;
  content = p.content;
}

abbrev pub copies_for : InCommon → List Addressee → List MessageCopy
copies_for p all = map (copy_for p) all
