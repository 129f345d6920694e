-- A copy that is sent as that for a session is.
use Rattle.std.proofs.Common.{◌≡◌, ℕ, Bool, refl}
use Rattle.mqtt_records.specs.declared.messages.message.MessageCopy.{MessageCopy}
use Rattle.mqtt_records.specs.messages.Queue.{IsSpelled}
use Rattle.mqtt_rules.specs.step.Packets.{publish_of}
use Rattle.mqtt_broker_queue.specs.declared.publications.copies.Addressee.{Addressee}
use Rattle.mqtt_broker_queue.specs.publications.Copies.{copy_for}
use Rattle.mqtt_broker_queue.specs.publications.Sharing.{in_common, said_to}

-- it has a spelling if that one has
pub spelled_said : (copy : MessageCopy) (to : Addressee) → IsSpelled (copy_for (in_common copy) to) → IsSpelled (said_to to copy)
spelled_said copy to is = record { properties = is.properties; short = is.short }

-- its PUBLISH is that one's
pub published_said : (now : ℕ) (dup : Bool) (id : ℕ) (copy : MessageCopy) (to : Addressee) → publish_of now dup id (said_to to copy) ≡ publish_of now dup id (copy_for (in_common copy) to)
published_said now dup id copy to = refl
