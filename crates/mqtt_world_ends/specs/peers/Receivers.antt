-- What a receiver in code sends and reads, as the definitions have it (MQTT 5.0, 4.3).
use Rattle.std.specs.Prelude.{◌≡◌, ℕ, Bool, List, [], ◌∷◌, map, Option, None, Some, option_map}
use Rattle.mqtt_base.specs.declared.session.CopyId.{CopyId}
use Rattle.mqtt_packet.specs.declared.codec.publish.Publish.{Publish}
use Rattle.mqtt_packet.specs.declared.codec.packet.Packet.{Packet}
use Rattle.mqtt_packet.specs.declared.codec.packet.Packet.TheVariants as packets
use Rattle.mqtt_flow.specs.outbound.Receiver as flow
use Rattle.mqtt_props.specs.declared.table.PropName.TheVariants.{ReceiveMaximum}
use Rattle.mqtt_props.specs.Properties.{Prop, U16}
use Rattle.mqtt_records.specs.messages.PassedOn.{property}
use Rattle.mqtt_world_model.specs.model.Ends as ends
use Rattle.mqtt_world_model.specs.model.Laws.{copies_in}
use Rattle.mqtt_script.specs.declared.event.Wish.{Wish}
use Rattle.mqtt_world_ends.specs.declared.peers.back.BackPacket.{BackPacket}
use Rattle.mqtt_world_ends.specs.declared.peers.back.BackPacket.TheVariants.{Connect, Puback, Pubrec, Pubcomp, Subscribe}

abbrev pub wish_of : Wish → ends.Wish
wish_of w = record { filter = w.filter; options = w.options; identifier = w.identifier }

abbrev pub back_of : BackPacket → ends.Back
back_of (Connect clean) = ends.answers (flow.connect clean)
back_of (Puback identifier code) = ends.answers (flow.puback identifier code)
back_of (Pubrec identifier code) = ends.answers (flow.pubrec identifier code)
back_of (Pubcomp identifier code) = ends.answers (flow.pubcomp identifier code)
back_of (Subscribe wish) = ends.asks_for (wish_of wish)

-- the property of a CONNECT that tells a Receive Maximum, if it has one (3.1.2.11.3)
abbrev pub windowed : Option ℕ → List Prop
windowed None = []
windowed (Some window) = property ReceiveMaximum (U16 window) ∷ []

-- what it makes of a packet that carries no message
abbrev pub hears_control : Bool → Packet → ends.Receiver → ends.Receiver
hears_control stands (packets.Publish p) r = r
hears_control stands packet r = ends.hears stands None packet r

abbrev pub IsControl : Packet → Type 0
IsControl packet = (p : Publish) → packet ≡ packets.Publish p → ⊥

-- ---- what was handed over

abbrev pub number_of : CopyId → ℕ
number_of c = c.publication

abbrev pub publication_of : ends.Entry → Option ℕ
publication_of e = option_map number_of e.copy

abbrev pub publications_of : List ends.Entry → List ℕ
publications_of es = map number_of (copies_in es)
