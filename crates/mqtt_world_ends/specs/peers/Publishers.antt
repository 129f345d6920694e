-- What a publisher in code sends and reads, as the definitions have it (MQTT 5.0, 4.3).
use Rattle.std.specs.Prelude.{Bool, false, List, [], ◌∷◌, length, nat_lt}
use Rattle.mqtt_base.specs.declared.limits.TheConstants.{OPEN_LIMIT}
use Rattle.mqtt_flow.specs.inbound.Publisher as hop
use Rattle.mqtt_world_ends.specs.handshakes.Fates.{packet_of}
use Rattle.mqtt_world_model.specs.model.Ends as ends
use Rattle.mqtt_script.specs.declared.event.Content.{Content}
use Rattle.mqtt_script.specs.declared.event.Draft.{Draft}
use Rattle.mqtt_world_ends.specs.declared.peers.heard.ToPublisher.{ToPublisher}
use Rattle.mqtt_world_ends.specs.declared.peers.heard.ToPublisher.TheVariants.{Connack, ConnackRefused, Puback, Pubrec, Pubcomp}
use Rattle.mqtt_world_ends.specs.declared.peers.heard.ToPublisher.TheVariants.{Disconnect}
use Rattle.mqtt_world_ends.specs.declared.peers.sent.SentPacket.{SentPacket}
use Rattle.mqtt_world_ends.specs.declared.peers.sent.SentPacket.TheVariants as sent

abbrev pub content_of : Content → ends.Content
content_of c = record { retain = c.retain; topic = c.topic; payload = c.payload }

abbrev pub draft_of : Draft → ends.Draft
draft_of d = record { qos = d.qos; content = content_of d.content }

-- ---- what it sends

abbrev pub sent_of : SentPacket → ends.Sent
sent_of (sent.Shake packet) = ends.shake (packet_of packet)
sent_of (sent.Plain content) = ends.plain (content_of content)

-- ---- what it reads

abbrev pub told_of : ToPublisher → hop.ToPublisher
told_of (Connack present) = hop.CONNACK present
told_of (ConnackRefused code) = hop.CONNACK_REFUSED code
told_of (Puback identifier code) = hop.PUBACK identifier code
told_of (Pubrec identifier code) = hop.PUBREC identifier code
told_of (Pubcomp identifier code) = hop.PUBCOMP identifier code
told_of (Disconnect code) = hop.DISCONNECT code

-- ---- unsent messages go out one by one

-- there is one that may go out: fewer than the Receive Maximum are in flight (4.9)
abbrev pub may_go : List ends.Draft → ends.Publisher → Bool
may_go [] p = false
may_go (d ∷ rest) p = nat_lt (length (hop.in_flight p.fates)) OPEN_LIMIT

-- the first goes out
abbrev pub front_out : Bool → List ends.Draft → ends.Publisher → ends.Publisher
front_out stands [] p = p
front_out stands (d ∷ rest) p = ends.goes_out stands d.qos d.content rest p
