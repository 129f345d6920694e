-- The text of the viewer: what `view` prints of a stream of packets (ours).
use Rattle.std.specs.Prelude.{ℕ, ◌==◌, if◌then◌else◌, List, [], ◌∷◌, ◌++◌, length, codes}
use Rattle.std.specs.List.{flat_map}
use Rattle.std.specs.Fmt.{decimal}
use Rattle.mqtt_packet.specs.declared.parts.fault.Fault.{Fault}
use Rattle.mqtt_packet.specs.declared.parts.fault.Fault.TheVariants.{Malformed, Protocol, TooLarge, Version, Memory}
use Rattle.mqtt_packet.specs.stream.Stream.{Item, Ending, short_at, fault_at}
use Rattle.mqtt_cli.specs.declared.viewer.details.Details.{Details}
use Rattle.mqtt_cli.specs.viewer.JsonPacket.{json_fault, json_fault_line, json_line}
use Rattle.mqtt_cli.specs.viewer.PacketText.{packet_text}

abbrev pub line_feed : ℕ
line_feed = 0x0a

-- the line of a packet in words
abbrev pub text_line : Details → Item → List ℕ
text_line details i = decimal i.place ++ packet_text details i.size i.packet ++ line_feed ∷ []

-- the line of a packet, which is an object if that is asked for
abbrev pub line : Details → Item → List ℕ
line details i = if details.json then json_line details.payload i else text_line details i

-- a fault, which is never want of memory
abbrev pub fault_text : Fault → List ℕ
fault_text Malformed = codes " fault Malformed"
fault_text Protocol = codes " fault Protocol"
fault_text TooLarge = codes " fault TooLarge"
fault_text Version = codes " fault Version"
fault_text Memory = []

-- what ends a stream early at this place: its words, or the object of its name
abbrev pub end_line : Details → ℕ → List ℕ → List ℕ → List ℕ
end_line details place words name =
    if details.json then json_fault_line place name else decimal place ++ words ++ line_feed ∷ []

-- the line of a fault at this place
abbrev pub fault_line : Details → ℕ → Fault → List ℕ
fault_line details place fault = end_line details place (fault_text fault) (json_fault fault)

-- the line of the bytes that are left at this place, fewer than a packet has
abbrev pub rest_line : Details → ℕ → ℕ → List ℕ
rest_line details place left = if left == 0 then [] else end_line details place (codes " short") (codes "short")

-- ---- the text

abbrev pub last_line : Details → Ending → List ℕ
last_line details (short_at place left) = rest_line details place (length left)
last_line details (fault_at place fault) = fault_line details place fault

-- a line for each packet, and one for what ends the stream early
abbrev pub view_text : Details → List Item → Ending → List ℕ
view_text details items ending = flat_map (line details) items ++ last_line details ending
