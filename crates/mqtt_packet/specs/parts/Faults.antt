-- Reason codes that answer a fault (MQTT 5.0, 4.13).
use Rattle.std.specs.Prelude.{ℕ, Option, Some, None}
use Rattle.mqtt_base.specs.declared.reason.Reason.{Reason}
use Rattle.mqtt_base.specs.Codes.{malformed_packet, protocol_error, packet_too_large, unsupported_protocol_version}
use Rattle.mqtt_packet.specs.declared.parts.fault.Fault.{Fault}
use Rattle.mqtt_packet.specs.declared.parts.fault.Fault.TheVariants.{Malformed, Protocol, TooLarge, Version, Memory}

abbrev pub code : ℕ → Option Reason
code n = Some (record { 0 = n })

-- the code of CONNACK or DISCONNECT that tells of the fault; want of memory has none
abbrev pub answer_to : Fault → Option Reason
answer_to Malformed = code malformed_packet
answer_to Protocol = code protocol_error
answer_to TooLarge = code packet_too_large
answer_to Version = code unsupported_protocol_version
answer_to Memory = None
