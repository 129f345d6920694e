-- First bytes: the type in the high four bits, the flags in the low four (MQTT 5.0, 2.1.2, 2.1.3, 3.3.1).
use Rattle.std.specs.Prelude.{ℕ, ◌+◌, ◌*◌, true, false, List, [], ◌∷◌, Option, Some, None, ◌==◌, if◌then◌else◌}
use Rattle.mqtt_base.specs.declared.session.Qos.TheVariants as qos
use Rattle.mqtt_base.specs.Service.{qos_number}
use Rattle.mqtt_packet.specs.parts.Bits.{bit}
use Rattle.mqtt_packet.specs.declared.codec.head.Head.{Head}
use Rattle.mqtt_packet.specs.declared.codec.head.Head.TheVariants as heads

-- PUBLISH has DUP in bit 3, QoS in bits 2 and 1, RETAIN in bit 0
abbrev pub first : Head → ℕ
first heads.Connect = 0x10
first heads.Connack = 0x20
first (heads.Publish dup q retain) = 0x30 + 8 * bit dup + 2 * qos_number q + bit retain
first heads.Puback = 0x40
first heads.Pubrec = 0x50
first heads.Pubrel = 0x62
first heads.Pubcomp = 0x70
first heads.Subscribe = 0x82
first heads.Suback = 0x90
first heads.Unsubscribe = 0xA2
first heads.Unsuback = 0xB0
first heads.Pingreq = 0xC0
first heads.Pingresp = 0xD0
first heads.Disconnect = 0xE0
first heads.Auth = 0xF0

-- the heads that there are: DUP stands with a QoS above 0 alone
abbrev pub all_heads : List Head
all_heads =
    heads.Connect ∷ heads.Connack
    ∷ heads.Publish false qos.AtMostOnce false ∷ heads.Publish false qos.AtMostOnce true
    ∷ heads.Publish false qos.AtLeastOnce false ∷ heads.Publish false qos.AtLeastOnce true
    ∷ heads.Publish true qos.AtLeastOnce false ∷ heads.Publish true qos.AtLeastOnce true
    ∷ heads.Publish false qos.ExactlyOnce false ∷ heads.Publish false qos.ExactlyOnce true
    ∷ heads.Publish true qos.ExactlyOnce false ∷ heads.Publish true qos.ExactlyOnce true
    ∷ heads.Puback ∷ heads.Pubrec ∷ heads.Pubrel ∷ heads.Pubcomp
    ∷ heads.Subscribe ∷ heads.Suback ∷ heads.Unsubscribe ∷ heads.Unsuback
    ∷ heads.Pingreq ∷ heads.Pingresp ∷ heads.Disconnect ∷ heads.Auth ∷ []

-- the first head of the list with this byte
abbrev pub headed : ℕ → List Head → Option Head
headed b [] = None
headed b (h ∷ hs) = if b == first h then Some h else headed b hs

abbrev pub head_of : ℕ → Option Head
head_of b = headed b all_heads
