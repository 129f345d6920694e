-- The flags of a CONNECT (MQTT 5.0, 3.1.2.3).
use Rattle.std.specs.Prelude.{ℕ, ◌+◌, ◌*◌, ◌/◌, ◌%◌, Bool, true, false, ◌&&◌, not, Option, Some, None, ◌==◌, if◌then◌else◌}
use Rattle.mqtt_base.specs.declared.session.Qos.{Qos}
use Rattle.mqtt_base.specs.Service.{qos_number}
use Rattle.mqtt_packet.specs.parts.Bits.{bit, qos_of}
use Rattle.mqtt_packet.specs.declared.connect.connect_flags.Flags.{Flags}
use Rattle.mqtt_packet.specs.declared.connect.connect_flags.WillFlags.{WillFlags}

-- bit 2 Will, bits 4 and 3 its QoS, bit 5 its RETAIN
abbrev pub will_bits : Option WillFlags → ℕ
will_bits None = 0
will_bits (Some w) = 4 + 8 * qos_number w.qos + 32 * bit w.retain

-- bit 1 Clean Start, bit 6 Password, bit 7 User Name; bit 0 is reserved and 0
abbrev pub flags_byte : Flags → ℕ
flags_byte f = 2 * bit f.clean_start + will_bits f.will + 64 * bit f.password + 128 * bit f.user_name

-- ---- reading

abbrev pub with_qos : Bool → Option Qos → Option (Option WillFlags)
with_qos retain None = None
with_qos retain (Some q) = Some (Some (record { qos = q; retain = retain }))

-- without Will its QoS and RETAIN are 0 (3.1.2.6, 3.1.2.7)
abbrev pub will_flags : Bool → ℕ → Bool → Option (Option WillFlags)
will_flags false q retain = if q == 0 && not retain then Some None else None
will_flags true q retain = with_qos retain (qos_of q)

abbrev pub with_will : ℕ → Option (Option WillFlags) → Option Flags
with_will n None = None
with_will n (Some w) = Some (record { clean_start = n / 2 % 2 == 1; will = w; user_name = n / 128 == 1; password = n / 64 % 2 == 1 })

abbrev pub flags_of : ℕ → Option Flags
flags_of n = if n % 2 == 0 then with_will n (will_flags (n / 4 % 2 == 1) (n / 8 % 4) (n / 32 % 2 == 1)) else None
