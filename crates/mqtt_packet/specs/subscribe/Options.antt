-- The options of a subscription as a byte (MQTT 5.0, 3.8.3.1).
use Rattle.std.specs.Prelude.{ℕ, zero, suc, ◌+◌, ◌*◌, ◌/◌, ◌%◌, Option, Some, None, ◌==◌}
use Rattle.mqtt_base.specs.declared.session.Qos.{Qos}
use Rattle.mqtt_base.specs.declared.session.RetainHandling.{RetainHandling}
use Rattle.mqtt_base.specs.declared.session.RetainHandling.TheVariants.{SendAlways, SendIfNew, DoNotSend}
use Rattle.mqtt_base.specs.declared.session.SubscriptionOptions.{SubscriptionOptions}
use Rattle.mqtt_base.specs.Service.{qos_number}
use Rattle.mqtt_packet.specs.parts.Bits.{bit, qos_of}

abbrev pub handling_number : RetainHandling → ℕ
handling_number SendAlways = 0
handling_number SendIfNew = 1
handling_number DoNotSend = 2

-- bits 0 and 1 the maximum QoS, 2 No Local, 3 Retain As Published, 4 and 5 Retain Handling; bits 6 and 7 are 0
abbrev pub options_byte : SubscriptionOptions → ℕ
options_byte o = qos_number o.qos + 4 * bit o.no_local + 8 * bit o.retain_as_published + 16 * handling_number o.retain_handling

-- ---- reading

abbrev pub handling_of : ℕ → Option RetainHandling
handling_of zero = Some SendAlways
handling_of (suc zero) = Some SendIfNew
handling_of (suc (suc zero)) = Some DoNotSend
handling_of (suc (suc (suc n))) = None

abbrev pub with_bits : ℕ → Option Qos → Option RetainHandling → Option SubscriptionOptions
with_bits n None h = None
with_bits n (Some q) None = None
with_bits n (Some q) (Some h) = Some (record { qos = q; no_local = n / 4 % 2 == 1; retain_as_published = n / 8 % 2 == 1; retain_handling = h })

-- the options that the byte says, if its bits are lawful
abbrev pub options_of : ℕ → Option SubscriptionOptions
options_of n = with_bits n (qos_of (n % 4)) (handling_of (n / 16))
