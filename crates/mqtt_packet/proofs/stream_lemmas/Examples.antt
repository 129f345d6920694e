-- What fronts of streams begin with, by computing (2.1).
use Rattle.std.proofs.Common.{◌≡◌, [], ◌∷◌, None, Ok, Err, refl}
use Rattle.mqtt_base.specs.Reading.{groups_at, varint_at}
use Rattle.mqtt_packet.specs.declared.parts.fault.Fault.TheVariants.{Malformed, TooLarge}
use Rattle.mqtt_packet.specs.stream.Front.{size_at, first_of}

-- 30 fc ff 03 begins a packet of 65,536 bytes
greatest : first_of (0x30 ∷ 0xfc ∷ 0xff ∷ 0x03 ∷ []) ≡ Ok None
unfolding first_of size_at varint_at groups_at
greatest = refl

-- 30 fd ff 03 begins one of 65,537
too_large : first_of (0x30 ∷ 0xfd ∷ 0xff ∷ 0x03 ∷ []) ≡ Err TooLarge
unfolding first_of size_at varint_at groups_at
too_large = refl

-- c1: a PINGREQ with a flag
wrong_flags : first_of (0xc1 ∷ []) ≡ Err Malformed
unfolding first_of size_at
wrong_flags = refl

-- c0 80 00: an overlong Remaining Length
overlong : first_of (0xc0 ∷ 0x80 ∷ 0x00 ∷ []) ≡ Err Malformed
unfolding first_of size_at varint_at groups_at
overlong = refl

-- c0
waits : first_of (0xc0 ∷ []) ≡ Ok None
unfolding first_of size_at varint_at groups_at
waits = refl
