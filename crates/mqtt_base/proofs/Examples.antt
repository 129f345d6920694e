-- Worked examples of the definitions, computed (MQTT 5.0, 1.5.4, 1.5.5 and 2.4).
use Rattle.std.proofs.Common.{◌≡◌, [], ◌∷◌, true, false, Ok, Err, refl}
use Rattle.std.specs.Str.{is_utf8, chars}
use Rattle.std.proofs.Math.Utf8.{encode}
use Rattle.mqtt_base.specs.declared.fault.ReadFault.TheVariants.{Short, Overlong, BadText}
use Rattle.mqtt_base.specs.declared.kind.Kind.TheVariants.{Connack, Publish, Puback, Disconnect}
use Rattle.mqtt_base.specs.Values.{varint, sevens, is_text}
use Rattle.mqtt_base.specs.Reasons.{is_code}
use Rattle.mqtt_base.specs.Reading.{groups_at, varint_at, blob_at, text_at}

-- Table 1-1 of 1.5.5, by the groups and by the function
sevens_128 : sevens (0x80 ∷ 0x01 ∷ []) ≡ 128
sevens_128 = refl

sevens_most : sevens (0xFF ∷ 0xFF ∷ 0xFF ∷ 0x7F ∷ []) ≡ 268435455
sevens_most = refl

varint_127 : varint 127 ≡ 0x7F ∷ []
unfolding varint
varint_127 = refl

varint_128 : varint 128 ≡ 0x80 ∷ 0x01 ∷ []
unfolding varint
varint_128 = refl

varint_16383 : varint 16383 ≡ 0xFF ∷ 0x7F ∷ []
unfolding varint
varint_16383 = refl

varint_2097152 : varint 2097152 ≡ 0x80 ∷ 0x80 ∷ 0x80 ∷ 0x01 ∷ []
unfolding varint
varint_2097152 = refl

varint_most : varint 268435455 ≡ 0xFF ∷ 0xFF ∷ 0xFF ∷ 0x7F ∷ []
unfolding varint
varint_most = refl

-- what is read, and why not
reads_127 : varint_at (0x7F ∷ []) ≡ Ok (127, [])
unfolding varint_at
reads_127 = refl

reads_128 : varint_at (0x80 ∷ 0x01 ∷ 0x2A ∷ []) ≡ Ok (128, 0x2A ∷ [])
unfolding varint_at groups_at
reads_128 = refl

ends_inside : varint_at (0x80 ∷ []) ≡ Err Short
unfolding varint_at groups_at
ends_inside = refl

zero_last : varint_at (0x80 ∷ 0x00 ∷ []) ≡ Err Overlong
unfolding varint_at groups_at
zero_last = refl

five_bytes : varint_at (0xFF ∷ 0xFF ∷ 0xFF ∷ 0xFF ∷ 0x01 ∷ []) ≡ Err Overlong
unfolding varint_at groups_at
five_bytes = refl

-- the example of 1.5.4: U+0041 and U+2A6D4
text_A : is_text (0x41 ∷ 0xF0 ∷ 0xAA ∷ 0x9B ∷ 0x94 ∷ []) ≡ true
unfolding is_utf8 chars encode
text_A = refl

feff_kept : is_text (0xEF ∷ 0xBB ∷ 0xBF ∷ []) ≡ true
unfolding is_utf8 chars encode
feff_kept = refl

null_refused : is_text (0x41 ∷ 0x00 ∷ []) ≡ false
unfolding is_utf8 chars encode
null_refused = refl

surrogate_refused : is_text (0xED ∷ 0xA0 ∷ 0x80 ∷ []) ≡ false
unfolding is_utf8 chars encode
surrogate_refused = refl

overlong_refused : is_text (0xC0 ∷ 0x80 ∷ []) ≡ false
unfolding is_utf8 chars encode
overlong_refused = refl

reads_text : text_at (0 ∷ 1 ∷ 0x41 ∷ 0x42 ∷ []) ≡ Ok (0x41 ∷ [], 0x42 ∷ [])
unfolding text_at blob_at is_utf8 chars encode
reads_text = refl

bad_text : text_at (0 ∷ 1 ∷ 0x00 ∷ []) ≡ Err BadText
unfolding text_at blob_at is_utf8 chars encode
bad_text = refl

short_text : text_at (0 ∷ 2 ∷ 0x00 ∷ []) ≡ Err Short
unfolding text_at blob_at is_utf8 chars encode
short_text = refl

-- one code that a packet may have, and one that it may not
connack_takes : is_code Connack 0x8A ≡ true
connack_takes = refl

connack_refuses : is_code Connack 0x8B ≡ false
connack_refuses = refl

puback_refuses : is_code Puback 0x11 ≡ false
puback_refuses = refl

disconnect_takes : is_code Disconnect 0x95 ≡ true
disconnect_takes = refl

disconnect_refuses : is_code Disconnect 0x91 ≡ false
disconnect_refuses = refl

publish_refuses : is_code Publish 0x00 ≡ false
publish_refuses = refl
