-- Worked events that are bad, beside the nearest that are not: a name, a topic and a filter that are no text, a Receive
-- Maximum or a Topic Alias Maximum that no CONNECT carries, a SUBSCRIBE that no client may send, and a stranger's numbers that
-- are no bytes (MQTT 5.0, 1.5.4, 2.1, 3.1.2.11.3, 3.1.2.11.5, 3.8.2.1.2, 3.8.3.1).
use Rattle.std.proofs.Common.{◌≡◌, ℕ, true, false, Bool, List, [], ◌∷◌, Some, refl}
use Rattle.std.specs.Prelude.{codes, replicate}
use Rattle.std.specs.Str.{is_utf8, chars}
use Rattle.std.proofs.Math.Utf8.{encode}
use Rattle.mqtt_base.specs.Values.{varint}
use Rattle.mqtt_base.specs.Reading.{groups_at, varint_at}
use Rattle.mqtt_base.specs.declared.session.Qos.TheVariants.{ExactlyOnce}
use Rattle.mqtt_packet.specs.stream.Front.{size_at, first_of}
use Rattle.mqtt_rules.proofs.step_lemmas.examples.Play.{usual, options}
use Rattle.mqtt_world_model.specs.model.Ends.{Draft, Wish}
use Rattle.mqtt_world_model.specs.model.World.{World, publisher, receiver, publish, subscribe, ask, stop_before, stranger, is_bad, start}
use Rattle.mqtt_world_model.specs.model.Run.{after}
use Rattle.mqtt_world_model.proofs.model_lemmas.examples.Scripts.{turns, p1, r1, draft, wish, joins}

-- ---- a name

-- that has a byte 0
pub a_name_with_byte_0_is_bad : is_bad (publisher (0x70 ∷ 0x00 ∷ [])) start ≡ true
unfolding is_utf8 chars encode
a_name_with_byte_0_is_bad = refl

-- a byte 1
pub a_name_with_byte_1_is_good : is_bad (publisher (0x70 ∷ 0x01 ∷ [])) start ≡ false
unfolding is_utf8 chars encode
a_name_with_byte_1_is_good = refl

-- a byte 255
pub a_name_with_byte_255_is_bad : is_bad (receiver (0x72 ∷ 0xff ∷ []) 1 0) start ≡ true
unfolding is_utf8 chars encode
a_name_with_byte_255_is_bad = refl

-- a byte 127
pub a_name_with_byte_127_is_good : is_bad (receiver (0x72 ∷ 0x7f ∷ []) 1 0) start ≡ false
unfolding is_utf8 chars encode
a_name_with_byte_127_is_good = refl

-- ---- p1 publishes

abbrev to_topic : List ℕ → Draft
to_topic topic = record draft { content = record draft.content { topic = topic } }

abbrev bad_to : List ℕ → Bool
bad_to topic = is_bad (publish p1 (to_topic topic)) (after usual (turns (publisher p1 ∷ [])))

-- to a topic that has a byte 0
pub a_topic_with_byte_0_is_bad : bad_to (0x61 ∷ 0x00 ∷ []) ≡ true
unfolding varint is_utf8 chars encode
a_topic_with_byte_0_is_bad = refl

-- a byte 1
pub a_topic_with_byte_1_is_good : bad_to (0x61 ∷ 0x01 ∷ []) ≡ false
unfolding varint is_utf8 chars encode
a_topic_with_byte_1_is_good = refl

-- a byte 255
pub a_topic_with_byte_255_is_bad : bad_to (0x61 ∷ 0xff ∷ []) ≡ true
unfolding varint is_utf8 chars encode
a_topic_with_byte_255_is_bad = refl

-- a byte 127
pub a_topic_with_byte_127_is_good : bad_to (0x61 ∷ 0x7f ∷ []) ≡ false
unfolding varint is_utf8 chars encode
a_topic_with_byte_127_is_good = refl

-- ---- a receiver

-- a Receive Maximum of 0
pub no_window_is_bad : is_bad (receiver r1 0 0) start ≡ true
unfolding is_utf8 chars encode
no_window_is_bad = refl

-- of 1
pub the_least_window_is_good : is_bad (receiver r1 1 0) start ≡ false
unfolding is_utf8 chars encode
the_least_window_is_good = refl

-- of 65,535
pub the_greatest_window_is_good : is_bad (receiver r1 65535 0) start ≡ false
unfolding is_utf8 chars encode
the_greatest_window_is_good = refl

-- of more
pub a_window_of_three_bytes_is_bad : is_bad (receiver r1 65536 0) start ≡ true
unfolding is_utf8 chars encode
a_window_of_three_bytes_is_bad = refl

-- a Topic Alias Maximum of 65,535
pub the_most_aliases_are_good : is_bad (receiver r1 1 65535) start ≡ false
unfolding is_utf8 chars encode
the_most_aliases_are_good = refl

-- of more
pub aliases_of_three_bytes_are_bad : is_bad (receiver r1 1 65536) start ≡ true
unfolding is_utf8 chars encode
aliases_of_three_bytes_are_bad = refl

-- ---- r1 may ask, and wishes

abbrev joined : World
joined = after usual (turns (receiver r1 10 0 ∷ joins r1 false))

-- with a Subscription Identifier
abbrev with_number : ℕ → Wish
with_number n = record wish { identifier = Some n }

abbrev to_filter : Bool → List ℕ → Wish
to_filter local filter = record wish { filter = filter; options = record (options ExactlyOnce) { no_local = local } }

abbrev bad : Wish → Bool
bad x = is_bad (subscribe r1 x) joined

-- a subscription as others are
pub a_usual_wish_is_good : bad wish ≡ false
unfolding varint is_utf8 chars encode
a_usual_wish_is_good = refl

-- a Subscription Identifier of 0
pub number_0_is_bad : bad (with_number 0) ≡ true
unfolding varint is_utf8 chars encode
number_0_is_bad = refl

-- of 1
pub number_1_is_good : bad (with_number 1) ≡ false
unfolding varint is_utf8 chars encode
number_1_is_good = refl

-- of 268,435,455
pub the_greatest_number_is_good : bad (with_number 268435455) ≡ false
unfolding varint is_utf8 chars encode
the_greatest_number_is_good = refl

-- of more
pub a_number_of_five_bytes_is_bad : bad (with_number 268435456) ≡ true
unfolding varint is_utf8 chars encode
a_number_of_five_bytes_is_bad = refl

-- a shared filter goes without No Local
pub a_shared_filter_is_good : bad (to_filter false (codes "$share/g/a")) ≡ false
unfolding varint is_utf8 chars encode
a_shared_filter_is_good = refl

-- No Local of a shared filter
pub no_local_of_a_shared_filter_is_bad : bad (to_filter true (codes "$share/g/a")) ≡ true
unfolding varint is_utf8 chars encode
no_local_of_a_shared_filter_is_bad = refl

-- of another
pub no_local_is_good : bad (to_filter true (codes "a/b")) ≡ false
unfolding varint is_utf8 chars encode
no_local_is_good = refl

-- a SUBSCRIBE of 65,537 bytes is more than a line lets through
pub the_longest_filter_is_good : bad (to_filter false (replicate 65526 97)) ≡ false
unfolding varint is_utf8 chars encode
the_longest_filter_is_good = refl

-- a filter with which no SUBSCRIBE has a spelling
pub a_longer_filter_is_bad : bad (to_filter false (replicate 65527 97)) ≡ true
unfolding varint is_utf8 chars encode
a_longer_filter_is_bad = refl

-- a filter that has a byte 0
pub a_filter_with_byte_0_is_bad : bad (to_filter false (0x61 ∷ 0x00 ∷ [])) ≡ true
unfolding varint is_utf8 chars encode
a_filter_with_byte_0_is_bad = refl

-- a byte 1
pub a_filter_with_byte_1_is_good : bad (to_filter false (0x61 ∷ 0x01 ∷ [])) ≡ false
unfolding varint is_utf8 chars encode
a_filter_with_byte_1_is_good = refl

-- a byte 255
pub a_filter_with_byte_255_is_bad : bad (to_filter false (0x61 ∷ 0xff ∷ [])) ≡ true
unfolding varint is_utf8 chars encode
a_filter_with_byte_255_is_bad = refl

-- a byte 127
pub a_filter_with_byte_127_is_good : bad (to_filter false (0x61 ∷ 0x7f ∷ [])) ≡ false
unfolding varint is_utf8 chars encode
a_filter_with_byte_127_is_good = refl

-- ---- a stranger

abbrev bad_number : ℕ → Bool
bad_number n = is_bad (ask (stranger (codes "s1") (0x30 ∷ n ∷ []))) start

-- sends what is no byte
pub number_256_is_no_byte : bad_number 256 ≡ true
unfolding first_of size_at varint_at groups_at
number_256_is_no_byte = refl

-- the greatest byte
pub number_255_is_a_byte : bad_number 255 ≡ false
unfolding first_of size_at varint_at groups_at
number_255_is_a_byte = refl

-- what is no byte comes with a stop
pub number_256_is_no_byte_with_a_stop : is_bad (stop_before (stranger (codes "s1") (0x30 ∷ 256 ∷ []))) start ≡ true
unfolding first_of size_at varint_at groups_at
number_256_is_no_byte_with_a_stop = refl
