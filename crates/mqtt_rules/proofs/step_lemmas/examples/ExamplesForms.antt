-- A PUBLISH in its forms, byte by byte, and which of them goes out (MQTT 5.0, 3.1.2.11.4, 3.3.2.1, 3.3.2.3.4).
use Rattle.std.proofs.Common.{◌≡◌, ℕ, Bool, true, false, List, [], ◌∷◌, map, Option, Some, None, refl}
use Rattle.std.specs.Prelude.{codes, replicate}
use Rattle.mqtt_base.specs.Values.{varint}
use Rattle.mqtt_base.specs.declared.session.Qos.TheVariants.{ExactlyOnce}
use Rattle.mqtt_props.specs.declared.table.PropName.TheVariants.{MessageExpiryInterval, UserProperty}
use Rattle.mqtt_props.specs.Properties.{U32, Pair}
use Rattle.mqtt_topic.specs.declared.sending.form.Form.{Form}
use Rattle.mqtt_topic.specs.declared.sending.form.Form.TheVariants.{Plain, Named, Short}
use Rattle.mqtt_topic.specs.sending.Told.{ToldTopics, after_send, none_told, with_told}
use Rattle.mqtt_packet.specs.declared.codec.publish.Publish.{Publish}
use Rattle.mqtt_packet.specs.declared.codec.publish.Delivery.TheVariants as delivery
use Rattle.mqtt_packet.specs.declared.codec.packet.Packet.TheVariants as packets
use Rattle.mqtt_packet.specs.codec.Packets.{shortest_of}
use Rattle.mqtt_records.specs.declared.messages.message.MessageCopy.{MessageCopy}
use Rattle.mqtt_records.specs.messages.PassedOn.{property}
use Rattle.mqtt_rules.specs.step.Forms.{form_for, form_size, in_form, published_of}
use Rattle.mqtt_rules.proofs.step_lemmas.examples.Play.{direct, hi}

abbrev bytes_in : Form → Publish → List ℕ
bytes_in form p = shortest_of (packets.Publish (in_form form p))

-- ---- what goes out

abbrev then_others : Option Form → Publish → List (List ℕ) → List (List ℕ)
then_others None p others = others
then_others (Some form) p others = bytes_in form p ∷ others

-- one after the other to a client, each in its form by what the ones before it told
abbrev goes_out : ℕ → ToldTopics → List Publish → List (List ℕ)
goes_out largest told [] = []
goes_out largest told (p ∷ ps) =
    then_others (form_for largest told p) p (goes_out largest (after_send (form_for largest told p) p.topic told) ps)

-- at QoS 2, with the payload 68 69
abbrev to : Bool → List ℕ → ℕ → Publish
to dup topic id = record { delivery = delivery.ExactlyOnce dup id; retain = false; topic = topic; properties = []; payload = hi }

abbrev three : Bool → List Publish
three dup = to dup (codes "a/b") 1 ∷ to dup (codes "a/b") 2 ∷ to dup (codes "a/c") 3 ∷ []

abbrev behind_first : ℕ → List (List ℕ)
behind_first head =
    (head ∷ 0x0d ∷ 0x00 ∷ 0x03 ∷ 0x61 ∷ 0x2f ∷ 0x62 ∷ 0x00 ∷ 0x01 ∷ 0x03 ∷ 0x23 ∷ 0x00 ∷ 0x01 ∷ 0x68 ∷ 0x69 ∷ [])
    ∷ (head ∷ 0x0a ∷ 0x00 ∷ 0x00 ∷ 0x00 ∷ 0x02 ∷ 0x03 ∷ 0x23 ∷ 0x00 ∷ 0x01 ∷ 0x68 ∷ 0x69 ∷ [])
    ∷ (head ∷ 0x0a ∷ 0x00 ∷ 0x03 ∷ 0x61 ∷ 0x2f ∷ 0x63 ∷ 0x00 ∷ 0x03 ∷ 0x00 ∷ 0x68 ∷ 0x69 ∷ [])
    ∷ []

one_alias_for_three : goes_out 0xffffffff (none_told 1) (three false) ≡ behind_first 0x34
unfolding varint
one_alias_for_three = refl

and_again_on_another_connection : goes_out 0xffffffff (none_told 1) (three true) ≡ behind_first 0x3c
unfolding varint
and_again_on_another_connection = refl

no_alias_was_asked_for : goes_out 0xffffffff (none_told 0) (three false) ≡ map (bytes_in Plain) (three false)
unfolding varint
no_alias_was_asked_for = refl

-- the one that would tell the alias has 15 bytes, plain it has 12
too_large_to_be_named : goes_out 14 (none_told 1) (three false) ≡ map (bytes_in Plain) (three false)
unfolding varint
too_large_to_be_named = refl

too_large_in_each : goes_out 11 (none_told 1) (three false) ≡ []
unfolding varint
too_large_in_each = refl

-- ---- one form is too large if another isn't

abbrev told : List ℕ → ToldTopics
told topic = with_told topic (none_told 1)

-- 19 bytes by itself, 12 by its alias
short_alone_is_within : form_for 18 (told (codes "long/topic")) (to false (codes "long/topic") 1) ≡ Some (Short 1)
unfolding varint
short_alone_is_within = refl

-- 10 bytes by itself, 12 by its alias
plain_alone_is_within : form_for 11 (told (codes "a")) (to false (codes "a") 1) ≡ Some Plain
unfolding varint
plain_alone_is_within = refl

-- exactly as large as the client takes
short_of_12_bytes : form_for 12 (told (codes "a")) (to false (codes "a") 1) ≡ Some (Short 1)
unfolding varint
short_of_12_bytes = refl

none_is_within : form_for 9 (told (codes "a")) (to false (codes "a") 1) ≡ None
unfolding varint
none_is_within = refl

-- ---- where the alias stands

-- accepted at 0, with five seconds to live, two Subscription Identifiers and a User Property
abbrev copy : MessageCopy
copy = record {
  id = direct 1 1;
  qos = ExactlyOnce;
  retain = false;
  identifiers = 5 ∷ 6 ∷ [];
  content = record {
    topic = codes "a/b";
    properties = property MessageExpiryInterval (U32 5) ∷ property UserProperty (Pair (codes "a") (codes "b")) ∷ [];
    payload = hi;
    arrived = 0;
  };
}

-- two seconds later: the interval, the identifiers, the alias, the User Property
alias_stands_before_the_user_property : bytes_in (Named 10) (published_of 2000 false 1 copy)
    ≡ 0x34 ∷ 0x1d ∷ 0x00 ∷ 0x03 ∷ 0x61 ∷ 0x2f ∷ 0x62 ∷ 0x00 ∷ 0x01 ∷ 0x13
    ∷ 0x02 ∷ 0x00 ∷ 0x00 ∷ 0x00 ∷ 0x03 ∷ 0x0b ∷ 0x05 ∷ 0x0b ∷ 0x06 ∷ 0x23 ∷ 0x00 ∷ 0x0a
    ∷ 0x26 ∷ 0x00 ∷ 0x01 ∷ 0x61 ∷ 0x00 ∷ 0x01 ∷ 0x62 ∷ 0x68 ∷ 0x69 ∷ []
unfolding varint
alias_stands_before_the_user_property = refl

short_stands_without_its_topic : bytes_in (Short 10) (published_of 2000 false 1 copy)
    ≡ 0x34 ∷ 0x1a ∷ 0x00 ∷ 0x00 ∷ 0x00 ∷ 0x01 ∷ 0x13
    ∷ 0x02 ∷ 0x00 ∷ 0x00 ∷ 0x00 ∷ 0x03 ∷ 0x0b ∷ 0x05 ∷ 0x0b ∷ 0x06 ∷ 0x23 ∷ 0x00 ∷ 0x0a
    ∷ 0x26 ∷ 0x00 ∷ 0x01 ∷ 0x61 ∷ 0x00 ∷ 0x01 ∷ 0x62 ∷ 0x68 ∷ 0x69 ∷ []
unfolding varint
short_stands_without_its_topic = refl

its_size_in_each_form : map (λ form. form_size form copy) (Plain ∷ Named 10 ∷ Short 10 ∷ []) ≡ 28 ∷ 31 ∷ 28 ∷ []
unfolding varint
its_size_in_each_form = refl

-- 125 bytes of properties, and three of the alias: their length takes a byte more
abbrev long_copy : MessageCopy
long_copy = record {
  id = direct 1 1;
  qos = ExactlyOnce;
  retain = false;
  identifiers = [];
  content = record {
    topic = codes "a/b";
    properties = property UserProperty (Pair (replicate 60 97) (replicate 60 98)) ∷ [];
    payload = hi;
    arrived = 0;
  };
}

their_length_takes_a_byte_more : map (λ form. form_size form long_copy) (Plain ∷ Named 1 ∷ []) ≡ 138 ∷ 142 ∷ []
unfolding varint
their_length_takes_a_byte_more = refl
