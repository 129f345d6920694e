-- Worked rows of topics that are told, of forms and of sizes, by computing (MQTT 5.0, 3.1.2.11.5, 3.3.2.3.4).
use Rattle.std.proofs.Common.{◌≡◌, ℕ, refl, codes, List, [], ◌∷◌, length, Some, None}
use Rattle.mqtt_base.specs.Values.{varint}
use Rattle.mqtt_topic.specs.declared.sending.form.Form.TheVariants.{Plain, Named, Short}
use Rattle.mqtt_topic.specs.declared.sending.sizes.OtherBytes.{OtherBytes}
use Rattle.mqtt_topic.specs.sending.Told.{ToldTopics, alias_of, forms, most_of, next_alias, none_told, shortened, with_told}
use Rattle.mqtt_topic.specs.sending.Sizes.{form_for, size_in}
use Rattle.mqtt_topic.specs.sending.Said.{Meant, said}

none_was_asked_for : most_of None ≡ 0
none_was_asked_for = refl

three_were_asked_for : most_of (Some 3) ≡ 3
three_were_asked_for = refl

ten_at_most : most_of (Some 65535) ≡ 10
ten_at_most = refl

abbrev told : ToldTopics
told = with_told (codes "c") (with_told (codes "a/b") (none_told 3))

the_first_has_1 : alias_of (codes "a/b") told ≡ Some 1
the_first_has_1 = refl

the_second_has_2 : alias_of (codes "c") told ≡ Some 2
the_second_has_2 = refl

a_third_has_none : alias_of (codes "d") told ≡ None
a_third_has_none = refl

a_third_gets_3 : next_alias told ≡ Some 3
a_third_gets_3 = refl

a_fourth_gets_none : next_alias (with_told (codes "d") told) ≡ None
a_fourth_gets_none = refl

the_second_is_taken_back : shortened 1 told ≡ with_told (codes "a/b") (none_told 3)
the_second_is_taken_back = refl

known_is_said_short : forms told (codes "c") ≡ Short 2 ∷ Plain ∷ []
known_is_said_short = refl

new_is_named : forms told (codes "d") ≡ Named 3 ∷ Plain ∷ []
new_is_named = refl

without_a_number_it_is_plain : forms (none_told 0) (codes "d") ≡ Plain ∷ []
without_a_number_it_is_plain = refl

-- Three PUBLISH packets of QoS 2 to a client that takes one alias: a/b, a/b and a/c, with an identifier of two bytes, no other property, and the
-- payload 68 69.
abbrev other : OtherBytes
other = record { properties = 0; rest = 4 }

abbrev first : List ℕ
first = 0x34 ∷ 0x0d ∷ 0x00 ∷ 0x03 ∷ 0x61 ∷ 0x2f ∷ 0x62 ∷ 0x00 ∷ 0x01 ∷ 0x03 ∷ 0x23 ∷ 0x00 ∷ 0x01 ∷ 0x68 ∷ 0x69 ∷ []

abbrev second : List ℕ
second = 0x34 ∷ 0x0a ∷ 0x00 ∷ 0x00 ∷ 0x00 ∷ 0x02 ∷ 0x03 ∷ 0x23 ∷ 0x00 ∷ 0x01 ∷ 0x68 ∷ 0x69 ∷ []

abbrev third : List ℕ
third = 0x34 ∷ 0x0a ∷ 0x00 ∷ 0x03 ∷ 0x61 ∷ 0x2f ∷ 0x63 ∷ 0x00 ∷ 0x03 ∷ 0x00 ∷ 0x68 ∷ 0x69 ∷ []

named_has_15_bytes : size_in (Named 1) (codes "a/b") other ≡ Some (length first)
unfolding varint
named_has_15_bytes = refl

short_has_12_bytes : size_in (Short 1) (codes "a/b") other ≡ Some (length second)
unfolding varint
short_has_12_bytes = refl

plain_has_12_bytes : size_in Plain (codes "a/c") other ≡ Some (length third)
unfolding varint
plain_has_12_bytes = refl

abbrev meant : List ℕ → Meant
meant topic = record { topic = topic; other = other }

abbrev three : List Meant
three = meant (codes "a/b") ∷ meant (codes "a/b") ∷ meant (codes "a/c") ∷ []

the_three_go_out : said 100 (none_told 1) three ≡ record { topic = codes "a/b"; form = Named 1 } ∷ record { topic = codes "a/b"; form = Short 1 } ∷ record { topic = codes "a/c"; form = Plain } ∷ []
unfolding varint
the_three_go_out = refl

-- a client that takes 14 bytes is told nothing: the packet that would tell it has 15
too_large_to_be_named : said 14 (none_told 1) three ≡ record { topic = codes "a/b"; form = Plain } ∷ record { topic = codes "a/b"; form = Plain } ∷ record { topic = codes "a/c"; form = Plain } ∷ []
unfolding varint
too_large_to_be_named = refl

too_large_in_each : said 11 (none_told 1) three ≡ []
unfolding varint
too_large_in_each = refl

-- the short form alone is within
short_alone : form_for 17 (with_told (codes "long/topic") (none_told 1)) (codes "long/topic") other ≡ Some (Short 1)
unfolding varint
short_alone = refl

-- a topic of one byte: the short form is longer, and isn't within
plain_alone : form_for 10 (with_told (codes "a") (none_told 1)) (codes "a") other ≡ Some Plain
unfolding varint
plain_alone = refl

-- 125 bytes of properties and the alias's three: their length takes a byte more
a_byte_more : size_in (Named 1) (codes "a") (record { properties = 125; rest = 0 }) ≡ Some 136
unfolding varint
a_byte_more = refl

no_spelling : size_in Plain (codes "a") (record { properties = 0; rest = 268435452 }) ≡ None
unfolding varint
no_spelling = refl

just_a_spelling : size_in Plain (codes "a") (record { properties = 0; rest = 268435451 }) ≡ Some 268435460
unfolding varint
just_a_spelling = refl
