-- Worked states: two brokers for which a message waits that says something else, and others that are not alike (MQTT 5.0,
-- 3.3, 4.6).
use Rattle.std.proofs.Common.{◌≡◌, ℕ, suc, arith, true, false, List, [], ◌∷◌, ◌++◌, length, refl, ap}
use Rattle.std.specs.Prelude.{codes}
use Rattle.mqtt_base.specs.Values.{varint}
use Rattle.mqtt_base.specs.declared.session.Qos.TheVariants.{ExactlyOnce}
use Rattle.mqtt_props.specs.declared.table.PropName.TheVariants.{PayloadFormatIndicator}
use Rattle.mqtt_props.specs.Properties.{Prop, Byte}
use Rattle.mqtt_topic.specs.declared.sending.form.Form.TheVariants.{Short}
use Rattle.mqtt_topic.specs.declared.sending.sizes.OtherBytes.{OtherBytes}
use Rattle.mqtt_topic.specs.sending.Told.{none_told, with_told}
use Rattle.mqtt_packet.specs.declared.codec.publish.Delivery.TheVariants as delivery
use Rattle.mqtt_flow.specs.declared.outbound.entry.QueuedCopy.{QueuedCopy}
use Rattle.mqtt_records.specs.declared.messages.message.MessageCopy.{MessageCopy}
use Rattle.mqtt_records.specs.messages.PassedOn.{property}
use Rattle.mqtt_records.specs.messages.Slim.{zeros}
use Rattle.mqtt_rules.specs.step.Forms.{form_size}
use Rattle.mqtt_rules.specs.step.State.{Broker, queued_copy, told_on}
use Rattle.mqtt_rules.specs.step.Step.{Input, Pump}
use Rattle.mqtt_rules.proofs.step_lemmas.examples.Play.{blank, at, runs, tells, topic, direct}
use Rattle.mqtt_rules.proofs.step_lemmas.examples.WorkedCopies.{subscribed_at, publishes}
use Rattle.mqtt_rules.specs.alike.Alike.{AlikeCopies, AlikeBrokers}

-- r1 is subscribed at QoS 2, and p1 publishes this
abbrev waits : List ℕ → Broker
waits payload = runs (subscribed_at ExactlyOnce ++ at 0 (Input 2 (publishes (delivery.ExactlyOnce false 10) false [] payload)) ∷ []) blank

-- other words of the same length are alike, and a pump sends each broker's own
pub other_words_are_alike : AlikeBrokers (waits (codes "hi")) (waits (codes "ho"))
unfolding varint
other_words_are_alike = record {
  rest = refl;
  records = record {
    rest = refl;
    sessions = (record { rest = refl; queue = (record { place = refl; phase = refl; copy = record { seen = refl; retain = refl; topic = refl; others = refl } }, tt) }, (record { rest = refl; queue = tt }, tt));
  };
}

-- a waiting copy goes out with its content
pub the_first_says_its_own : (tells (at 0 (Pump 1)) (waits (codes "hi"))).outputs ≡ (1, publishes (delivery.ExactlyOnce false 1) false [] (codes "hi")) ∷ []
unfolding varint
the_first_says_its_own = refl

-- and an alike one with its own
pub the_other_says_its_own : (tells (at 0 (Pump 1)) (waits (codes "ho"))).outputs ≡ (1, publishes (delivery.ExactlyOnce false 1) false [] (codes "ho")) ∷ []
unfolding varint
the_other_says_its_own = refl

-- ---- copies that are alike, and such as are not

abbrev says : List ℕ → List ℕ → List Prop → List ℕ → MessageCopy
says name identifiers properties payload = record {
  id = direct 1 1;
  qos = ExactlyOnce;
  retain = false;
  identifiers = identifiers;
  content = record { topic = name; properties = properties; payload = payload; arrived = 0 };
}

abbrev retained : MessageCopy → MessageCopy
retained copy = record copy { retain = true }

-- other properties of as many bytes are alike, and a Subscription Identifier is one of them
pub other_properties_are_alike : AlikeCopies (says topic (1 ∷ []) [] (codes "hi")) (says topic [] (property PayloadFormatIndicator (Byte 1) ∷ []) (codes "ho"))
unfolding varint
other_properties_are_alike = record { seen = refl; retain = refl; topic = refl; others = refl }

-- a copy of another size is not alike
pub a_longer_copy_is_not_alike : AlikeCopies (says topic [] [] (codes "hi")) (says topic [] [] (codes "hello")) → ⊥
unfolding varint
a_longer_copy_is_not_alike h = let e : 12 ≡ 15 = ap (λ (c : QueuedCopy). c.size) h.seen in omega (arith, e)

-- nor is one with another RETAIN
pub a_retained_copy_is_not_alike : AlikeCopies (says topic [] [] (codes "hi")) (retained (says topic [] [] (codes "hi"))) → ⊥
a_retained_copy_is_not_alike h = let e : false ≡ true = h.retain in absurd cc

-- nor one with another topic, though it be as large
pub another_topic_is_not_alike : AlikeCopies (says (codes "a/b") [] [] (codes "hi")) (says (codes "a") [] [] (codes "four")) → ⊥
another_topic_is_not_alike h = let e : 3 ≡ 1 = ap (λ (name : List ℕ). length name) h.topic in omega (arith, e)

-- two copies that are as large, and have their bytes elsewhere
abbrev in_properties : MessageCopy
in_properties = says topic (zeros 63) [] []

abbrev in_payload : MessageCopy
in_payload = says topic [] [] (zeros 126)

-- a queue sees no difference
pub both_are_seen_the_same : queued_copy in_properties ≡ queued_copy in_payload
unfolding varint
both_are_seen_the_same = refl

-- they are not alike
pub bytes_elsewhere_are_not_alike : AlikeCopies in_properties in_payload → ⊥
unfolding varint
bytes_elsewhere_are_not_alike h = let e : 126 ≡ 0 = ap (λ (o : OtherBytes). o.properties) h.others in omega (arith, e)

-- for with an alias the first is larger: the length of its properties takes two bytes
pub an_alias_makes_it_larger : form_size (Short 1) in_properties ≡ suc (form_size (Short 1) in_payload)
unfolding varint
an_alias_makes_it_larger = refl

-- ---- brokers that are not alike

abbrev told_nothing : Broker
told_nothing = record blank { tellings = record { line = 1; topics = none_told 4 } ∷ [] }

abbrev told_a_topic : Broker
told_a_topic = record blank { tellings = record { line = 1; topics = with_told topic (none_told 4) } ∷ [] }

-- a client that was told a topic is another than one that was told nothing
pub other_tellings_are_not_alike : AlikeBrokers told_nothing told_a_topic → ⊥
other_tellings_are_not_alike h = let e : 0 ≡ 1 = ap (λ (b : Broker). length (told_on 1 b.tellings).topics) h.rest in omega (arith, e)
