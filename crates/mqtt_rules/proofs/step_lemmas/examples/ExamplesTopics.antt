-- What a PUBLISH means, and why it means none, in the order of the refusals (MQTT 5.0, 3.3.2.1, 3.3.2.3.4, 3.3.4).
use Rattle.std.proofs.Common.{◌≡◌, ℕ, false, List, [], ◌∷◌, map, refl}
use Rattle.std.specs.Prelude.{codes}
use Rattle.mqtt_props.specs.declared.table.PropName.TheVariants.{TopicAlias}
use Rattle.mqtt_props.specs.Properties.{Prop, U16}
use Rattle.mqtt_packet.specs.declared.codec.publish.Publish.{Publish}
use Rattle.mqtt_packet.specs.declared.codec.publish.Delivery.TheVariants as delivery
use Rattle.mqtt_records.specs.messages.PassedOn.{property, identified}
use Rattle.mqtt_rules.specs.step.State.{Line}
use Rattle.mqtt_rules.specs.step.Deeds.{SetAlias, fresh_line, line_after}
use Rattle.mqtt_rules.specs.step.Inbound.{Meaning, Means, Wrong, meaning}

abbrev to : List ℕ → List Prop → Publish
to topic ps = record { delivery = delivery.AtMostOnce; retain = false; topic = topic; properties = ps; payload = [] }

abbrev alias : ℕ → Prop
alias n = property TopicAlias (U16 n)

-- on a line where 3 stands for a/b
abbrev line : Line
line = line_after 0 (SetAlias 3 (codes "a/b")) (fresh_line 1 0)

abbrev meant : List Publish → List Meaning
meant ps = map (λ p. meaning p line.aliases) ps

a_subscription_identifier_comes_first : meant (to (codes "a/+") (alias 11 ∷ identified 1 ∷ []) ∷ to [] (alias 0 ∷ identified 1 ∷ []) ∷ to (codes "x") (identified 1 ∷ []) ∷ [])
    ≡ Wrong 0x82 ∷ Wrong 0x82 ∷ Wrong 0x82 ∷ []
a_subscription_identifier_comes_first = refl

then_the_range_of_the_alias : meant (to (codes "a/+") (alias 11 ∷ []) ∷ to [] (alias 11 ∷ []) ∷ to [] (alias 0 ∷ []) ∷ to (codes "x") (alias 0 ∷ []) ∷ [])
    ≡ Wrong 0x94 ∷ Wrong 0x94 ∷ Wrong 0x94 ∷ Wrong 0x94 ∷ []
then_the_range_of_the_alias = refl

then_whether_it_is_known : meant (to [] (alias 4 ∷ []) ∷ to [] (alias 10 ∷ []) ∷ to [] (alias 3 ∷ []) ∷ [])
    ≡ Wrong 0x82 ∷ Wrong 0x82 ∷ Means (codes "a/b") ∷ []
then_whether_it_is_known = refl

then_the_topic : meant (to (codes "a/+") (alias 3 ∷ []) ∷ to (codes "a/#") [] ∷ to (codes "x") (alias 10 ∷ []) ∷ to (codes "x") [] ∷ [])
    ≡ Wrong 0x90 ∷ Wrong 0x90 ∷ Means (codes "x") ∷ Means (codes "x") ∷ []
then_the_topic = refl
