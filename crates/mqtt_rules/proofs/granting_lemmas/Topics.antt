-- The topic that a PUBLISH means, and that of a Will that is taken, are topic names.
use Rattle.mqtt_props.specs.Laws.{has}
use Rattle.mqtt_props.specs.declared.table.PropName.TheVariants.{SubscriptionIdentifier, TopicAlias}
use Rattle.mqtt_records.specs.messages.PassedOn.{number_at}
use Rattle.mqtt_packet.specs.declared.codec.publish.Publish.{Publish as Publication}
use Rattle.mqtt_rules.proofs.step_lemmas.acts.Meanings.{identified_only, resolved_only}
use Rattle.mqtt_rules.specs.step.Inbound.{Means, meaning, resolved}
use Rattle.mqtt_topic.specs.names.Aliases.{AliasTable, Resolves, topic_of}
use Rattle.mqtt_topic.specs.names.Names.{IsTopicName, has_wildcard, is_empty, is_topic_name}
use Rattle.std.proofs.Common.{Bool, List, None, Option, Some, [], false, inl, inr, nat_eq, not, refl, subst, sym, true, ℕ, ◌&&◌, ◌∷◌, ◌≡◌, ◌≢◌}
use Rattle.std.proofs.lemmas.Bool.{cases_Bool}
use Rattle.std.specs.List.{AllByRecursion}

two : (a b : Bool) → (a && b) ≡ true → (a ≡ true) × (b ≡ true)
two true true e = (refl, refl)
two true false e = absurd cc
two false b e = absurd cc

some_text : (text : List ℕ) → not (is_empty text) ≡ true → text ≢ []
some_text [] h = absurd cc
some_text (c ∷ cs) h = λ e. absurd cc

not_false : (t : Bool) → not t ≡ true → t ≡ false
not_false true h = absurd cc
not_false false h = refl

not_true : (t : Bool) → not t ≡ false → t ≡ true
not_true true h = refl
not_true false h = absurd cc

-- a text that passes the test is a topic name
pub topic_name : (text : List ℕ) → not (is_topic_name text) ≡ false → IsTopicName text
topic_name text h =
    let parts = two (not (is_empty text)) (not (has_wildcard text)) (not_true (is_topic_name text) h) in
    record { some = some_text text parts.0; plain = not_false (has_wildcard text) parts.1 }

known_name : (alias : ℕ) (name : List ℕ) (ts : List (ℕ × List ℕ)) → AllByRecursion (λ e. IsTopicName e.1) ts → topic_of alias ts ≡ Some name → IsTopicName name
known_name alias name [] h e = absurd cc
known_name alias name (t ∷ ts) h e = elim (cases_Bool (nat_eq alias t.0)) [
  | inl here ↦
      let first : Some t.1 ≡ Some name = rw here at e in
      let same : t.1 ≡ name = cc in
      subst IsTopicName same h.0
  | inr other ↦ known_name alias name ts h.1 (rw other at e)
]

resolved_name : (table : AliasTable) (topic : List ℕ) (alias : Option ℕ) (name : List ℕ) → AllByRecursion (λ e. IsTopicName e.1) table.topics → Resolves table topic alias name → IsTopicName name
resolved_name table topic None name h r = subst IsTopicName (sym r.0) r.1
resolved_name table [] (Some alias) name h r = known_name alias name table.topics h r.1
resolved_name table (c ∷ cs) (Some alias) name h r = subst IsTopicName (sym r.1) r.2

-- the topic that a PUBLISH means, if the aliases of its line stand for topic names
pub meant_name : (p : Publication) (table : AliasTable) (topic : List ℕ) → AllByRecursion (λ e. IsTopicName e.1) table.topics → meaning p table ≡ Means topic → IsTopicName topic
meant_name p table topic h is =
    let alias = number_at TopicAlias p.properties in
    resolved_name table p.topic alias topic h (resolved_only table p.topic alias topic (identified_only (has SubscriptionIdentifier p.properties) (resolved table p.topic alias) topic is))
