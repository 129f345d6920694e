-- What a look at a list finds (MQTT 5.0, 2.2.2, 3.3.2.3.3).
use Rattle.std.proofs.Common.{◌≡◌, ℕ, true, false, List, [], ◌∷◌, Option, Some, None, map, refl, ap, subst, ◌∙◌, inl, inr}
use Rattle.std.specs.Prelude.{find}
use Rattle.std.specs.List.{list_any}
use Rattle.std.proofs.lemmas.Bool.{cases_Bool, eqb-true}
use Rattle.mqtt_flow.specs.outbound.Outbound.{expired}
use Rattle.mqtt_records.specs.messages.Queue.{CopyRow}
use Rattle.mqtt_records.specs.messages.PassedOn.{number_at}
use Rattle.mqtt_props.specs.declared.table.PropName.{PropName}
use Rattle.mqtt_props.specs.declared.value.ValueKind.TheVariants as kinds
use Rattle.mqtt_props.specs.declared.value.ValueRef.{ValueRef}
use Rattle.mqtt_props.specs.declared.value.ValueRef.TheVariants as refs
use Rattle.mqtt_props.specs.Views.{value_of}
use Rattle.mqtt_props.specs.Table.{property_row}
use Rattle.mqtt_props.specs.Properties.{Prop, IsProp, kind_of}
use Rattle.mqtt_props.specs.Laws.{has, is_named}
use Rattle.mqtt_props.proofs.TableLemmas.{id_is}
use Rattle.mqtt_base.specs.Values.{FitsText}
use Rattle.mqtt_props.specs.declared.table.PropName.TheVariants.{SubscriptionIdentifier, TopicAlias}
use Rattle.mqtt_packet.specs.declared.codec.publish.Publish.{Publish}
use Rattle.mqtt_topic.specs.declared.names.fault.TopicFault.{TopicFault}
use Rattle.mqtt_topic.specs.declared.names.fault.TopicFault.TheVariants.{Empty, WildcardInName, WildcardPlace, Share, AliasRange, AliasUnknown, Memory, NotText}
use Rattle.mqtt_topic.specs.names.Aliases.{AliasTable, RefusesAlias}
use Rattle.mqtt_topic.specs.names.Names.{RefusesName}
use Rattle.mqtt_rules.specs.step.Inbound.{Wrong, meaning, resolved, topic_code}
use Rattle.mqtt_rules.proofs.step_lemmas.acts.Meanings.{resolved_refused, unless_identified}
use Rattle.mqtt_rules.specs.step.State.{entry_on}
use Rattle.mqtt_rules.specs.step.Tick.{are_some}
use Rattle.mqtt_broker_looks.specs.decided.Verdicts.{RefusesMeaning, is_lapsed, unmeant_by}

-- ---- what is found has the name, and so the kind that the table says

found_is : (name : PropName) (ps : List Prop) (p : Prop) → find (is_named name) ps ≡ Some p → is_named name p ≡ true
found_is name [] p e = absurd cc
found_is name (q ∷ ps) p e = elim (cases_Bool (is_named name q)) [
  | inl named ↦
      let here : Some q ≡ Some p = rw named at e in
      let same : q ≡ p = cc in
      subst (λ (x : Prop). is_named name x ≡ true) same named
  | inr other ↦
      let rest : find (is_named name) ps ≡ Some p = rw other at e in
      found_is name ps p rest
]

-- a property that is found has the kind of its name
pub kind_found : (name : PropName) (ps : List Prop) (p : Prop) → find (is_named name) ps ≡ Some p → IsProp p → kind_of p.value ≡ (property_row name).kind
kind_found name ps p e is =
    let id = eqb-true (property_row p.name).id (property_row name).id (found_is name ps p e) in
    is.kind ∙ ap (λ (n : PropName). (property_row n).kind) (id_is p.name name id)

-- a value of two bytes is a number
pub is_u16 : (v : ValueRef) → kind_of (value_of v) ≡ kinds.U16 → (n : ℕ) × (v ≡ refs.U16 n)
is_u16 (refs.Byte n) e = absurd cc
is_u16 (refs.U16 n) e = (n, refl)
is_u16 (refs.U32 n) e = absurd cc
is_u16 (refs.VarInt n) e = absurd cc
is_u16 (refs.Text t) e = absurd cc
is_u16 (refs.Binary b) e = absurd cc
is_u16 (refs.Pair k t) e = absurd cc

-- ---- the copies that wait and have expired

-- copies have lapsed if one expires
pub lapsed_some : (now : ℕ) (rows : List CopyRow) → list_any (is_lapsed now) rows ≡ are_some (expired now (map (entry_on []) rows))
lapsed_some now [] = refl
lapsed_some now (row ∷ rows) = elim (cases_Bool (is_lapsed now row)) [
  | inl late ↦ rw late refl
  | inr early ↦ rw early (lapsed_some now rows)
]

-- ---- what a PUBLISH means

named_fits : (text : List ℕ) → FitsText text → RefusesName text NotText → ⊥
named_fits text fits h = h.1 fits

never : (topic : List ℕ) (table : AliasTable) (alias : Option ℕ) → FitsText topic → RefusesAlias table topic alias NotText → ⊥
never topic table None fits h = named_fits topic fits h
never [] table (Some alias) fits h = h.1
never (c ∷ cs) table (Some alias) fits h = named_fits (c ∷ cs) fits h.1

-- a PUBLISH whose topic is refused has no meaning, but a code
pub refused_by : (p : Publish) (table : AliasTable) (fault : TopicFault) (alias : Option ℕ) → has SubscriptionIdentifier p.properties ≡ false → FitsText p.topic → (fault ≡ Memory → ⊥) → alias ≡ number_at TopicAlias p.properties → RefusesAlias table p.topic alias fault → meaning p table ≡ Wrong (topic_code fault)
refused_by p table fault alias none fits room is refuses =
    let found = subst (λ (a : Option ℕ). RefusesAlias table p.topic a fault) is refuses in
    unless_identified (has SubscriptionIdentifier p.properties) (resolved table p.topic (number_at TopicAlias p.properties)) none
    ∙ resolved_refused table p.topic (number_at TopicAlias p.properties) fault room (λ e. never p.topic table (number_at TopicAlias p.properties) fits (subst (RefusesAlias table p.topic (number_at TopicAlias p.properties)) e found)) found

-- and it is that of the fault
pub refused_as : (p : Publish) (table : AliasTable) (fault : TopicFault) (alias : Option ℕ) → has SubscriptionIdentifier p.properties ≡ false → FitsText p.topic → alias ≡ number_at TopicAlias p.properties → RefusesAlias table p.topic alias fault → RefusesMeaning p table (unmeant_by fault)
refused_as p table Memory alias none fits is h = tt
refused_as p table Empty alias none fits is h = refused_by p table Empty alias none fits (λ e. absurd (cc e)) is h
refused_as p table WildcardInName alias none fits is h = refused_by p table WildcardInName alias none fits (λ e. absurd (cc e)) is h
refused_as p table WildcardPlace alias none fits is h = refused_by p table WildcardPlace alias none fits (λ e. absurd (cc e)) is h
refused_as p table Share alias none fits is h = refused_by p table Share alias none fits (λ e. absurd (cc e)) is h
refused_as p table AliasRange alias none fits is h = refused_by p table AliasRange alias none fits (λ e. absurd (cc e)) is h
refused_as p table AliasUnknown alias none fits is h = refused_by p table AliasUnknown alias none fits (λ e. absurd (cc e)) is h
refused_as p table NotText alias none fits is h = refused_by p table NotText alias none fits (λ e. absurd (cc e)) is h
