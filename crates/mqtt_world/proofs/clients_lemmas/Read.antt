-- The Topic Alias of a PUBLISH is a number of two bytes (MQTT 5.0, 3.3.2.3.4).
use Rattle.std.proofs.Common.{◌≡◌, ap, ◌∙◌, ℕ, true, List, [], ◌∷◌, refl, subst, inl, inr}
use Rattle.std.specs.Prelude.{find, Some}
use Rattle.std.proofs.lemmas.Bool.{cases_Bool}
use Rattle.mqtt_props.specs.declared.table.PropName.{PropName}
use Rattle.mqtt_props.specs.declared.table.PropName.TheVariants.{TopicAlias}
use Rattle.mqtt_props.specs.declared.value.ValueKind.TheVariants as kinds
use Rattle.mqtt_props.specs.declared.value.ValueRef.{ValueRef}
use Rattle.mqtt_props.specs.declared.value.ValueRef.TheVariants as refs
use Rattle.mqtt_props.specs.Laws.{is_named}
use Rattle.mqtt_props.specs.Properties.{IsProp, Prop, kind_of}
use Rattle.mqtt_props.specs.Table.{property_row}
use Rattle.mqtt_props.specs.Views.{value_of}
use Rattle.mqtt_rules.proofs.step_lemmas.contents.PassedContents.{name_is}

-- what is found has the name
found_is : (name : PropName) (ps : List Prop) (p : Prop) → find (is_named name) ps ≡ Some p → is_named name p ≡ true
found_is name [] p found = absurd cc
found_is name (q ∷ ps) p found = elim (cases_Bool (is_named name q)) [
  | inl named ↦
      let here : Some q ≡ Some p = rw named at found in
      let same : q ≡ p = cc in
      subst (λ (x : Prop). is_named name x ≡ true) same named
  | inr other ↦
      let rest : find (is_named name) ps ≡ Some p = rw other at found in
      found_is name ps p rest
]

-- so it is a number of two bytes
pub alias_kind : (ps : List Prop) (p : Prop) → find (is_named TopicAlias) ps ≡ Some p → IsProp p → kind_of p.value ≡ kinds.U16
alias_kind ps p found is = is.kind ∙ ap (λ (name : PropName). (property_row name).kind) (name_is TopicAlias p (found_is TopicAlias ps p found))

-- and what is lent of it is one
pub is_u16 : (v : ValueRef) → kind_of (value_of v) ≡ kinds.U16 → (n : ℕ) × (v ≡ refs.U16 n)
is_u16 (refs.Byte n) is = absurd cc
is_u16 (refs.U16 n) is = (n, refl)
is_u16 (refs.U32 n) is = absurd cc
is_u16 (refs.VarInt n) is = absurd cc
is_u16 (refs.Text t) is = absurd cc
is_u16 (refs.Binary b) is = absurd cc
is_u16 (refs.Pair k t) is = absurd cc
