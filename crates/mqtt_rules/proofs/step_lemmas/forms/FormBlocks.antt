-- Where the Topic Alias stands in the block of a copy (MQTT 5.0, 3.3.2.3).
use Rattle.std.proofs.Common.{◌≡◌, ℕ, Bool, false, not, List, [], ◌∷◌, ◌++◌, map, Some, refl, ap, ◌∙◌, append-nil, inl, inr}
use Rattle.std.proofs.lemmas.Bool.{cases_Bool}
use Rattle.std.proofs.lemmas.List.Elements.{filter-append}
use Rattle.mqtt_props.specs.declared.table.PropName.TheVariants.{MessageExpiryInterval, TopicAlias, UserProperty}
use Rattle.mqtt_props.specs.Properties.{Prop, U16}
use Rattle.mqtt_props.specs.Laws.{is_named}
use Rattle.mqtt_props.specs.Edits.{only, without}
use Rattle.mqtt_records.specs.messages.PassedOn.{aged, identified, property, sent_after}
use Rattle.mqtt_rules.specs.step.Forms.{with_alias}

-- ---- a list of which none is a User Property

-- without User Properties a list stays, and has none of them
record IsPlain (ps : List Prop) : Type 0 where
  stays : without UserProperty ps ≡ ps
  none : only UserProperty ps ≡ []

behind : (p : Prop) (ps : List Prop) → is_named UserProperty p ≡ false → IsPlain ps → IsPlain (p ∷ ps)
behind p ps other rest = record {
  stays = rw other (ap (λ (xs : List Prop). p ∷ xs) rest.stays);
  none = rw other rest.none;
}

aged_other : (waited : ℕ) (p : Prop) → is_named UserProperty p ≡ false → is_named UserProperty (aged waited p) ≡ false
aged_other waited p other = elim (cases_Bool (is_named MessageExpiryInterval p)) [
  | inl expiry ↦ rw expiry refl
  | inr none ↦ rw none other
]

aged_plain : (waited : ℕ) (ps : List Prop) → IsPlain (map (aged waited) (without UserProperty ps))
aged_plain waited [] = record { stays = refl; none = refl }
aged_plain waited (p ∷ ps) = elim (cases_Bool (is_named UserProperty p)) [
  | inl named ↦ rw named (aged_plain waited ps)
  | inr other ↦ rw other (behind (aged waited p) (map (aged waited) (without UserProperty ps)) (aged_other waited p other) (aged_plain waited ps))
]

identified_plain : (ids : List ℕ) → IsPlain (map identified ids)
identified_plain [] = record { stays = refl; none = refl }
identified_plain (n ∷ ids) = behind (identified n) (map identified ids) refl (identified_plain ids)

user_none : (ps : List Prop) → without UserProperty (only UserProperty ps) ≡ []
user_none [] = refl
user_none (p ∷ ps) = elim (cases_Bool (is_named UserProperty p)) [
  | inl named ↦ rw (named, named) (user_none ps)
  | inr other ↦ rw other (user_none ps)
]

user_stays : (ps : List Prop) → only UserProperty (only UserProperty ps) ≡ only UserProperty ps
user_stays [] = refl
user_stays (p ∷ ps) = elim (cases_Bool (is_named UserProperty p)) [
  | inl named ↦ rw (named, named) (ap (λ (xs : List Prop). p ∷ xs) (user_stays ps))
  | inr other ↦ rw other (user_stays ps)
]

-- ---- the block of a copy

-- its User Properties stand last
sent_without : (waited : ℕ) (ids : List ℕ) (ps : List Prop) → without UserProperty (sent_after waited ids ps) ≡ map (aged waited) (without UserProperty ps) ++ map identified ids
sent_without waited ids ps =
    let aging = map (aged waited) (without UserProperty ps) in
    let own = map identified ids in
    let user = only UserProperty ps in
    let first = aged_plain waited ps in
    let second = identified_plain ids in
    let others : Prop → Bool = λ p. not (is_named UserProperty p) in
    filter-append others (aging ++ own) user
    ∙ rw (filter-append others aging own, first.stays, second.stays, user_none ps) (append-nil (aging ++ own))

sent_only : (waited : ℕ) (ids : List ℕ) (ps : List Prop) → only UserProperty (sent_after waited ids ps) ≡ only UserProperty ps
sent_only waited ids ps =
    let aging = map (aged waited) (without UserProperty ps) in
    let own = map identified ids in
    let first = aged_plain waited ps in
    let second = identified_plain ids in
    filter-append (is_named UserProperty) (aging ++ own) (only UserProperty ps)
    ∙ rw (filter-append (is_named UserProperty) aging own, first.none, second.none, user_stays ps) refl

-- the alias stands behind what was passed on and the identifiers, and before the User Properties
pub alias_between : (alias waited : ℕ) (ids : List ℕ) (ps : List Prop) → with_alias (Some alias) (sent_after waited ids ps) ≡ map (aged waited) (without UserProperty ps) ++ map identified ids ++ property TopicAlias (U16 alias) ∷ only UserProperty ps
alias_between alias waited ids ps = rw (sent_without waited ids ps, sent_only waited ids ps) refl
