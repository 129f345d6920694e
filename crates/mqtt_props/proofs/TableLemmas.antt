-- The table as a list and as a function of the name (MQTT 5.0, 2.2.2.2).
use Rattle.std.proofs.Common.{◌≡◌, ℕ, Bool, true, false, ◌&&◌, ◌||◌, eqb, List, [], ◌∷◌, Option, Some, None, refl, sym, ap, ◌∙◌, inl, inr, ◌⊎◌}
use Rattle.std.specs.List.{list_any}
use Rattle.std.specs.Prelude.{map}
use Rattle.std.proofs.lemmas.Bool.{eqb-true}
use Rattle.mqtt_base.proofs.Steps.{chosen}
use Rattle.mqtt_props.specs.declared.place.Place.{Place}
use Rattle.mqtt_props.specs.declared.table.PropName.{PropName}
use Rattle.mqtt_props.specs.declared.table.PropName.TheVariants.{PayloadFormatIndicator}
use Rattle.mqtt_props.specs.Table.{property_row, property_names, named, name_of, has_place, may_stand, is_allowed}

-- each name stands in the list, and no other has its identifier
pub name_again : (n : PropName) → name_of (property_row n).id ≡ Some n
name_again PayloadFormatIndicator = refl
name_again n = refl

-- a property that is found by its identifier has it
pub named_is : (id : ℕ) (ns : List PropName) (n : PropName) → named id ns ≡ Some n → (property_row n).id ≡ id
named_is id [] n e = absurd cc
named_is id (m ∷ ns) n e =
    elim (chosen (eqb (property_row m).id id) (Some m) (named id ns) (Some n) e) [
      | inl t ↦
          let same : m ≡ n = cc t.1 in
          ap (λ (k : PropName). (property_row k).id) (sym same) ∙ eqb-true (property_row m).id id t.0
      | inr t ↦ named_is id ns n t.1
    ]

-- a name is told by its identifier
pub id_is : (m n : PropName) → (property_row m).id ≡ (property_row n).id → m ≡ n
id_is m n e =
    let same : Some m ≡ Some n = sym (name_again m) ∙ ap name_of e ∙ name_again n in
    cc same

-- ---- a row of the list allows the place exactly if that of the name does

allows_found : (id : ℕ) (place : Place) (ns : List PropName) (n : PropName) → named id ns ≡ Some n → may_stand n place ≡ true → list_any (λ r. eqb r.id id && has_place place r.places) (map property_row ns) ≡ true
allows_found id place [] n e may = absurd cc
allows_found id place (m ∷ ns) n e may =
    elim (chosen (eqb (property_row m).id id) (Some m) (named id ns) (Some n) e) [
      | inl t ↦
          let same : m ≡ n = cc t.1 in
          rw (t.0, same, may) refl
      | inr t ↦ rw (t.0) (allows_found id place ns n t.1 may)
    ]

-- a name of that identifier that may stand there
abbrev Allows : ℕ → Place → Type 0
Allows id place = (n : PropName) × ((property_row n).id ≡ id) × (may_stand n place ≡ true)

both : (a b c : Bool) → ((a && b) || c) ≡ true → ((a ≡ true) × (b ≡ true)) ⊎ (c ≡ true)
both true true c e = inl (refl, refl)
both true false c e = inr e
both false b c e = inr e

allows_was : (id : ℕ) (place : Place) (ns : List PropName) → list_any (λ r. eqb r.id id && has_place place r.places) (map property_row ns) ≡ true → Allows id place
allows_was id place [] e = absurd cc
allows_was id place (m ∷ ns) e =
    elim (both (eqb (property_row m).id id) (may_stand m place) (list_any (λ r. eqb r.id id && has_place place r.places) (map property_row ns)) e) [
      | inl t ↦ (m, eqb-true (property_row m).id id t.0, t.1)
      | inr t ↦ allows_was id place ns t
    ]

-- what the table says of the name, if there is one
abbrev pub stands : Place → Option PropName → Bool
stands place None = false
stands place (Some n) = may_stand n place

was_named : (id : ℕ) (place : Place) → Allows id place → stands place (name_of id) ≡ true
was_named id place (n, is, may) = ap (λ (k : ℕ). stands place (name_of k)) (sym is) ∙ ap (stands place) (name_again n) ∙ may

not_both : (a b : Bool) → (a ≡ true → b ≡ true) → (b ≡ true → a ≡ true) → a ≡ b
not_both true b f g = sym (f refl)
not_both false true f g = g refl
not_both false false f g = refl

stands_found : (id : ℕ) (place : Place) (o : Option PropName) → name_of id ≡ o → stands place o ≡ true → is_allowed id place ≡ true
stands_found id place None e may = absurd (cc may)
stands_found id place (Some n) e may = allows_found id place property_names n e may

-- what the table allows may stand there
pub is_allowed-stands : (id : ℕ) (place : Place) → is_allowed id place ≡ stands place (name_of id)
is_allowed-stands id place =
    not_both (is_allowed id place) (stands place (name_of id)) (λ e. was_named id place (allows_was id place property_names e)) (stands_found id place (name_of id) refl)
