-- The alias of a PUBLISH in a form is the form's.
use Rattle.std.proofs.Common.{◌≡◌, ℕ, Bool, false, not, cond, List, [], ◌∷◌, ◌++◌, Option, Some, None, refl, sym, ap, ◌∙◌, inl, inr}
use Rattle.std.specs.Prelude.{filter, find, option_map}
use Rattle.std.proofs.lemmas.Bool.{cases_Bool}
use Rattle.mqtt_props.specs.declared.table.PropName.TheVariants.{TopicAlias, UserProperty}
use Rattle.mqtt_props.specs.Properties.{Prop, U16}
use Rattle.mqtt_props.specs.Laws.{is_named}
use Rattle.mqtt_props.specs.Edits.{only, without}
use Rattle.mqtt_packet.specs.declared.codec.publish.Publish.{Publish}
use Rattle.mqtt_topic.specs.declared.sending.form.Form.{Form}
use Rattle.mqtt_topic.specs.declared.sending.form.Form.TheVariants.{Plain, Named, Short}
use Rattle.mqtt_topic.specs.sending.Told.{alias_in}
use Rattle.mqtt_records.specs.messages.PassedOn.{number_in, property}
use Rattle.mqtt_rules.specs.step.Forms.{in_form}
use Rattle.mqtt_rules.specs.telling.Meaning.{alias_on}

nothing_at : {X Y : Type 0} (f : X → Y) (o : Option X) → option_map f o ≡ None → o ≡ None
nothing_at f None e = refl
nothing_at f (Some x) e = absurd cc

module _ {X : Type 0} (test : X → Bool) where
  -- of a list without such a row
  none_first : (x : X) (xs : List X) → find test (x ∷ xs) ≡ None → (test x ≡ false) × (find test xs ≡ None)
  none_first x xs none = elim (cases_Bool (test x)) [
    | inl here ↦ let clash : Some x ≡ None = ap (λ (b : Bool). cond b (Some x) (find test xs)) (sym here) ∙ none in absurd cc
    | inr other ↦ (other, ap (λ (b : Bool). cond b (Some x) (find test xs)) (sym other) ∙ none)
  ]

  -- the first one is behind it
  pub behind : (xs ys : List X) → find test xs ≡ None → find test (xs ++ ys) ≡ find test ys
  behind [] ys none = refl
  behind (x ∷ xs) ys none = let first = none_first x xs none in rw first.0 (behind xs ys first.1)

  -- and none is among some of the rows
  pub none_kept : (keeps : X → Bool) (xs : List X) → find test xs ≡ None → find test (filter keeps xs) ≡ None
  none_kept keeps [] none = refl
  none_kept keeps (x ∷ xs) none =
      let first = none_first x xs none in
      elim (cases_Bool (keeps x)) [
        | inl stays ↦ let other = first.0 in rw (stays, other) (none_kept keeps xs first.1)
        | inr goes ↦ rw goes (none_kept keeps xs first.1)
      ]

aliased : (alias : ℕ) (ps : List Prop) → find (is_named TopicAlias) ps ≡ None
    → find (is_named TopicAlias) (without UserProperty ps ++ property TopicAlias (U16 alias) ∷ only UserProperty ps) ≡ Some (property TopicAlias (U16 alias))
aliased alias ps none =
    behind (is_named TopicAlias) (without UserProperty ps) (property TopicAlias (U16 alias) ∷ only UserProperty ps)
    (none_kept (is_named TopicAlias) (λ (p : Prop). not (is_named UserProperty p)) ps none)

-- of a PUBLISH without one
pub alias_is : (form : Form) (p : Publish) → alias_on p ≡ None → alias_on (in_form form p) ≡ alias_in form
alias_is Plain p none = none
alias_is (Named alias) p none =
    ap (option_map (λ (x : Prop). number_in x.value)) (aliased alias p.properties (nothing_at (λ (x : Prop). number_in x.value) (find (is_named TopicAlias) p.properties) none))
alias_is (Short alias) p none =
    ap (option_map (λ (x : Prop). number_in x.value)) (aliased alias p.properties (nothing_at (λ (x : Prop). number_in x.value) (find (is_named TopicAlias) p.properties) none))
