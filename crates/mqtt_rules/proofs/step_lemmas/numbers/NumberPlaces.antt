-- A subscription to a filter that its session didn't have takes its grant's number as its place.
use Rattle.std.proofs.Common.{◌≡◌, ℕ, true, false, List, [], ◌∷◌, refl, inl, inr}
use Rattle.std.specs.List.{list_any}
use Rattle.std.proofs.lemmas.Bool.{cases_Bool}
use Rattle.mqtt_records.specs.declared.state.subscription.Subscription.{Subscription}
use Rattle.mqtt_rules.specs.step.Subscribe.{is_to, place_among}

-- a filter that a session does not have gets a new place
pub grants_place : (number : ℕ) (text : List ℕ) (subs : List Subscription) → list_any (is_to text) subs ≡ false → place_among number text subs ≡ number
grants_place number text [] new = refl
grants_place number text (x ∷ xs) new = elim (cases_Bool (is_to text x)) [
  | inl same ↦ let no : true ≡ false = rw same at new in absurd cc
  | inr other ↦ let rest : list_any (is_to text) xs ≡ false = rw other at new in rw other (grants_place number text xs rest)
]
