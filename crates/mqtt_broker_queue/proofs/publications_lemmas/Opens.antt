-- Whether an identifier is open, as the table of identifiers has it and as the rules do.
use Rattle.std.proofs.Common.{◌≡◌, ℕ, nat_eq, List, [], ◌∷◌, refl, inl, inr}
use Rattle.std.proofs.lemmas.Bool.{cases_Bool}
use Rattle.mqtt_flow.specs.inbound.Identifiers.{is_among}
use Rattle.mqtt_records.specs.lists.Order.{has_row}
use Rattle.mqtt_records.specs.state.Session.{number_of}

-- an identifier has a row exactly if it is among the open ones
pub has_is_among : (id : ℕ) (ids : List ℕ) → has_row number_of id ids ≡ is_among id ids
has_is_among id [] = refl
has_is_among id (n ∷ ns) = elim (cases_Bool (nat_eq n id)) [
  | inl here ↦ rw here refl
  | inr later ↦ rw later (has_is_among id ns)
]
