-- Lists of packet identifiers (2.2.1).
use Rattle.std.specs.Prelude.{ℕ, zero, suc, Bool, List, [], ◌∷◌, length, not, nat_eq, nat_lt, if◌then◌else◌, filter}
use Rattle.std.specs.List.{list_any}

-- an identifier is among these
abbrev pub is_among : ℕ → List ℕ → Bool
is_among id ids = list_any (λ other. nat_eq other id) ids

-- these and one more, in its place
abbrev pub ids_with : ℕ → List ℕ → List ℕ
ids_with id [] = id ∷ []
ids_with id (other ∷ ids) = if nat_lt id other then id ∷ other ∷ ids else other ∷ ids_with id ids

-- these but one
abbrev pub ids_without : ℕ → List ℕ → List ℕ
ids_without id ids = filter (λ other. not (nat_eq other id)) ids

-- the lowest identifier from `id` on that isn't used, of the first `more + 1`
abbrev pub lowest_from : ℕ → ℕ → List ℕ → ℕ
lowest_from zero id used = id
lowest_from (suc more) id used = if is_among id used then lowest_from more (suc id) used else id

-- the lowest one from 1 on
abbrev pub free_identifier : List ℕ → ℕ
free_identifier used = lowest_from (length used) 1 used
