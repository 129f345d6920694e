-- What a database says when it is asked for its schema.
use Rattle.std.specs.Prelude.{◌≢◌, ◌⊎◌, ℤ, ℕ, List, [], ◌∷◌, Option, Some, None, codes}
use Rattle.sqlite_value.specs.declared.value.Value.TheVariants.{Int}
use Rattle.sqlite_value.specs.Order.{Row}
use Rattle.sqlite.specs.declared.error.Error.{Error}
use Rattle.sqlite.specs.State.{State, Shown, FailsToQuery}

abbrev pub ask_text : List ℕ
ask_text = codes "SELECT n FROM meta WHERE name = 'schema'"

-- the answer is this one number, or it is not one number, or there is none
abbrev pub Says : Option ℤ → State → State → Type 0
Says (Some n) old new = Shown ask_text [] old new ((Int n ∷ []) ∷ [])
Says None old new = ((rows : List Row) × Shown ask_text [] old new rows × ((n : ℤ) → rows ≢ (Int n ∷ []) ∷ [])) ⊎ ((e : Error) × FailsToQuery ask_text [] old new e)
