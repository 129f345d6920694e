-- To which message a row refers.
use Rattle.std.specs.Prelude.{◌≡◌, ℕ, pos, Bool, [], ◌∷◌, Option, Some, None, Result, IfOk, OnOk, map, filter, IsPermutation, List}
use Rattle.sqlite_value.specs.declared.value.Value.TheVariants.{Int}
use Rattle.sqlite_value.specs.Order.{Row, column}
use Rattle.sqlite_trees.specs.Tree.{Trees}
use Rattle.sqlite_trees.specs.declared.store.Store.{Ghosts}
use Rattle.sqlite.specs.State.{HasCleanDisk}
use Rattle.sqlite.specs.Held.{Held, state}
use Rattle.sqlite.specs.declared.error.Error.{Error}
use Rattle.mqtt_store_tables.specs.statements.Layout.{Layout}
use Rattle.mqtt_store_tables.specs.statements.Content.{IsWhole}

-- a number that was found, as a column has it
abbrev pub as_row : Option ℕ → Row
as_row None = []
as_row (Some n) = Int (pos n) ∷ []

-- the rows that pass have in that column what was found: they are none, or one
abbrev pub Finds : ℕ → ℕ → (Row → Bool) → Option ℕ → Trees → Type 0
Finds tree at passes found db = map (λ r. column r at) (filter passes (db tree)) ≡ as_row found

-- numbers that were found, as a column has them
abbrev pub as_rows : List ℕ → Row
as_rows = map (λ n. Int (pos n))

-- the rows that pass have in that column what was found, each once, in some order
abbrev pub FindsAll : ℕ → ℕ → (Row → Bool) → List ℕ → Trees → Type 0
FindsAll tree at passes found db = IsPermutation (map (λ r. column r at) (filter passes (db tree))) (as_rows found)

-- after Ok the answer is what the tables say, and they are as they were
abbrev pub Tells : {S A : Type 0} → Layout → Ghosts S → Held S → Held S → Result A Error → (A → Trees → Type 0) → Type 0
Tells l g old new result Says =
    HasCleanDisk (state g new) → IsWhole l (state g old) → IfOk result (λ it. Says it (state g old).now.trees) × OnOk result (((state g new).now ≡ (state g old).now) × IsWhole l (state g new))
