-- What a call inside a transaction makes of the tables, and in what state it leaves the transaction.
use Rattle.std.specs.Prelude.{ℕ, Result, OnOk}
use Rattle.sqlite_trees.specs.Tree.{Trees}
use Rattle.sqlite_trees.specs.declared.store.Store.{Ghosts}
use Rattle.sqlite.specs.State.{State, HasCleanDisk}
use Rattle.sqlite.specs.Held.{Held, state}
use Rattle.sqlite.specs.declared.error.Error.{Error}
use Rattle.mqtt_store_tables.specs.statements.Layout.{Layout}
use Rattle.mqtt_store_tables.specs.statements.Content.{IsWhole}

-- after Ok the tables are changed so; the transaction was fit for it, and still is
abbrev pub Writes : {S : Type 0} → Ghosts S → Held S → Held S → Result ℕ Error → (State → Type 0) → (Trees → Trees → Type 0) → Type 0
Writes g old new result IsFit change =
    HasCleanDisk (state g new) → IsFit (state g old) → OnOk result (change (state g old).now.trees (state g new).now.trees) × OnOk result (IsFit (state g new))

-- after Ok the tables are changed so, if they have what the change asks for
abbrev pub WritesIf : {S A : Type 0} → Layout → Ghosts S → Held S → Held S → Result A Error → (Trees → Type 0) → (Trees → Trees → Type 0) → Type 0
WritesIf l g old new result Asks change =
    HasCleanDisk (state g new) → IsWhole l (state g old) → Asks (state g old).now.trees → OnOk result (change (state g old).now.trees (state g new).now.trees)

-- after Ok the transaction is whole still
abbrev pub StaysWhole : {S A : Type 0} → Layout → Ghosts S → Held S → Held S → Result A Error → Type 0
StaysWhole l g old new result = HasCleanDisk (state g new) → IsWhole l (state g old) → OnOk result (IsWhole l (state g new))
