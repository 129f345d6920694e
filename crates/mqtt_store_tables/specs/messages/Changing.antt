-- What a call inside a transaction makes of the tables of schema 2, in either of its ways.
use Rattle.std.specs.Prelude.{ℕ, Result, Ok, Err, IfOk, OnOk}
use Rattle.sqlite_trees.specs.Tree.{Trees}
use Rattle.sqlite_trees.specs.declared.store.Store.{Ghosts}
use Rattle.sqlite.specs.State.{HasCleanDisk}
use Rattle.sqlite.specs.Held.{Held, state}
use Rattle.sqlite.specs.declared.error.Error.{Error}
use Rattle.mqtt_store_tables.specs.declared.schema.tables.Making.{Making}
use Rattle.mqtt_store_tables.specs.statements.Layout.{second_layout}
use Rattle.mqtt_store_tables.specs.statements.Content.{IsWhole}

-- after Ok the tables are changed so; the transaction was whole, and still is
abbrev pub ChangesBy : {S A : Type 0} → Ghosts S → Held S → Held S → Result A Error → (Making → Trees → Trees → Type 0) → Type 0
ChangesBy g old new result change =
    (making : Making) → HasCleanDisk (state g new) → IsWhole (second_layout making) (state g old)
    → OnOk result (change making (state g old).now.trees (state g new).now.trees) × OnOk result (IsWhole (second_layout making) (state g new))

-- after Ok the tables are changed as the answer says; the transaction was whole, and still is
abbrev pub ChangesAs : {S A : Type 0} → Ghosts S → Held S → Held S → Result A Error → (Making → A → Trees → Trees → Type 0) → Type 0
ChangesAs g old new result change =
    (making : Making) → HasCleanDisk (state g new) → IsWhole (second_layout making) (state g old)
    → IfOk result (λ it. change making it (state g old).now.trees (state g new).now.trees) × OnOk result (IsWhole (second_layout making) (state g new))

-- whether it was done, without the number of rows
abbrev pub uncounted : Result ℕ Error → Result (Unit {0}) Error
uncounted (Ok count) = Ok tt
uncounted (Err error) = Err error
