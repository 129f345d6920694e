-- A statement inside a transaction commits nothing.
use Rattle.std.proofs.Common.{◌≡◌, ℕ, List, Ok, Err, Result, OnErr, IfErr, sym, ◌∙◌, true≢false, refl, inl, inr, IsTrue, true, false}
use Rattle.std.proofs.lemmas.Bool.{cases_Bool}
use Rattle.sqlite_value.specs.Order.{Row}
use Rattle.sqlite.specs.declared.error.Error.{Error}
use Rattle.sqlite.specs.declared.error.Error.TheVariants.{SqliteFailure}
use Rattle.sqlite.specs.declared.error.ErrorCode.TheVariants.{TransactionState}
use Rattle.sqlite_trees.specs.declared.store.Store.{Ghosts}
use Rattle.sqlite.specs.Held.{Held, state}
use Rattle.sqlite.specs.Steps.{FailsToCommit}
use Rattle.mqtt_store_tables.specs.forms.Creation.{first, HasTables}
use Rattle.sqlite.specs.State.{State, HasCleanDisk, Survives, KeepsCommit, IsUnchanged, IsRolledBack, ExecutesInside}
use Rattle.mqtt_store_tables.specs.forms.Settled.{StaysInside}

unchanged_keeps : (old new : State) → IsUnchanged old new → KeepsCommit old new
unchanged_keeps old new h = record { was_open = λ _. h.0.was_open; committed = λ _. h.0.committed_is }

rolled_keeps : (old new : State) → IsRolledBack old new → KeepsCommit old new
rolled_keeps old new h = record { was_open = h.was_open; committed = λ o. (h.undone o).1 }

inside_keeps : (sql : List ℕ) (params : Row) (old new : State) (r : Result ℕ Error) → ExecutesInside 0 sql params old new r → KeepsCommit old new
inside_keeps sql params old new (Ok count) h = record { was_open = λ _. h.1.was_open; committed = λ _. h.1.committed_is }
inside_keeps sql params old new (Err e) h = elim h [
  | inl ran ↦ elim ran.1 [ inl same ↦ unchanged_keeps old new same | inr back ↦ rolled_keeps old new back ]
  | inr ended ↦ unchanged_keeps old new ended.2
]

keeps_same : (s : State) → KeepsCommit s s
keeps_same s = record { was_open = λ o. o; committed = λ _. refl }

keeps_either : {S : Type 0} (g : Ghosts S) (sql : List ℕ) (params : Row) (old new : Held S) (r : Result ℕ Error) → ((state g old).in_transaction ≡ false → (r ≡ Err (SqliteFailure TransactionState)) × (new ≡ old))
    → (IsTrue (state g old).in_transaction → ExecutesInside 0 sql params (state g old) (state g new) r) → KeepsCommit (state g old) (state g new)
keeps_either g sql params old new r ended runs = elim (cases_Bool (state g old).in_transaction) [
  | inl inside ↦ inside_keeps sql params (state g old) (state g new) r (runs inside)
  | inr out ↦ rw (ended out).1 (keeps_same (state g old))
]

-- so it stays inside
pub stays_inside : {S : Type 0} (g : Ghosts S) (sql : List ℕ) (params : Row) (old new : Held S) (r : Result ℕ Error) → ((state g old).in_transaction ≡ false → (r ≡ Err (SqliteFailure TransactionState)) × (new ≡ old))
    → (HasCleanDisk (state g new) → IsTrue (state g old).in_transaction → ExecutesInside 0 sql params (state g old) (state g new) r) → Survives (state g old) (state g new) (λ _. ⊥) → StaysInside (state g old) (state g new)
stays_inside g sql params old new r ended runs survives = record { kept = λ clean. keeps_either g sql params old new r ended (runs clean); survives = survives }

-- a transaction that begins on an empty database has no tables yet
pub begun_has : (old begun : State) → begun ≡ record old { in_transaction = true } → old.now.schema ≡ first 0 → HasTables 0 begun
begun_has old begun same none = rw same (record { schema = none; inside = refl; empty = tt })

-- a commit that fails leaves what was committed
pub commit_err : (old tx new : State) (res : Result (Unit {0}) Error) → (IsTrue tx.is_open → tx.committed ≡ old.committed) → IsTrue tx.in_transaction → IfErr res (FailsToCommit tx new) → IsTrue new.is_open
    → OnErr res ((new.now ≡ old.committed) × (new.committed ≡ old.committed))
commit_err old tx new (Ok t) kept inside h up = tt
commit_err old tx new (Err e) kept inside (inl fails) up =
    let rolled = fails.3 in
    let undone = rolled.undone up in
    let was = kept (rolled.was_open up) in
    (undone.0 ∙ was, undone.1 ∙ was)
commit_err old tx new (Err e) kept inside (inr ended) up = absurd (true≢false (sym inside ∙ ended.1))
