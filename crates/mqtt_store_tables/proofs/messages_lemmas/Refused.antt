-- A statement inside a transaction that a constraint refuses.
use Rattle.std.proofs.Common.{◌≡◌, ℕ, false, List, Err, Result, subst, inl, inr}
use Rattle.std.proofs.lemmas.Bool.{cases_Bool}
use Rattle.sqlite_value.specs.Order.{Row}
use Rattle.sqlite_trees.specs.declared.error.StoreError.{StoreError}
use Rattle.sqlite_trees.specs.declared.error.StoreError.TheVariants.{OutOfMemory, Io, Corrupt, Full, Broken, Unstorable}
use Rattle.sqlite_schema.specs.declared.schema.Constraint.{Constraint}
use Rattle.sqlite_resolve.specs.declared.compiled.Compiled.{Compiled}
use Rattle.sqlite.specs.declared.error.Error.{Error}
use Rattle.sqlite.specs.declared.error.Error.TheVariants.{SqliteFailure}
use Rattle.sqlite.specs.declared.error.ErrorCode.TheVariants.{ConstraintViolation}
use Rattle.sqlite.specs.State.{State, IsUnchanged, Fails, IsNotRun, RunsCommand, ExecutesIn, ExecutesInside, shows_rows, store_error}

module _ (old new : State) (rule : Constraint) where
  -- a store that fails tells of no constraint
  untold : (cause : StoreError) → ◌≡◌ {A = Error} (SqliteFailure (ConstraintViolation rule)) (store_error cause) → ⊥
  untold OutOfMemory same = cc
  untold Io same = cc
  untold Corrupt same = cc
  untold Full same = cc
  untold Broken same = cc
  untold Unstorable same = cc

  no_fail : (big : Type 0) → Fails old new big (SqliteFailure (ConstraintViolation rule)) → ⊥
  no_fail big h = untold h.0 h.1

  not_run : (text : List ℕ) (params : Row) → IsNotRun old new text params (SqliteFailure (ConstraintViolation rule)) → IsUnchanged old new
  unfolding IsNotRun
  not_run text params (inl h) = h.1
  not_run text params (inr h) = absurd (no_fail _ h)

  command_refused : (text : List ℕ) (c : Compiled) (params : Row) → RunsCommand old new text c params (Err (SqliteFailure (ConstraintViolation rule))) → IsUnchanged old new
  command_refused text c params (inl h) = h.1
  command_refused text c params (inr h) = absurd (no_fail _ h)

  -- it leaves the transaction as it was
  pub refused_unchanged : (text : List ℕ) (params : Row) → ExecutesInside 0 text params old new (Err (SqliteFailure (ConstraintViolation rule))) → IsUnchanged old new
  unfolding ExecutesIn
  refused_unchanged text params (inr ended) = ended.2
  refused_unchanged text params (inl ran) = elim ran.0 [
    | inl none ↦ not_run text params none
    | inr h ↦ elim (cases_Bool (shows_rows false h.0)) [
      | inl shows ↦ (rw shows at h.2).1
      | inr runs ↦ command_refused text h.0 _ (rw runs at h.2)
    ]
  ]

-- a statement that ran with these parameters ran with equal ones
pub runs_on : (text : List ℕ) (old new : State) (r : Result ℕ Error) (row : Row) {params : Row} → ExecutesInside 0 text params old new r → params ≡ row → ExecutesInside 0 text row old new r
runs_on text old new r row h same = subst (λ (it : Row). ExecutesInside 0 text it old new r) same h
