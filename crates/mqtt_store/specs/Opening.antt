-- What a connection that is opened anew shows, and what is handed back if that fails (4.1).
use Rattle.std.specs.Prelude.{◌≡◌, ◌⊎◌, false, IsTrue}
use Rattle.sqlite_disk.specs.Disk.{MoreFaults}
use Rattle.sqlite_trees.specs.Tree.{Trees}
use Rattle.sqlite_trees.specs.View.{IsClean}
use Rattle.sqlite_trees.specs.declared.store.Store.{Ghosts}
use Rattle.sqlite.specs.declared.error.Error.{Error}
use Rattle.sqlite.specs.declared.error.Error.TheVariants.{SqliteFailure}
use Rattle.sqlite.specs.declared.error.ErrorCode.TheVariants.{OutOfMemory, Closed}
use Rattle.sqlite.specs.Held.{Held, state}
use Rattle.sqlite.specs.State.{State, is_disk_error}

-- it was open and is, and shows what was committed, in no transaction
pub record OpensAnew (old new : State) : Type 0 where
  pub was_open : IsTrue old.is_open
  pub is_open : IsTrue new.is_open
  pub now : new.now ≡ old.committed
  pub committed : new.committed ≡ old.committed
  pub autocommit : new.in_transaction ≡ false

-- a crash of the store that is handed back leaves nothing else than before, and if it is open it has what was committed
pub record IsUnharmed {S : Type 0} (g : Ghosts S) (conn : Held S) (store : S) : Type 0 where
  pub crash : (db : Trees) → g.recovers store db → (state g conn).may_leave db
  pub was_open : IsClean (g.view store) → IsTrue (g.view store).is_open → IsTrue (state g conn).is_open
  pub shows : IsClean (g.view store) → IsTrue (g.view store).is_open → (g.view store).trees ≡ (state g conn).committed.trees
  pub committed : IsClean (g.view store) → IsTrue (g.view store).is_open → (g.view store).committed ≡ (state g conn).committed.trees

-- for want of memory, since it is shut, or since the device failed
abbrev pub RefusesToOpen : {S : Type 0} → Ghosts S → Held S → S → Error → Type 0
RefusesToOpen g conn store e =
    (e ≡ SqliteFailure OutOfMemory)
    ⊎ (((e ≡ SqliteFailure Closed) × ((g.view store).is_open ≡ false))
    ⊎ (IsTrue (is_disk_error e) × MoreFaults (g.faults conn.store) (g.faults store)))

-- what a connection shows once a transaction that is open is rolled back
abbrev pub rolled_back : State → State
rolled_back s = record s { now = s.committed; in_transaction = false }
