-- The database in a file, and the broker that runs on it (MQTT 5.0, 4.1, 4.2).
use Rattle.std.specs.Prelude.{◌≡◌, ℕ, List, [], codes, Result}
use Rattle.sqlite_disk.specs.declared.Disk as disk
use Rattle.sqlite.specs.Recovery.{Image}
use Rattle.sqlite.specs.Order.{Row}
use Rattle.sqlite.specs.Store as store
use Rattle.sqlite.specs.declared.FileStore.{FileStore}
use Rattle.sqlite.specs.declared.error.Error.{Error}
use Rattle.sqlite.specs.State.{State, HasCleanDisk, Survives, CommitsShowing, QueriesRow}
use Rattle.sqlite.specs.Held.{Held, IsNew, state}
use Rattle.sqlite.specs.Files.{file_state, over_files, IsOpened}
use Rattle.sqlite.specs.Start.{FindsIn}
use Rattle.mqtt_rules.specs.declared.step.Capacity.{Capacity}
use Rattle.mqtt_keep.specs.declared.keeping.keep.Keep as keep
use Rattle.mqtt_records.specs.declared.state.records.Records.{Records}
use Rattle.mqtt_store.specs.Holding.{Holds, Leaves}
use Rattle.mqtt_store.specs.Opening.{OpensAnew, rolled_back}
use Rattle.mqtt_serve.specs.turns.Settled.{Runs}

-- the question for the moment of the newest step
abbrev pub moment_query : List ℕ
moment_query = codes "SELECT n FROM meta WHERE name = 'moment'"

-- this question was asked of a connection, whatever the answer, and nothing else
pub record IsAsked (old new : State) : Type 0 where
  pub answers : HasCleanDisk new → (answer : Result Row Error) × QueriesRow moment_query [] old new answer
  pub survives : Survives old new (CommitsShowing moment_query [] old)

-- a store was made over a connection: it shows what was committed, has the records that the connection has without what is not, and
-- a crash leaves no others
pub record IsStoreOver (conn store : State) : Type 0 where
  pub shows : HasCleanDisk store → OpensAnew conn store
  pub same : (r : Records) → Holds (rolled_back conn) r → Holds store r
  pub crash : (r : Records) → Leaves store r → Leaves (rolled_back conn) r
  pub sound : HasCleanDisk store → HasCleanDisk conn

-- the broker runs on the database of a connection: its newest moment is asked for, a store is made over it, in which nothing waits to
-- be written; the broker begins with it, under these limits, and gives it back after so many turns, and the connection is that store's again
pub record RunsOnDatabase {S K : Type 0} (g : store.Ghosts S) (k : keep.Ghosts K) (conn_of : K → Held S) (nothing_waits : K → Type 0)
    (limits : Capacity) (turns : ℕ) (conn given : Held S) : Type 0 where
  pub asked : Held S
  pub is_asked : IsAsked (state g conn) (state g asked)
  pub first : K
  pub over : IsStoreOver (state g asked) (state g (conn_of first))
  pub empty : nothing_waits first
  pub begin : ℕ
  pub last : K
  pub runs : Runs k limits begin turns first last
  pub given_is : given ≡ conn_of last

module _ {D : Type 0} {g : disk.Ghosts D} where
  -- the broker runs on the database in files: a connection to them shows what they held, and the broker runs on its database
  pub record RunsOnFiles {K : Type 0} (k : keep.Ghosts K) (conn_of : K → Held (FileStore D g)) (nothing_waits : K → Type 0)
      (files : Image) (limits : Capacity) (turns : ℕ) : Type 0 where
    pub opened : Held (FileStore D g)
    pub left : Held (FileStore D g)
    pub is_new : IsNew opened
    pub is_open : HasCleanDisk (file_state opened) → IsOpened opened
    pub found : HasCleanDisk (file_state opened) → FindsIn files (file_state opened)
    pub runs : RunsOnDatabase over_files k conn_of nothing_waits limits turns opened left
