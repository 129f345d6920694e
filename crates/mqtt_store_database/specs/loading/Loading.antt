-- What a load leaves of a database of the store (4.1).
use Rattle.std.specs.Prelude.{◌≡◌, ◌⊎◌, Result, IfOk, IfErr, IsTrue}
use Rattle.sqlite_trees.specs.Objects.{catalog_tree}
use Rattle.sqlite_trees.specs.Tree.{Trees}
use Rattle.sqlite_catalog.specs.Listing.{Lists}
use Rattle.sqlite_trees.specs.declared.store.Store.{Ghosts}
use Rattle.sqlite.specs.Effect.{Database}
use Rattle.sqlite.specs.Held.{Held, state}
use Rattle.sqlite.specs.State.{State, HasCleanDisk, Survives}
use Rattle.mqtt_keep.specs.declared.keeping.keep.KeepError.{KeepError}
use Rattle.mqtt_records.specs.declared.state.records.Records.{Records}
use Rattle.mqtt_store_tables.specs.forms.Settled.{IsSettled}
use Rattle.mqtt_store_tables.specs.schema.Tables.{second_schema}
use Rattle.mqtt_store_tables.specs.declared.schema.tables.Making.{Making}
use Rattle.mqtt_store_database.specs.row_laws.Written.{KeepsRowsTwo}
use Rattle.mqtt_store_database.specs.reading.Refusals.{RefusesEither}
use Rattle.mqtt_store_database.specs.loading.Keeping.{FindsIn, Keeps, Saves, AreOrdered}
use Rattle.mqtt_store_rows.specs.gathering.Slim.{IsSlimOf}

-- if it is open, nothing is written that isn't committed
abbrev pub IsTidy : State → Type 0
IsTidy s = IsTrue s.is_open → IsSettled s

-- if it is open, the rows of its tables rise by their numbers
abbrev pub IsOrdered : State → Type 0
IsOrdered s = HasCleanDisk s → IsTrue s.is_open → AreOrdered s.now

-- between two transactions it is of schema 2, and its rows are those of these records
pub record HasKept (s : State) (r : Records) : Type 0 where
  pub is_open : IsTrue s.is_open
  pub settled : IsSettled s
  pub making : Making
  pub schema : s.now.schema ≡ second_schema making
  pub lists : Lists (s.now.trees catalog_tree) s.now.schema
  pub keeps : KeepsRowsTwo making s.now.trees r

-- what a load may commit: the records that it finds, if it is open
abbrev pub MayCommit : State → Trees → Type 0
MayCommit s db = IsTrue s.is_open × (r : Records) × FindsIn s.now r × Saves db r

-- the database is left as it was, or keeps what was found in it
abbrev pub IsLeft : Database → Database → Type 0
IsLeft old new = (new ≡ old) ⊎ ((r : Records) × FindsIn old r × Keeps new r)

-- a load commits what it finds at the most; if it is open then, it was open before, and is left as it was or keeps that
pub record OnlyLoads (old new : State) : Type 0 where
  pub survives : Survives old new (MayCommit old)
  pub left : HasCleanDisk new → IsTrue new.is_open → IsTrue old.is_open × IsLeft old.now new.now

-- a load answers slim rows of what the database has, which it keeps whole from then on; else it says why it is refused
pub record Loads {S : Type 0} (g : Ghosts S) (old new : Held S) (result : Result Records KeepError) : Type 0 where
  pub ordered : IsOrdered (state g new)
  pub read : IfOk result (IsSlimOf (λ whole. HasCleanDisk (state g new)
      → FindsIn (state g old).now whole × HasKept (state g new) whole))
  pub refused : HasCleanDisk (state g new) → IfErr result (RefusesEither g old)
  pub loads : OnlyLoads (state g old) (state g new)
