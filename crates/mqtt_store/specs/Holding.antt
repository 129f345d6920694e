-- What a store in SQL has, what a crash leaves of it, and what a step makes of it (4.1).
use Rattle.std.specs.Prelude.{◌≡◌, ◌⊎◌, IsTrue}
use Rattle.sqlite_trees.specs.Tree.{Trees}
use Rattle.sqlite.specs.State.{State, HasCleanDisk, Survives}
use Rattle.mqtt_records.specs.declared.state.records.Records.{Records}
use Rattle.mqtt_store_tables.specs.forms.Settled.{IsSettled}
use Rattle.mqtt_store_tables.specs.schema.Tables.{second_schema}
use Rattle.mqtt_store_tables.specs.declared.schema.tables.Making.{Making}
use Rattle.mqtt_store_database.specs.loading.Keeping.{FindsIn, Keeps, Saves, Finds}

-- it has these records: no crash leaves others, and if it is open it keeps them
pub record Has (s : State) (r : Records) : Type 0 where
  pub left : (db : Trees) (q : Records) → s.may_leave db → Finds db q → q ≡ r
  pub keeps : IsTrue s.is_open → Keeps s.now r

-- of a device that lied this says nothing
abbrev pub Holds : State → Records → Type 0
Holds s r = HasCleanDisk s → Has s r

-- what is opened after a crash may have these: those that are found then, or those that a load of it finds
pub record Leaves (s : State) (r : Records) : Type 0 where
  pub clean : HasCleanDisk s
  pub may : ((db : Trees) × s.may_leave db × Finds db r) ⊎ (IsTrue s.is_open × FindsIn s.now r)

-- changes can be applied: it is of schema 2, and nothing is written that isn't committed
pub record IsReady (s : State) : Type 0 where
  pub is_open : IsTrue s.is_open
  pub settled : IsSettled s
  pub making : Making
  pub schema : s.now.schema ≡ second_schema making

abbrev pub IsLoaded : State → Type 0
IsLoaded s = HasCleanDisk s → IsReady s

-- a step to these records commits the rows of those at the most; if it is open then, it was open before, and nothing is
-- changed or it keeps those
pub record OnlySteps (old new : State) (after : Records) : Type 0 where
  pub survives : Survives old new (λ db. Saves db after)
  pub left : HasCleanDisk new → IsTrue new.is_open → IsTrue old.is_open × ((new.now ≡ old.now) ⊎ Keeps new.now after)
