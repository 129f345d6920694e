-- What a new store of schema 2 is.
use Rattle.std.specs.Prelude.{◌≡◌, IsTrue}
use Rattle.sqlite_trees.specs.Tree.{Trees}
use Rattle.sqlite.specs.State.{State}
use Rattle.mqtt_records.specs.declared.state.records.Records.{Records}
use Rattle.mqtt_store_tables.specs.forms.Settled.{IsSettled}
use Rattle.mqtt_store_tables.specs.schema.Tables.{second_schema}
use Rattle.mqtt_store_tables.specs.schema.Creation.{MakesSecond}
use Rattle.mqtt_store_tables.specs.declared.schema.tables.Making.{Making}
use Rattle.mqtt_store_database.specs.reading.Kept.{HasRecordsTwo}

-- between two transactions it has the records in the tables of schema 2
pub record HasNowTwo (making : Making) (s : State) (r : Records) : Type 0 where
  pub is_open : IsTrue s.is_open
  pub settled : IsSettled s
  pub schema : s.now.schema ≡ second_schema making
  pub has : HasRecordsTwo making s.now.trees r

-- what may be committed if a new store is made: the connection is open
abbrev pub BeginsSecond : State → Trees → Type 0
BeginsSecond s db = IsTrue s.is_open × MakesSecond s db
