-- What a database of schema 1 becomes in schema 2 (4.1).
use Rattle.std.specs.Prelude.{◌≡◌}
use Rattle.sqlite_trees.specs.Objects.{catalog_tree}
use Rattle.sqlite_trees.specs.Tree.{Trees}
use Rattle.sqlite_catalog.specs.Listing.{Lists}
use Rattle.sqlite.specs.Effect.{Database}
use Rattle.sqlite.specs.State.{State}
use Rattle.mqtt_records.specs.declared.state.records.Records.{Records}
use Rattle.mqtt_keep.specs.lawful.Lawful.{IsLawful}
use Rattle.mqtt_store_tables.specs.forms.Tables.{keep_schema}
use Rattle.mqtt_store_tables.specs.schema.Tables.{second_schema}
use Rattle.mqtt_store_tables.specs.declared.schema.tables.Making.TheVariants.{TakenOver}
use Rattle.mqtt_store_tables.specs.statements.Content.{IsSettled}
use Rattle.mqtt_store_database.specs.taking_over.Written.{KeepsRows}
use Rattle.mqtt_store_database.specs.row_laws.Written.{KeepsRowsTwo}

-- the one keeps these records by schema 1, and the other the same by schema 2, as its trees list it
pub record Migrates (r : Records) (old new : Database) : Type 0 where
  pub first : old.schema ≡ keep_schema
  pub kept : KeepsRows old.trees r
  pub second : new.schema ≡ second_schema TakenOver
  pub lists : Lists (new.trees catalog_tree) new.schema
  pub keeps : KeepsRowsTwo TakenOver new.trees r

-- between two steps it keeps these records by schema 1, and a store may be opened with them
pub record MayMigrate (r : Records) (s : State) : Type 0 where
  pub settled : IsSettled s
  pub keeps : KeepsRows s.now.trees r
  pub lawful : IsLawful r

-- what a migration may commit
abbrev pub MayCommit : Records → State → Trees → Type 0
MayCommit r s db = MayMigrate r s → Migrates r s.now (record { schema = second_schema TakenOver; trees = db })
