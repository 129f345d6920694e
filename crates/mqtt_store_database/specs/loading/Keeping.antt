-- Which records a database of the store has, be it of schema 1 or of schema 2 (4.1).
use Rattle.std.specs.Prelude.{◌≡◌, ◌⊎◌}
use Rattle.std.specs.List.{AllByRecursion}
use Rattle.sqlite_trees.specs.Objects.{catalog_tree}
use Rattle.sqlite_trees.specs.Tree.{Trees}
use Rattle.sqlite_schema.specs.declared.schema.Schema.{Schema}
use Rattle.sqlite_catalog.specs.Listing.{Lists}
use Rattle.sqlite.specs.Effect.{Database}
use Rattle.mqtt_records.specs.declared.state.records.Records.{Records}
use Rattle.mqtt_records.specs.state.Records.{nothing}
use Rattle.mqtt_store_tables.specs.forms.Tables.{keep_schema}
use Rattle.mqtt_store_tables.specs.forms.Creation.{first}
use Rattle.mqtt_store_tables.specs.schema.Tables.{second_schema}
use Rattle.mqtt_store_tables.specs.declared.schema.tables.Making.{Making}
use Rattle.mqtt_store_database.specs.taking_over.Kept.{HasRecords}
use Rattle.mqtt_store_tables.specs.statements.Content.{IsShapedAt}
use Rattle.mqtt_store_database.specs.taking_over.Written.{KeepsRows}
use Rattle.mqtt_store_database.specs.reading.Kept.{HasRecordsTwo}
use Rattle.mqtt_store_database.specs.row_laws.Written.{KeepsRowsTwo}

-- an empty database has nothing yet
abbrev pub HasNothing : Database → Records → Type 0
HasNothing db r = (db.schema ≡ first 0) × (r ≡ nothing)

-- ---- what a load finds: the rows of the tables give these records

abbrev pub FindsFirst : Database → Records → Type 0
FindsFirst db r = (db.schema ≡ keep_schema) × HasRecords db.trees r

abbrev pub FindsSecond : Database → Records → Type 0
FindsSecond db r = (making : Making) × (db.schema ≡ second_schema making) × HasRecordsTwo making db.trees r

abbrev pub FindsIn : Database → Records → Type 0
FindsIn db r = FindsFirst db r ⊎ (FindsSecond db r ⊎ HasNothing db r)

-- ---- what was written: the rows of the tables are those of these records

abbrev pub KeepsFirst : Database → Records → Type 0
KeepsFirst db r = (db.schema ≡ keep_schema) × KeepsRows db.trees r

abbrev pub KeepsSecond : Database → Records → Type 0
KeepsSecond db r = (making : Making) × (db.schema ≡ second_schema making) × KeepsRowsTwo making db.trees r

abbrev pub Keeps : Database → Records → Type 0
Keeps db r = KeepsFirst db r ⊎ (KeepsSecond db r ⊎ HasNothing db r)

-- the rows of each table rise by their numbers
abbrev pub AreOrdered : Database → Type 0
AreOrdered db = AllByRecursion (λ t. IsShapedAt db.trees t.tree) db.schema.tables

-- ---- what a crash leaves is trees alone, which list their schema

abbrev pub listed_as : Schema → Trees → Database
listed_as schema db = record { schema = schema; trees = db }

-- these trees keep these records
pub record Saves (db : Trees) (r : Records) : Type 0 where
  pub schema : Schema
  pub lists : Lists (db catalog_tree) schema
  pub keeps : Keeps (listed_as schema db) r

-- an open that finds these trees finds these records; if they keep none, it begins with nothing
abbrev pub Finds : Trees → Records → Type 0
Finds db r =
    ((schema : Schema) × Lists (db catalog_tree) schema × FindsIn (listed_as schema db) r)
    ⊎ (((q : Records) → Saves db q → ⊥) × (r ≡ nothing))
