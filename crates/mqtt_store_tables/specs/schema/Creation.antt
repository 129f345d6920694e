-- How the tables of schema 2 are made, one after the other.
use Rattle.std.specs.Prelude.{◌≡◌, ℕ, ◌-◌, List, [], ◌++◌, take, drop, codes, IsTrue}
use Rattle.sqlite_catalog.specs.Change.{KeepsRows}
use Rattle.sqlite_catalog.specs.Listing.{Lists}
use Rattle.sqlite_schema.specs.declared.schema.Schema.{Schema}
use Rattle.sqlite_trees.specs.Tree.{Trees}
use Rattle.sqlite_trees.specs.Objects.{catalog_tree}
use Rattle.sqlite.specs.State.{State}
use Rattle.sqlite.specs.Effect.{Database}
use Rattle.mqtt_store_tables.specs.forms.Creation.{first, AreEmpty, numbers_of}
use Rattle.mqtt_store_tables.specs.schema.Tables.{base_of, free_tree, tables_from, indexes_from, second_schema}
use Rattle.mqtt_store_tables.specs.declared.schema.tables.Making.{Making}
use Rattle.mqtt_store_tables.specs.declared.schema.tables.Making.TheVariants.{New}
use Rattle.mqtt_store_tables.specs.declared.schema.creation.Added.{Added}
use Rattle.mqtt_store_tables.specs.declared.schema.creation.Added.TheVariants.{Message, Queued, Kept, QueuedPub, KeptPub}

abbrev pub add_text : Added → List ℕ
add_text Message = codes "CREATE TABLE message (pub INTEGER PRIMARY KEY, topic TEXT NOT NULL, props BLOB NOT NULL, payload BLOB NOT NULL) STRICT"
add_text Queued = codes "CREATE TABLE queued (birth INTEGER NOT NULL REFERENCES session (birth) ON DELETE CASCADE, place INTEGER NOT NULL, pub INTEGER NOT NULL REFERENCES message (pub), cause INTEGER NOT NULL, cause_text TEXT NOT NULL, cause_n INTEGER NOT NULL, pid INTEGER, phase INTEGER NOT NULL, rel INTEGER, qos INTEGER NOT NULL, retain INTEGER NOT NULL, idents BLOB NOT NULL, arrived INTEGER NOT NULL, PRIMARY KEY (birth, place)) STRICT"
add_text Kept = codes "CREATE TABLE kept (place INTEGER PRIMARY KEY, topic TEXT NOT NULL UNIQUE, sender TEXT NOT NULL, pub INTEGER NOT NULL REFERENCES message (pub), qos INTEGER NOT NULL, arrived INTEGER NOT NULL) STRICT"
add_text QueuedPub = codes "CREATE INDEX queued_pub ON queued (pub)"
add_text KeptPub = codes "CREATE INDEX kept_pub ON kept (pub)"

-- how many are added before it
abbrev pub place_of : Added → ℕ
place_of Message = 0
place_of Queued = 1
place_of Kept = 2
place_of QueuedPub = 3
place_of KeptPub = 4

-- what stood, and the first of what is added; messages have no index of their own
abbrev pub with_first : Making → ℕ → Schema
with_first making n = record {
  tables = (base_of making).tables ++ take n (tables_from (free_tree making));
  indexes = (base_of making).indexes ++ take (n - 1) (indexes_from (free_tree making));
  views = [];
}

-- in a transaction, the first of what is added stands, with no row, and what stood is as it was
pub record HasAdded (making : Making) (n : ℕ) (was : Trees) (s : State) : Type 0 where
  pub schema : s.now.schema ≡ with_first making n
  pub inside : IsTrue s.in_transaction
  pub kept : KeepsRows (base_of making).tables was s.now.trees
  pub empty : AreEmpty (take n (tables_from (free_tree making))) s.now.trees

-- all is added
abbrev pub Adds : Making → State → State → Type 0
Adds making old new = HasAdded making 5 old.now.trees new

-- in a transaction, all tables of a new store stand, with no row
pub record IsBare (s : State) : Type 0 where
  pub schema : s.now.schema ≡ second_schema New
  pub inside : IsTrue s.in_transaction
  pub empty : AreEmpty (second_schema New).tables s.now.trees

abbrev pub fill_text : List ℕ
fill_text = codes "INSERT INTO meta VALUES ('schema', 2), ('births', 0), ('publications', 0), ('subscribes', 0), ('autos', 0), ('moment', 0)"

-- a store of schema 2 that keeps nothing, as its trees list it
pub record IsNewSecond (db : Database) : Type 0 where
  pub schema : db.schema ≡ second_schema New
  pub lists : Lists (db.trees catalog_tree) db.schema
  pub meta_rows : db.trees 0 ≡ numbers_of 2
  pub empty : AreEmpty (drop 1 (second_schema New).tables) db.trees

-- what may be committed where the tables are made
abbrev pub MakesSecond : State → Trees → Type 0
MakesSecond old db = old.now.schema ≡ first 0 → IsNewSecond (record { schema = second_schema New; trees = db })
