-- How the tables are made, one after the other.
use Rattle.std.specs.Prelude.{◌≡◌, ℕ, ◌-◌, nat_le, if◌then◌else◌, List, [], ◌∷◌, take, codes, IsTrue, pos}
use Rattle.std.specs.List.{AllByRecursion}
use Rattle.sqlite_schema.specs.declared.schema.Schema.{Schema}
use Rattle.sqlite_schema.specs.declared.schema.Table.{Table}
use Rattle.sqlite_trees.specs.Tree.{Trees}
use Rattle.sqlite.specs.State.{State}
use Rattle.sqlite_value.specs.declared.value.Value.TheVariants.{Int, Text}
use Rattle.sqlite_value.specs.Order.{Row}
use Rattle.mqtt_store_tables.specs.forms.Tables.{keep_schema, session, will, sub, inbound, copy, retained}
use Rattle.mqtt_store_tables.specs.declared.forms.schema.StoreTable.{StoreTable}
use Rattle.mqtt_store_tables.specs.declared.forms.schema.StoreTable.TheVariants.{Meta, Session, Will, Subscription, Inbound, Copy, Retained}

abbrev pub create_text : StoreTable → List ℕ
create_text Meta = codes "CREATE TABLE meta (name TEXT PRIMARY KEY NOT NULL, n INTEGER NOT NULL) STRICT"
create_text Session = codes "CREATE TABLE session (birth INTEGER PRIMARY KEY, client TEXT NOT NULL UNIQUE, expiry INTEGER NOT NULL, closed INTEGER) STRICT"
create_text Will = codes "CREATE TABLE will (birth INTEGER PRIMARY KEY REFERENCES session (birth) ON DELETE CASCADE, delay INTEGER NOT NULL, topic TEXT NOT NULL, qos INTEGER NOT NULL, retain INTEGER NOT NULL, props BLOB NOT NULL, payload BLOB NOT NULL) STRICT"
create_text Subscription = codes "CREATE TABLE sub (birth INTEGER NOT NULL REFERENCES session (birth) ON DELETE CASCADE, filter TEXT NOT NULL, place INTEGER NOT NULL, qos INTEGER NOT NULL, nolocal INTEGER NOT NULL, rap INTEGER NOT NULL, handling INTEGER NOT NULL, ident INTEGER NOT NULL, PRIMARY KEY (birth, filter)) STRICT"
create_text Inbound = codes "CREATE TABLE inbound (birth INTEGER NOT NULL REFERENCES session (birth) ON DELETE CASCADE, ident INTEGER NOT NULL, PRIMARY KEY (birth, ident)) STRICT"
create_text Copy = codes "CREATE TABLE copy (birth INTEGER NOT NULL REFERENCES session (birth) ON DELETE CASCADE, place INTEGER NOT NULL, pub INTEGER NOT NULL, cause INTEGER NOT NULL, cause_text TEXT NOT NULL, cause_n INTEGER NOT NULL, pid INTEGER, phase INTEGER NOT NULL, rel INTEGER, topic TEXT NOT NULL, qos INTEGER NOT NULL, retain INTEGER NOT NULL, props BLOB NOT NULL, payload BLOB NOT NULL, arrived INTEGER NOT NULL, PRIMARY KEY (birth, place)) STRICT"
create_text Retained = codes "CREATE TABLE retained (place INTEGER PRIMARY KEY, topic TEXT NOT NULL UNIQUE, sender TEXT NOT NULL, pub INTEGER NOT NULL, qos INTEGER NOT NULL, props BLOB NOT NULL, payload BLOB NOT NULL, arrived INTEGER NOT NULL) STRICT"

-- how many tables are made before it
abbrev pub place_of : StoreTable → ℕ
place_of Meta = 0
place_of Session = 1
place_of Will = 2
place_of Subscription = 3
place_of Inbound = 4
place_of Copy = 5
place_of Retained = 6

-- the first tables, with their indexes; the third has none
abbrev pub first : ℕ → Schema
first n = record { tables = take n keep_schema.tables; indexes = take (if nat_le n 2 then n else n - 1) keep_schema.indexes; views = [] }

abbrev pub AreEmpty : List Table → Trees → Type 0
AreEmpty tables db = AllByRecursion (λ t. db t.tree ≡ []) tables

-- in a transaction, the first tables stand, with no row
pub record HasTables (n : ℕ) (s : State) : Type 0 where
  pub schema : s.now.schema ≡ first n
  pub inside : IsTrue s.in_transaction
  pub empty : AreEmpty (first n).tables s.now.trees

-- a row of meta, behind the number that the table gives it
abbrev pub number_row : ℕ → List ℕ → ℕ → Row
number_row place name n = Int (pos place) ∷ Text name ∷ Int (pos n) ∷ []

-- the numbers of a store of this schema before anything is kept
abbrev pub numbers_of : ℕ → List Row
numbers_of schema = number_row 1 (codes "schema") schema ∷ number_row 2 (codes "births") 0 ∷ number_row 3 (codes "publications") 0 ∷ number_row 4 (codes "subscribes") 0 ∷ number_row 5 (codes "autos") 0 ∷ number_row 6 (codes "moment") 0 ∷ []
