-- Which records a database of schema 2 keeps: its rows are written from them, item by item (4.1).
use Rattle.std.specs.Prelude.{◌≡◌, ℕ, List, [], ◌∷◌, ◌++◌, take, codes}
use Rattle.sqlite_value.specs.Order.{Row, column}
use Rattle.sqlite_trees.specs.Tree.{Trees}
use Rattle.sqlite_rules.specs.Lists.{Has}
use Rattle.mqtt_records.specs.declared.state.records.Records.{Records}
use Rattle.mqtt_records.specs.state.Records.{kept_place}
use Rattle.mqtt_records.specs.lists.Order.{IsAscending}
use Rattle.mqtt_records.specs.state.Members.{Has as HasItem}
use Rattle.mqtt_records.specs.state.Contents.{IsMessageOf, SharesContents}
use Rattle.mqtt_store_tables.specs.declared.schema.tables.Making.{Making}
use Rattle.mqtt_store_tables.specs.declared.schema.tables.Making.TheVariants.{New, TakenOver}
use Rattle.mqtt_store_tables.specs.statements.Content.{IsShapedAt}
use Rattle.mqtt_store_tables.specs.messages.Places.{message_tree, queued_tree, kept_tree}
use Rattle.mqtt_store_database.specs.item_laws.Members.{HasColumns, AllOrdered}
use Rattle.mqtt_store_database.specs.item_laws.Items.{IsNumberRow, IsSessionRow, IsWillRow, IsSubscriptionRow, IsOpenRow}
use Rattle.mqtt_store_database.specs.item_laws.Written.{AreWritten, AreSayable, numbers_in, IsWillOf, IsSubscriptionOf, IsOpenOf, IsCopyOf}
use Rattle.mqtt_store_database.specs.row_laws.Items.{IsMessageRow, IsQueuedRow, IsKeptRow}

-- the five numbers as in schema 1; schema is 2
abbrev pub second_numbers : Records → List (List ℕ × ℕ)
second_numbers r = take 5 (numbers_in r) ++ (codes "schema", 2) ∷ []

-- if the tables of copies and retained messages of schema 1 still stand, they have no row
abbrev pub HasNoOldRows : Making → Trees → Type 0
HasNoOldRows New db = Unit {0}
HasNoOldRows TakenOver db = (db 9 ≡ []) × (db 11 ≡ [])

-- the tables have the rows of these records: each message once, each copy and retained message without what its message says
pub record HasRowsTwo (making : Making) (db : Trees) (r : Records) : Type 0 where
  pub meta : AreWritten IsNumberRow (HasItem (second_numbers r)) (db 0)
  pub sessions : AreWritten IsSessionRow (HasColumns r) (db 2)
  pub wills : AreWritten IsWillRow (IsWillOf r) (db 4)
  pub subscriptions : AreWritten IsSubscriptionRow (IsSubscriptionOf r) (db 5)
  pub inbound : AreWritten IsOpenRow (IsOpenOf r) (db 7)
  pub messages : AreWritten IsMessageRow (IsMessageOf r) (db (message_tree making))
  pub queued : AreWritten IsQueuedRow (IsCopyOf r) (db (queued_tree making))
  pub kept : AreWritten IsKeptRow (HasItem r.retained) (db (kept_tree making))
  pub old : HasNoOldRows making db

-- in the tables in which rows are set no two have the same key: a name, or a birth and a place
pub record AreAllSingleTwo (making : Making) (db : Trees) : Type 0 where
  pub numbers : (a b : Row) → Has (db 0) a → Has (db 0) b → column a 1 ≡ column b 1 → a ≡ b
  pub queued : (a b : Row) → Has (db (queued_tree making)) a → Has (db (queued_tree making)) b → column a 1 ≡ column b 1 → column a 2 ≡ column b 2 → a ≡ b

-- what a database of schema 2 keeps
pub record KeepsRowsTwo (making : Making) (db : Trees) (r : Records) : Type 0 where
  pub rows : HasRowsTwo making db r
  pub single : AreAllSingleTwo making db
  pub ordered : AllOrdered r
  pub by_place : IsAscending kept_place r.retained
  pub sayable : AreSayable r
  pub shared : SharesContents r

-- the rows of the eight tables rise by their numbers
pub record AreInOrderTwo (making : Making) (db : Trees) : Type 0 where
  pub meta : IsShapedAt db 0
  pub session : IsShapedAt db 2
  pub will : IsShapedAt db 4
  pub sub : IsShapedAt db 5
  pub inbound : IsShapedAt db 7
  pub message : IsShapedAt db (message_tree making)
  pub queued : IsShapedAt db (queued_tree making)
  pub kept : IsShapedAt db (kept_tree making)
