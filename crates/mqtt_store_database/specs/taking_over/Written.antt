-- Which records a database of schema 1 keeps: its rows are written from them, item by item (4.1).
use Rattle.std.specs.Prelude.{◌≡◌}
use Rattle.sqlite_value.specs.Order.{Row, column}
use Rattle.sqlite_trees.specs.Tree.{Trees}
use Rattle.sqlite_rules.specs.Lists.{Has}
use Rattle.mqtt_records.specs.declared.state.records.Records.{Records}
use Rattle.mqtt_records.specs.state.Records.{kept_place}
use Rattle.mqtt_records.specs.lists.Order.{IsAscending}
use Rattle.mqtt_records.specs.state.Members.{Has as HasItem}
use Rattle.mqtt_store_database.specs.item_laws.Members.{HasColumns, AllOrdered}
use Rattle.mqtt_store_tables.specs.statements.Content.{AreShaped, IsShapedAt}
use Rattle.mqtt_store_database.specs.item_laws.Items.{IsNumberRow, IsSessionRow, IsWillRow, IsSubscriptionRow, IsOpenRow}
use Rattle.mqtt_store_database.specs.taking_over.Items.{IsCopyRow, IsRetainedRow}
use Rattle.mqtt_store_database.specs.item_laws.Written.{AreSayable, AreWritten, IsCopyOf, IsOpenOf, IsSubscriptionOf, IsWillOf, numbers_in}

-- the tables have the rows of these records
pub record HasRows (db : Trees) (r : Records) : Type 0 where
  pub meta : AreWritten IsNumberRow (HasItem (numbers_in r)) (db 0)
  pub sessions : AreWritten IsSessionRow (HasColumns r) (db 2)
  pub wills : AreWritten IsWillRow (IsWillOf r) (db 4)
  pub subscriptions : AreWritten IsSubscriptionRow (IsSubscriptionOf r) (db 5)
  pub inbound : AreWritten IsOpenRow (IsOpenOf r) (db 7)
  pub copies : AreWritten IsCopyRow (IsCopyOf r) (db 9)
  pub retained : AreWritten IsRetainedRow (HasItem r.retained) (db 11)

-- in the tables in which rows are set no two have the same key: a name, or a birth and a place
pub record AreAllSingle (db : Trees) : Type 0 where
  pub numbers : (a b : Row) → Has (db 0) a → Has (db 0) b → column a 1 ≡ column b 1 → a ≡ b
  pub copies : (a b : Row) → Has (db 9) a → Has (db 9) b → column a 1 ≡ column b 1 → column a 2 ≡ column b 2 → a ≡ b

pub record KeepsRows (db : Trees) (r : Records) : Type 0 where
  pub rows : HasRows db r
  pub single : AreAllSingle db
  pub ordered : AllOrdered r
  pub by_place : IsAscending kept_place r.retained
  pub sayable : AreSayable r

-- the rows of the seven tables rise by their numbers
pub record AreInOrder (db : Trees) : Type 0 where
  pub shaped : AreShaped db
  pub meta : IsShapedAt db 0
  pub retained : IsShapedAt db 11
