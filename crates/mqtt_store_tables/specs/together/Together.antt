-- Copies that are put by one statement.
use Rattle.std.specs.Prelude.{◌≡◌, ℕ, Bool, true, false, List, [], ◌∷◌}
use Rattle.std.specs.List.{flat_map}
use Rattle.sqlite_value.specs.Order.{Row}
use Rattle.sqlite_trees.specs.Tree.{Trees}
use Rattle.mqtt_store_tables.specs.declared.schema.tables.Making.{Making}
use Rattle.mqtt_store_tables.specs.messages.Rows.{QueuedColumns, queued_row}
use Rattle.mqtt_store_tables.specs.messages.Comings.{InsertsQueued}

-- a copy that is put, and where
pub record Coming : Type 0 where
  pub birth : ℕ
  pub place : ℕ
  pub copy : QueuedColumns

-- without the number that the table gives it
abbrev pub coming_row : Coming → Row
coming_row c = queued_row c.birth c.place c.copy

-- one behind the other
abbrev pub coming_rows : List Coming → Row
coming_rows = flat_map coming_row

-- the copies are put one after the other, and none stood at the place of any
abbrev pub ComeEach : Making → List Coming → Trees → Trees → Type 0
ComeEach making [] old new = new ≡ old
ComeEach making (c ∷ cs) old new = (mid : Trees) × InsertsQueued making c.birth c.place c.copy true old mid × ComeEach making cs mid new

-- all of them, or else all is as it was
abbrev pub InsertsEach : Making → List Coming → Bool → Trees → Trees → Type 0
InsertsEach making cs true old new = ComeEach making cs old new
InsertsEach making cs false old new = new ≡ old
