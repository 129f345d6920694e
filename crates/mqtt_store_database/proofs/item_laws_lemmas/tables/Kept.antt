-- Tables that stay as they are.
use Rattle.std.proofs.Common.{◌≡◌, List, sym, subst}
use Rattle.sqlite_value.specs.Order.{Row, column}
use Rattle.sqlite_trees.specs.Tree.{Trees}
use Rattle.sqlite_rules.specs.Lists.{Has}
use Rattle.mqtt_store_database.specs.item_laws.Written.{AreWritten}
use Rattle.mqtt_store_database.specs.taking_over.Written.{AreAllSingle}

-- the same rows of the same items
pub moved : {X : Type 0} (IsRow : X → Row → Type 0) (Item : X → Type 0) (old new : List Row) → new ≡ old → AreWritten IsRow Item old → AreWritten IsRow Item new
moved IsRow Item old new same w = subst (AreWritten IsRow Item) (sym same) w

abbrev pub Named : List Row → Type 0
Named rows = (a b : Row) → Has rows a → Has rows b → column a 1 ≡ column b 1 → a ≡ b

abbrev pub Placed : List Row → Type 0
Placed rows = (a b : Row) → Has rows a → Has rows b → column a 1 ≡ column b 1 → column a 2 ≡ column b 2 → a ≡ b

-- in a table of numbers that stays no two rows have one name
pub numbers_same : (old new : Trees) → new 0 ≡ old 0 → AreAllSingle old → Named (new 0)
numbers_same old new same s = subst Named (sym same) s.numbers

-- in a table of copies that stays no two rows have one session and place
pub copies_same : (old new : Trees) → new 9 ≡ old 9 → AreAllSingle old → Placed (new 9)
copies_same old new same s = subst Placed (sym same) s.copies
