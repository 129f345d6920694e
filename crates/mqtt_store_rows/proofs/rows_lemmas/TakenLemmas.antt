-- Rows that are taken off the front of a list.
use Rattle.std.proofs.Common.{◌≡◌, ℕ, List, [], ◌∷◌, ◌++◌, refl}
use Rattle.sqlite_value.specs.Order.{Row}
use Rattle.mqtt_store_rows.specs.values.Lists.{AreRows, AllOf, BeginsOther}
use Rattle.mqtt_store_rows.proofs.values_lemmas.PartLemmas.{same_parts}

abbrev IsRow : Row → Row → Type 0
IsRow row other = row ≡ other

are_rows : (rows : List Row) → AreRows IsRow rows rows
are_rows [] = tt
are_rows (row ∷ rows) = (refl, are_rows rows)

-- which rows at the front are a session's is determined
pub same_taken : (birth : ℕ) (rows part rest front more : List Row) → rows ≡ part ++ rest → AllOf birth part → BeginsOther birth rest → rows ≡ front ++ more → AllOf birth front → BeginsOther birth more → part ≡ front
same_taken birth rows part rest front more is mine ends parts theirs stops =
    (same_parts IsRow birth birth part front rows rest more refl
    (record { front = part; parts = is; mine = mine; are = are_rows part }) ends
    (record { front = front; parts = parts; mine = theirs; are = are_rows front }) stops).0
