-- Which rows say the items of a list, and which of a table are one session's (4.1).
use Rattle.std.specs.Prelude.{◌≡◌, ℕ, List, [], ◌∷◌, ◌++◌}
use Rattle.std.specs.List.{AllByRecursion}
use Rattle.sqlite_value.specs.Order.{Row, column}
use Rattle.mqtt_store_rows.specs.values.Values.{number}

-- each row says the item in its place
abbrev pub AreRows : {X : Type 0} → (X → Row → Type 0) → List Row → List X → Type 0
AreRows Says [] [] = Unit {0}
AreRows Says [] (x ∷ xs) = ⊥
AreRows Says (row ∷ rows) [] = ⊥
AreRows Says (row ∷ rows) (x ∷ xs) = Says x row × AreRows Says rows xs

-- the row is the session's
abbrev pub IsOf : ℕ → Row → Type 0
IsOf birth row = column row 0 ≡ number birth

-- each row is the session's
abbrev pub AllOf : ℕ → List Row → Type 0
AllOf birth = AllByRecursion (IsOf birth)

-- the first row, if there is one, is another session's
abbrev pub BeginsOther : ℕ → List Row → Type 0
BeginsOther birth [] = Unit {0}
BeginsOther birth (row ∷ rows) = IsOf birth row → ⊥

-- the rows at the front are the session's and say its list, and the rest follows
pub record Takes {X : Type 0} (Says : X → Row → Type 0) (birth : ℕ) (part : List X) (rows rest : List Row) : Type 0 where
  pub front : List Row
  pub parts : rows ≡ front ++ rest
  pub mine : AllOf birth front
  pub are : AreRows Says front part

-- the same, and the session has no further rows there
pub record TakesAll {X : Type 0} (Says : X → Row → Type 0) (birth : ℕ) (part : List X) (rows rest : List Row) : Type 0 where
  pub takes : Takes Says birth part rows rest
  pub ends : BeginsOther birth rest
