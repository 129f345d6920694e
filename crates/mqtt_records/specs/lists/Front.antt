-- Rows that have left and still stand in front of a list.
use Rattle.std.specs.Prelude.{ℕ, List, ◌++◌, map, take, drop}

module _ {X : Type 0} where
  -- the first `gone` rows of xs have left: they, and then the row at the place behind them, slim
  abbrev pub left_with : (X → X) → ℕ → ℕ → List X → List X
  left_with slim gone place xs = take gone xs ++ map slim (take 1 (drop place (drop gone xs)))
