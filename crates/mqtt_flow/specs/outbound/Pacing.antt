-- How far a pump may go on.
use Rattle.std.specs.Prelude.{ℕ, List}

-- what a pump has left: PUBLISH, room in the window, the identifiers in use, the next order of release
pub record Pacing : Type 0 where
  pub left : ℕ
  pub room : ℕ
  pub used : List ℕ
  pub order : ℕ
