-- What a writer leaves of what was there before.
use Rattle.std.specs.Prelude.{◌≡◌, ℕ, List, take, length}

-- what was there stands in front still
abbrev pub KeepsFront : List ℕ → List ℕ → Type 0
KeepsFront before after = take (length before) after ≡ before
