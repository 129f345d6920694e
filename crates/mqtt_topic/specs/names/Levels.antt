-- The levels of topic names and topic filters (MQTT 5.0, 4.7.1.1).
use Rattle.std.specs.Prelude.{ℕ, Bool, true, false, List, [], ◌∷◌, nat_eq, Option, Some, None}
use Rattle.std.specs.List.{slice_split}
use denote.Ref.{Bor}

-- the topic level separator
abbrev pub slash : ℕ
slash = 47

abbrev pub is_slash : ℕ → Bool
is_slash c = nat_eq c slash

-- a text from one `/` to the next; levels may be empty, and there is at least one
abbrev pub levels : List ℕ → List (List ℕ)
levels text = slice_split is_slash text

-- the levels of what is left of a text, if something is
abbrev pub levels_left : Option (Bor (List ℕ)) → List (List ℕ)
levels_left None = []
levels_left (Some rest) = levels rest.now

-- whether no level is left
abbrev pub is_none_left : List (List ℕ) → Bool
is_none_left [] = true
is_none_left (l ∷ ls) = false
