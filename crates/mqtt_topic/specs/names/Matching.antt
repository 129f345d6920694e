-- Which filter matches which topic name (MQTT 5.0, 4.7.1 and 4.7.2).
use Rattle.std.specs.Prelude.{◌≡◌, ℕ, Bool, true, false, not, ◌&&◌, ◌||◌, ◌⊎◌, List, [], ◌∷◌, ◌++◌, nat_eq, bytes_eq}
use Rattle.std.specs.List.{AllZip}
use Rattle.mqtt_topic.specs.names.Levels.{levels}
use Rattle.mqtt_topic.specs.names.Names.{plus, hash, is_wildcard}
use Rattle.mqtt_topic.specs.names.Filters.{is_plus, is_hash}

abbrev pub dollar : ℕ
dollar = 36

-- a level of a filter takes a level of a name: it is `+`, or the same (4.7.1.3)
abbrev pub Takes : List ℕ → List ℕ → Type 0
Takes filter name = (filter ≡ plus ∷ []) ⊎ (filter ≡ name)

-- level by level, as many as there are; or all before a last `#`, which takes any number of
-- further levels, none included (4.7.1.2)
pub data MatchesLevels (filter name : List (List ℕ)) : Type 0 where
  whole : AllZip Takes filter name → MatchesLevels filter name
  with_hash : (front taken rest : List (List ℕ)) → filter ≡ front ++ (hash ∷ []) ∷ [] → name ≡ taken ++ rest → AllZip Takes front taken → MatchesLevels filter name

-- the first character of a text passes a test
abbrev pub is_first : (ℕ → Bool) → List ℕ → Bool
is_first test [] = false
is_first test (c ∷ cs) = test c

-- a filter that begins with a wildcard, and a name that begins with `$` (4.7.2)
abbrev pub are_apart : List ℕ → List ℕ → Bool
are_apart filter name = is_first is_wildcard filter && is_first (nat_eq dollar) name

-- the filter matches the name (4.7)
pub record Matches (filter name : List ℕ) : Type 0 where
  pub by_levels : MatchesLevels (levels filter) (levels name)
  pub apart : are_apart filter name ≡ false

-- the same as a function: for a filter, `#` stands last
abbrev pub matches_levels : List (List ℕ) → List (List ℕ) → Bool
matches_levels [] [] = true
matches_levels [] (n ∷ ns) = false
matches_levels (f ∷ fs) [] = is_hash f
matches_levels (f ∷ fs) (n ∷ ns) = is_hash f || ((is_plus f || bytes_eq f n) && matches_levels fs ns)

abbrev pub is_match : List ℕ → List ℕ → Bool
is_match filter name = matches_levels (levels filter) (levels name) && not (are_apart filter name)
