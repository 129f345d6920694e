-- Filters in the order of their levels, so that those which begin with the same levels are neighbours, as in a tree (MQTT 5.0, 4.7).
use Rattle.std.specs.Prelude.{◌≡◌, ⊤, ℕ, ◌+◌, ◌<◌, ◌≤◌, Bool, true, false, cond, ◌&&◌, List, [], ◌∷◌, length, drop, get_or, nat_lt, nat_le, nat_eq, bytes_eq, Option, Some, None}
use Rattle.std.specs.List.{All, count_by}
use Rattle.std.specs.declared.cmp.Ordering.{Ordering}
use Rattle.std.specs.declared.cmp.Ordering.TheVariants.{Less, Equal, Greater}
use Rattle.std.specs.Ordering.{nat_cmp}
use Rattle.std.specs.Cmp.Lexicographic.{slice_cmp}
use Rattle.mqtt_topic.specs.names.Names.{has_wildcard}
use Rattle.mqtt_topic.specs.names.Levels.{levels}
use Rattle.mqtt_routes.specs.declared.tree.run.Run.{Run}
use Rattle.mqtt_topic.specs.names.Matching.{matches_levels, is_match}

-- ---- the order

-- by the comparison of their first levels, or else of the others
abbrev pub by_first : Ordering → Bool → Bool
by_first Less rest = true
by_first Equal rest = rest
by_first Greater rest = false

-- some levels don't come after others: level by level, in the order of their bytes, and fewer before more
abbrev pub in_order : List (List ℕ) → List (List ℕ) → Bool
in_order [] gs = true
in_order (f ∷ fs) [] = false
in_order (f ∷ fs) (g ∷ gs) = by_first (slice_cmp nat_cmp f g) (in_order fs gs)

-- some levels come before all that begin with a level; with `also`, those that begin with it too
abbrev pub is_before : Bool → List ℕ → List (List ℕ) → Bool
is_before also level [] = true
is_before also level (f ∷ fs) = by_first (slice_cmp nat_cmp f level) also

abbrev pub begins_with : List ℕ → List (List ℕ) → Bool
begins_with level [] = false
begins_with level (f ∷ fs) = bytes_eq f level

-- the levels of a text: all, or those behind the one that ends at a byte, which is that of a slash; at the text's end there are none
abbrev pub levels_behind : Option ℕ → List ℕ → List (List ℕ)
levels_behind None text = levels text
levels_behind (Some end) text = cond (nat_lt end (length text)) (levels (drop (end + 1) text)) []

-- the byte at which they begin, and the one at which a level there ends
abbrev pub start_behind : Option ℕ → ℕ
start_behind None = 0
start_behind (Some end) = end + 1

abbrev pub end_of : Option ℕ → List ℕ → ℕ
end_of end level = start_behind end + length level

-- filters stand in the order of their levels
abbrev pub AreOrdered : List (List ℕ) → Type 0
AreOrdered texts = (i j : ℕ) → i ≤ j → j < length texts → in_order (levels (get_or texts i [])) (levels (get_or texts j [])) ≡ true

-- ---- neighbours

abbrev pub is_within : ℕ → Run → Bool
is_within i run = nat_le run.from i && nat_lt i run.to

-- the levels of a filter that a run's filters don't have in common
abbrev pub rest_of : List (List ℕ) → Run → ℕ → List (List ℕ)
rest_of texts run i = levels_behind run.end (get_or texts i [])

-- its filters stand, and what they don't have in common is in order
pub record IsRun (texts : List (List ℕ)) (run : Run) : Type 0 where
  pub some : run.from ≤ run.to
  pub within : run.to ≤ length texts
  pub ordered : (i j : ℕ) → run.from ≤ i → i ≤ j → j < run.to → in_order (rest_of texts run i) (rest_of texts run j) ≡ true

abbrev pub AreRuns : List (List ℕ) → List Run → Type 0
AreRuns texts runs = All (IsRun texts) runs

-- levels of a name: without wildcards
abbrev pub ArePlain : List (List ℕ) → Type 0
ArePlain [] = ⊤
ArePlain (l ∷ ls) = (has_wildcard l ≡ false) × ArePlain ls

-- ---- what matches

-- how often something is found: once if a test holds, or not at all
abbrev pub once : Bool → ℕ
once holds = cond holds 1 0

-- how often a filter is found in a run whose rest matches levels of a name: once, or not at all
abbrev pub found_in : List (List ℕ) → List (List ℕ) → ℕ → Run → ℕ
found_in texts ls i run = once (is_within i run && matches_levels (rest_of texts run i) ls)

abbrev pub found_in_all : List (List ℕ) → List (List ℕ) → ℕ → List Run → ℕ
found_in_all texts ls i [] = 0
found_in_all texts ls i (r ∷ rs) = found_in texts ls i r + found_in_all texts ls i rs

-- how often a number is to be found: once if a filter of this number matches the name
abbrev pub is_found : List (List ℕ) → List ℕ → ℕ → ℕ
is_found texts name i = once (nat_lt i (length texts) && is_match (get_or texts i []) name)

-- each number of a filter that matches the name is there once, and no other
abbrev pub AreMatching : List (List ℕ) → List ℕ → List ℕ → Type 0
AreMatching texts name numbers = (i : ℕ) → count_by (nat_eq i) numbers ≡ is_found texts name i

-- ---- where a filter is put

-- a place for a filter: those before it don't come after it, and it doesn't come after the others
pub record IsPlace (texts : List (List ℕ)) (filter : List ℕ) (place : ℕ) : Type 0 where
  pub within : place ≤ length texts
  pub before : (i : ℕ) → i < place → in_order (levels (get_or texts i [])) (levels filter) ≡ true
  pub after : (i : ℕ) → place ≤ i → i < length texts → in_order (levels filter) (levels (get_or texts i [])) ≡ true
