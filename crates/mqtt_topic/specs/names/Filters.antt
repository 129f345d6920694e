-- Which texts are topic filters and shared filters (MQTT 5.0, 4.7.1, 4.7.3, 4.8.2).
use Rattle.std.specs.Prelude.{◌≡◌, ◌≢◌, ℕ, Bool, true, false, cond, not, ◌&&◌, ◌||◌, ◌⊎◌, List, [], ◌∷◌, ◌++◌, bytes_eq, codes}
use Rattle.std.specs.List.{All, AllByRecursion, after_first, before_first}
use Rattle.mqtt_topic.specs.declared.names.fault.TopicFault.{TopicFault}
use Rattle.mqtt_topic.specs.declared.names.fault.TopicFault.TheVariants.{Empty, WildcardInName, WildcardPlace, Share, AliasRange, AliasUnknown, Memory, NotText}
use Rattle.mqtt_base.specs.Values.{FitsText}
use Rattle.mqtt_topic.specs.names.Levels.{slash, is_slash, levels, is_none_left}
use Rattle.mqtt_topic.specs.names.Names.{plus, hash, is_empty, has_wildcard, is_topic_name, IsTopicName}

abbrev pub is_plus : List ℕ → Bool
is_plus level = bytes_eq level (plus ∷ [])

abbrev pub is_hash : List ℕ → Bool
is_hash level = bytes_eq level (hash ∷ [])

-- a level of a filter, the last one or not: a wildcard fills it, and `#` only the last one (4.7.1)
abbrev pub is_filter_level : Bool → List ℕ → Bool
is_filter_level last level = not (has_wildcard level) || (is_plus level || (last && is_hash level))

abbrev pub are_filter_levels : List (List ℕ) → Bool
are_filter_levels [] = true
are_filter_levels (l ∷ ls) = is_filter_level (is_none_left ls) l && are_filter_levels ls

-- the levels of the empty text
abbrev pub are_of_empty : List (List ℕ) → Bool
are_of_empty [] = true
are_of_empty (l ∷ ls) = is_empty l && is_none_left ls

-- the first level of a shared filter, and whether the levels are of a text that begins with `$share/`
abbrev pub share : List ℕ
share = codes "$share"

abbrev pub begin_share : List (List ℕ) → Bool
begin_share [] = false
begin_share (l ∷ ls) = bytes_eq l share && not (is_none_left ls)

abbrev pub begins_share : List ℕ → Bool
begins_share text = begin_share (levels text)

-- the levels of a filter: with wildcards in their places; or `$share`, a name, and a filter
-- again (4.8.2). `named` says that the name comes next
abbrev pub are_of_filter : Bool → List (List ℕ) → Bool
are_of_filter named [] = false
are_of_filter true (name ∷ ls) = is_topic_name name && are_of_filter false ls
are_of_filter false (l ∷ ls) =
    cond (begin_share (l ∷ ls)) (are_of_filter true ls) (not (are_of_empty (l ∷ ls)) && are_filter_levels (l ∷ ls))

abbrev pub is_filter : List ℕ → Bool
is_filter text = are_of_filter false (levels text)

abbrev pub is_shared_filter : List ℕ → Bool
is_shared_filter text = begins_share text && is_filter text

-- NAME/FILTER of `$share/NAME/FILTER`, and its parts
abbrev pub group_of : List ℕ → List ℕ
group_of text = after_first is_slash text

abbrev pub share_name_of : List ℕ → List ℕ
share_name_of text = before_first is_slash (group_of text)

abbrev pub shared_part_of : List ℕ → List ℕ
shared_part_of text = after_first is_slash (group_of text)

-- the filter by which a subscription matches: FILTER of a shared one
abbrev pub matching_part_of : List ℕ → List ℕ
matching_part_of text = cond (begins_share text) (shared_part_of text) text

-- why a text is no filter; memory is wanted for filters alone
abbrev pub RefusesFilter : List ℕ → TopicFault → Type 0
RefusesFilter text Empty = text ≡ []
RefusesFilter text WildcardInName = ⊥
RefusesFilter text WildcardPlace = (text ≢ []) × (begins_share text ≡ false) × (is_filter text ≡ false)
RefusesFilter text Share = (begins_share text ≡ true) × (is_filter text ≡ false)
RefusesFilter text AliasRange = ⊥
RefusesFilter text AliasUnknown = ⊥
RefusesFilter text Memory = (is_filter text ≡ true) × FitsText text
RefusesFilter text NotText = (is_filter text ≡ true) × ¬ FitsText text

-- why a text is no shared filter
abbrev pub RefusesShared : List ℕ → TopicFault → Type 0
RefusesShared text Empty = ⊥
RefusesShared text WildcardInName = ⊥
RefusesShared text WildcardPlace = ⊥
RefusesShared text Share = is_shared_filter text ≡ false
RefusesShared text AliasRange = ⊥
RefusesShared text AliasUnknown = ⊥
RefusesShared text Memory = (is_shared_filter text ≡ true) × FitsText text
RefusesShared text NotText = (is_shared_filter text ≡ true) × ¬ FitsText text

-- ---- the same in the standard's words

-- a level without wildcards, or `+` alone (4.7.1.3)
abbrev pub IsPlainLevel : List ℕ → Type 0
IsPlainLevel level = (has_wildcard level ≡ false) ⊎ (level ≡ plus ∷ [])

-- such levels, the last of which may be `#` instead (4.7.1.2)
pub record FillsLevels (all : List (List ℕ)) : Type 0 where
  pub front : List (List ℕ)
  pub last : List ℕ
  pub are : all ≡ front ++ last ∷ []
  pub plain : AllByRecursion IsPlainLevel front
  pub ends : IsPlainLevel last ⊎ (last ≡ hash ∷ [])

-- a filter: such levels of a text that has a character and doesn't begin with `$share/`; or `$share/`,
-- a name without slash and wildcard, a slash, and a filter (4.8.2)
pub data IsFilter : List ℕ → Type 0 where
  unshared : (text : List ℕ) → text ≢ [] → begins_share text ≡ false → FillsLevels (levels text) → IsFilter text
  shared : (text name filter : List ℕ) → text ≡ share ++ slash ∷ (name ++ slash ∷ filter) → IsTopicName name → All (λ c. is_slash c ≡ false) name → IsFilter filter → IsFilter text
