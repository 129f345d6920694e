-- Which texts are topic names (MQTT 5.0, 4.7.1 and 4.7.3).
use Rattle.std.specs.Prelude.{◌≡◌, ◌≢◌, ℕ, Bool, true, false, not, ◌&&◌, ◌||◌, List, [], ◌∷◌, nat_eq}
use Rattle.std.specs.List.{list_any}
use Rattle.mqtt_topic.specs.declared.names.fault.TopicFault.{TopicFault}
use Rattle.mqtt_topic.specs.declared.names.fault.TopicFault.TheVariants.{Empty, WildcardInName, WildcardPlace, Share, AliasRange, AliasUnknown, Memory, NotText}
use Rattle.mqtt_base.specs.Values.{FitsText}

-- the single-level and the multi-level wildcard
abbrev pub plus : ℕ
plus = 43

abbrev pub hash : ℕ
hash = 35

abbrev pub is_wildcard : ℕ → Bool
is_wildcard c = nat_eq c plus || nat_eq c hash

abbrev pub has_wildcard : List ℕ → Bool
has_wildcard text = list_any is_wildcard text

abbrev pub is_empty : List ℕ → Bool
is_empty [] = true
is_empty (c ∷ cs) = false

-- at least one character, and no wildcard
abbrev pub is_topic_name : List ℕ → Bool
is_topic_name text = not (is_empty text) && not (has_wildcard text)

-- the same as a fact
pub record IsTopicName (text : List ℕ) : Type 0 where
  pub some : text ≢ []
  pub plain : has_wildcard text ≡ false

-- why packets can't carry a text: above 65,535 bytes or U+0000 (1.5.4, 4.7.3)
abbrev pub RefusesText : List ℕ → TopicFault → Type 0
RefusesText text Empty = ⊥
RefusesText text WildcardInName = ⊥
RefusesText text WildcardPlace = ⊥
RefusesText text Share = ⊥
RefusesText text AliasRange = ⊥
RefusesText text AliasUnknown = ⊥
RefusesText text Memory = FitsText text
RefusesText text NotText = ¬ FitsText text

-- why a text is no topic name; memory is wanted for topic names alone
abbrev pub RefusesName : List ℕ → TopicFault → Type 0
RefusesName text Empty = text ≡ []
RefusesName text WildcardInName = (text ≢ []) × (has_wildcard text ≡ true)
RefusesName text WildcardPlace = ⊥
RefusesName text Share = ⊥
RefusesName text AliasRange = ⊥
RefusesName text AliasUnknown = ⊥
RefusesName text Memory = IsTopicName text × FitsText text
RefusesName text NotText = IsTopicName text × ¬ FitsText text
