-- Lemmas on filters and their levels (MQTT 5.0, 4.7.1, 4.8.2).
use Rattle.std.proofs.Common.{◌≡◌, ℕ, Bool, true, false, cond, not, ◌&&◌, List, [], ◌∷◌, length, refl, sym, ap, ◌∙◌, eqb, bytes_eq}
use Rattle.std.specs.List.{onto_first}
use Rattle.mqtt_topic.specs.names.Levels.{levels, is_slash, is_none_left}
use Rattle.mqtt_topic.specs.names.Names.{is_empty, is_topic_name}
use Rattle.mqtt_topic.specs.names.Filters.{share, begin_share, begins_share, are_of_empty, are_of_filter, are_filter_levels, is_filter, is_shared_filter, matching_part_of, shared_part_of}
use Rattle.mqtt_topic.proofs.names_lemmas.LevelLemmas.{is_none_left-levels}

-- an "and" with what fails fails
pub and_false : (b : Bool) → (b && false) ≡ false
and_false true = refl
and_false false = refl

and_true : (b : Bool) → (b && true) ≡ b
and_true true = refl
and_true false = refl

-- a text that is longer than nothing is not empty
pub not_empty : (text : List ℕ) → eqb (length text) 0 ≡ false → is_empty text ≡ false
not_empty [] e = cc
not_empty (c ∷ cs) e = refl

-- one level alone begins no shared filter
pub begins_share-one : (text : List ℕ) → levels text ≡ text ∷ [] → begins_share text ≡ false
begins_share-one text e = ap begin_share e ∙ and_false (bytes_eq text share)

-- a filter is shared if its first level says so
pub begins_share-cut : (text first rest : List ℕ) → levels text ≡ first ∷ levels rest → begins_share text ≡ bytes_eq first share
begins_share-cut text first rest e =
    ap begin_share e ∙ ap (λ b. bytes_eq first share && not b) (is_none_left-levels rest) ∙ and_true (bytes_eq first share)

-- a text that begins with `$share/` is a filter by its name and the filter after it
pub is_filter-share : (text group name rest : List ℕ) → levels text ≡ share ∷ levels group → levels group ≡ name ∷ levels rest → is_filter text ≡ (is_topic_name name && is_filter rest)
is_filter-share text group name rest e h = ap (are_of_filter false) (e ∙ ap (λ ls. share ∷ ls) h)

-- a share and a group alone are no filter
pub is_filter-share_alone : (text group : List ℕ) → levels text ≡ share ∷ levels group → levels group ≡ group ∷ [] → is_filter text ≡ false
is_filter-share_alone text group e h = ap (are_of_filter false) (e ∙ ap (λ ls. share ∷ ls) h) ∙ and_false (is_topic_name group)

-- the levels of the empty text
empty_onto : (c : ℕ) (ls : List (List ℕ)) → are_of_empty (onto_first c ls) ≡ false
empty_onto c [] = refl
empty_onto c (l ∷ ls) = refl

empty_by : (b : Bool) (c : ℕ) (cs : List ℕ) → are_of_empty (cond b ([] ∷ levels cs) (onto_first c (levels cs))) ≡ false
empty_by true c cs = is_none_left-levels cs
empty_by false c cs = empty_onto c (levels cs)

-- one empty level is an empty text
pub are_of_empty-levels : (text : List ℕ) → are_of_empty (levels text) ≡ is_empty text
are_of_empty-levels [] = refl
are_of_empty-levels (c ∷ cs) = empty_by (is_slash c) c cs

-- any other text by its levels
unshared : (ls : List (List ℕ)) → is_none_left ls ≡ false → begin_share ls ≡ false → are_of_filter false ls ≡ (not (are_of_empty ls) && are_filter_levels ls)
unshared [] some e = cc
unshared (l ∷ ls) some e = ap (λ b. cond b (are_of_filter true ls) (not (are_of_empty (l ∷ ls)) && are_filter_levels (l ∷ ls))) e

-- a filter that is not shared is judged by its levels
pub is_filter-unshared : (text : List ℕ) → begins_share text ≡ false → is_filter text ≡ (not (is_empty text) && are_filter_levels (levels text))
is_filter-unshared text e = unshared (levels text) (is_none_left-levels text) e ∙ ap (λ b. not b && are_filter_levels (levels text)) (are_of_empty-levels text)

-- a filter that is no shared one
pub begins_share-unshared : (text : List ℕ) → is_shared_filter text ≡ false → is_filter text ≡ true → begins_share text ≡ false
begins_share-unshared text e h = sym (and_true (begins_share text)) ∙ ap (λ b. begins_share text && b) (sym h) ∙ e

-- all of it is to match
pub matching_part_of-unshared : (text : List ℕ) → begins_share text ≡ false → matching_part_of text ≡ text
matching_part_of-unshared text e = ap (λ b. cond b (shared_part_of text) text) e

-- of a shared one what is behind the group
pub matching_part_of-shared : (text : List ℕ) → begins_share text ≡ true → matching_part_of text ≡ shared_part_of text
matching_part_of-shared text e = ap (λ b. cond b (shared_part_of text) text) e
