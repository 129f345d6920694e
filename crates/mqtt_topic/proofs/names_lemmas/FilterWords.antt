-- The test of a filter says what the standard says (MQTT 5.0, 4.7.1, 4.8.2).
use Rattle.std.proofs.Common.{◌≡◌, ◌≢◌, ℕ, zero, suc, ◌<◌, ◌≤◌, Bool, true, false, cond, not, ◌&&◌, ◌||◌, ◌⊎◌, List, [], ◌∷◌, ◌++◌, length, refl, sym, ap, subst, ◌∙◌, inl, inr, bytes_eq, arith, length-append}
use Rattle.std.specs.List.{All, AllByRecursion, onto_first}
use Rattle.std.proofs.lemmas.List.Elements.{All-nil, All-cons, All-from_recursion}
use Rattle.std.proofs.lemmas.List.Splits.{slice_split_at}
use Rattle.std.proofs.lemmas.Bool.{eqb-true}
use Rattle.std.proofs.lemmas.Slice.Eq.{bytes_eq-Decides}
use Rattle.mqtt_topic.specs.names.Levels.{slash, is_slash, levels, is_none_left}
use Rattle.mqtt_topic.specs.names.Names.{plus, hash, has_wildcard, is_empty, is_topic_name, IsTopicName}
use Rattle.mqtt_topic.specs.names.Filters.{share, is_plus, is_hash, begin_share, begins_share, is_filter_level, are_filter_levels, are_of_empty, are_of_filter, is_filter, IsPlainLevel, FillsLevels, IsFilter}
use Rattle.mqtt_topic.specs.names.Filters.IsFilter.{unshared, shared}
use Rattle.mqtt_topic.proofs.names_lemmas.LevelLemmas.{is_none_left-levels}
use Rattle.mqtt_topic.proofs.names_lemmas.FilterLemmas.{is_filter-share, is_filter-unshared}
use Rattle.mqtt_topic.proofs.names_lemmas.MatchLemmas.{and_left, and_right, and_both, not_true}

-- ---- levels

plain_from : (l : List ℕ) → is_filter_level false l ≡ true → IsPlainLevel l
plain_from l e = by_case (has_wildcard l) refl e
  where
    by_plus : (b : Bool) → is_plus l ≡ b → (b || false) ≡ true → IsPlainLevel l
    by_plus true h e = inr ((bytes_eq-Decides l (plus ∷ [])).0 h)
    by_plus false h e = cc

    by_case : (b : Bool) → has_wildcard l ≡ b → (not b || (is_plus l || false)) ≡ true → IsPlainLevel l
    by_case true h e = by_plus (is_plus l) refl e
    by_case false h e = inl h

ends_from : (l : List ℕ) → is_filter_level true l ≡ true → IsPlainLevel l ⊎ (l ≡ hash ∷ [])
ends_from l e = by_case (has_wildcard l) refl e
  where
    by_hash : (b : Bool) → is_hash l ≡ b → b ≡ true → IsPlainLevel l ⊎ (l ≡ hash ∷ [])
    by_hash true h e = inr ((bytes_eq-Decides l (hash ∷ [])).0 h)
    by_hash false h e = cc

    by_plus : (b : Bool) → is_plus l ≡ b → (b || is_hash l) ≡ true → IsPlainLevel l ⊎ (l ≡ hash ∷ [])
    by_plus true h e = inl (inr ((bytes_eq-Decides l (plus ∷ [])).0 h))
    by_plus false h e = by_hash (is_hash l) refl e

    by_case : (b : Bool) → has_wildcard l ≡ b → (not b || (is_plus l || is_hash l)) ≡ true → IsPlainLevel l ⊎ (l ≡ hash ∷ [])
    by_case true h e = by_plus (is_plus l) refl e
    by_case false h e = inl (inl h)

plain_test : (last : Bool) (l : List ℕ) → IsPlainLevel l → is_filter_level last l ≡ true
plain_test last l (inl h) = ap (λ b. not b || (is_plus l || (last && is_hash l))) h
plain_test last l (inr h) = ap (is_filter_level last) h ∙ both last
  where
    both : (b : Bool) → is_filter_level b (plus ∷ []) ≡ true
    both true = refl
    both false = refl

ends_test : (l : List ℕ) → (IsPlainLevel l ⊎ (l ≡ hash ∷ [])) → is_filter_level true l ≡ true
ends_test l (inl h) = plain_test true l h
ends_test l (inr h) = ap (is_filter_level true) h

-- levels that pass the test are those of a filter
pub FillsLevels-from_test : (ls : List (List ℕ)) → is_none_left ls ≡ false → are_filter_levels ls ≡ true → FillsLevels ls
FillsLevels-from_test [] some e = cc
FillsLevels-from_test (l ∷ []) some e = record { front = []; last = l; are = refl; plain = tt; ends = ends_from l (and_left (is_filter_level true l) true e) }
FillsLevels-from_test (l ∷ (m ∷ ls)) some e =
    let more = FillsLevels-from_test (m ∷ ls) refl (and_right (is_filter_level false l) (are_filter_levels (m ∷ ls)) e) in
    record { front = l ∷ more.front; last = more.last; are = ap (λ xs. l ∷ xs) more.are; plain = (plain_from l (and_left (is_filter_level false l) (are_filter_levels (m ∷ ls)) e), more.plain); ends = more.ends }

some_end : (front : List (List ℕ)) (last : List ℕ) → is_none_left (front ++ last ∷ []) ≡ false
some_end [] last = refl
some_end (l ∷ ls) last = refl

front_test : (front : List (List ℕ)) (last : List ℕ) → AllByRecursion IsPlainLevel front → (IsPlainLevel last ⊎ (last ≡ hash ∷ [])) → are_filter_levels (front ++ last ∷ []) ≡ true
front_test [] last each ends = and_both (is_filter_level true last) true (ends_test last ends) refl
front_test (l ∷ ls) last each ends =
    and_both (is_filter_level (is_none_left (ls ++ last ∷ [])) l) (are_filter_levels (ls ++ last ∷ [])) (plain_test (is_none_left (ls ++ last ∷ [])) l each.0) (front_test ls last each.1 ends)

-- ---- the cut at the first slash

record Cut (text l : List ℕ) (more : List (List ℕ)) : Type 0 where
  rest : List ℕ
  is : text ≡ l ++ slash ∷ rest
  whole : All (λ c. is_slash c ≡ false) l
  after : levels rest ≡ more

cut_by : (b : Bool) (c : ℕ) (cs l m : List ℕ) (ls : List (List ℕ)) → is_slash c ≡ b → ((x : List ℕ) → levels cs ≡ x ∷ m ∷ ls → Cut cs x (m ∷ ls)) → cond b ([] ∷ levels cs) (onto_first c (levels cs)) ≡ l ∷ m ∷ ls → Cut (c ∷ cs) l (m ∷ ls)
cut_by true c cs l m ls h more e =
    let none : l ≡ [] = cc in
    subst (λ x. Cut (c ∷ cs) x (m ∷ ls)) (sym none) (record { rest = cs; is = ap (λ x. x ∷ cs) (eqb-true c slash h); whole = All-nil (λ x. is_slash x ≡ false); after = cc })
cut_by false c cs l m ls h more e = onto (levels cs) refl e
  where
    onto : (xs : List (List ℕ)) → levels cs ≡ xs → onto_first c xs ≡ l ∷ m ∷ ls → Cut (c ∷ cs) l (m ∷ ls)
    onto [] k e = cc
    onto (x ∷ xs) k e =
        let first : l ≡ c ∷ x = cc in
        let left : xs ≡ m ∷ ls = cc in
        let cut = more x (k ∙ ap (λ ys. x ∷ ys) left) in
        subst (λ y. Cut (c ∷ cs) y (m ∷ ls)) (sym first) (record { rest = cut.rest; is = ap (λ y. c ∷ y) cut.is; whole = All-cons (λ y. is_slash y ≡ false) c x h cut.whole; after = cut.after })

cut_at : (text l m : List ℕ) (ls : List (List ℕ)) → levels text ≡ l ∷ m ∷ ls → Cut text l (m ∷ ls)
cut_at [] l m ls e = cc
cut_at (c ∷ cs) l m ls e = cut_by (is_slash c) c cs l m ls refl (λ x k. cut_at cs x m ls k) e

-- ---- from the test to the words

not_nil : (text : List ℕ) → is_empty text ≡ false → text ≢ []
not_nil [] e h = cc
not_nil (c ∷ cs) e h = cc

name_from : (name : List ℕ) → is_topic_name name ≡ true → IsTopicName name
name_from name e = record {
  some = not_nil name (not_true (is_empty name) (and_left (not (is_empty name)) (not (has_wildcard name)) e));
  plain = not_true (has_wildcard name) (and_right (not (is_empty name)) (not (has_wildcard name)) e);
}

shared_from : (ls : List (List ℕ)) (text : List ℕ) → levels text ≡ ls → begin_share ls ≡ true → are_of_filter false ls ≡ true → ((t : List ℕ) → length t < length text → is_filter t ≡ true → IsFilter t) → IsFilter text
shared_from [] text is h e more = cc
shared_from (l ∷ []) text is h e more = let none : false ≡ true = and_right (bytes_eq l share) false h in cc
shared_from (l ∷ (m ∷ [])) text is h e more =
    let named : (is_topic_name m && false) ≡ true = sym (ap (λ b. cond b (is_topic_name m && false) (not (are_of_empty (l ∷ (m ∷ []))) && are_filter_levels (l ∷ (m ∷ [])))) h) ∙ e in
    let none : false ≡ true = and_right (is_topic_name m) false named in cc
shared_from (l ∷ (m ∷ (k ∷ ls))) text is h e more =
    let named : (is_topic_name m && are_of_filter false (k ∷ ls)) ≡ true
    = sym (ap (λ b. cond b (is_topic_name m && are_of_filter false (k ∷ ls)) (not (are_of_empty (l ∷ (m ∷ (k ∷ ls)))) && are_filter_levels (l ∷ (m ∷ (k ∷ ls))))) h) ∙ e
    in
    let front = cut_at text l m (k ∷ ls) is in
    let back = cut_at front.rest m k ls front.after in
    let share_is : l ≡ share = (bytes_eq-Decides l share).0 (and_left (bytes_eq l share) true h) in
    let parts : text ≡ share ++ slash ∷ (m ++ slash ∷ back.rest) = front.is ∙ ap (λ x. x ++ slash ∷ front.rest) share_is ∙ ap (λ g. share ++ slash ∷ g) back.is in
    let shorter : length back.rest < length text = omega (arith, ap length front.is, length-append l (slash ∷ front.rest), ap length back.is, length-append m (slash ∷ back.rest)) in
    shared text m back.rest parts (name_from m (and_left (is_topic_name m) (are_of_filter false (k ∷ ls)) named)) back.whole
    (more back.rest shorter (ap (are_of_filter false) back.after ∙ and_right (is_topic_name m) (are_of_filter false (k ∷ ls)) named))

from_step : (b : Bool) (text : List ℕ) → begins_share text ≡ b → is_filter text ≡ true → ((t : List ℕ) → length t < length text → is_filter t ≡ true → IsFilter t) → IsFilter text
from_step true text h e more = shared_from (levels text) text refl h e more
from_step false text h e more =
    let both = sym (is_filter-unshared text h) ∙ e in
    unshared text (not_nil text (not_true (is_empty text) (and_left (not (is_empty text)) (are_filter_levels (levels text)) both))) h
    (FillsLevels-from_test (levels text) (is_none_left-levels text) (and_right (not (is_empty text)) (are_filter_levels (levels text)) both))

-- a text that passes the test is a filter
pub IsFilter-from_test : (n : ℕ) (text : List ℕ) → length text ≤ n → is_filter text ≡ true → IsFilter text
IsFilter-from_test zero text small e = from_step (begins_share text) text refl e (λ t l k. absurd (omega arith))
IsFilter-from_test (suc n) text small e = from_step (begins_share text) text refl e (λ t l k. IsFilter-from_test n t (omega arith) k)

-- ---- from the words to the test

some_test : (text : List ℕ) → text ≢ [] → not (is_empty text) ≡ true
some_test [] h = absurd (h refl)
some_test (c ∷ cs) h = refl

share_whole : All (λ c. is_slash c ≡ false) share
share_whole = All-from_recursion (λ c. is_slash c ≡ false) share (refl, (refl, (refl, (refl, (refl, (refl, tt))))))

-- and a filter passes it
pub is_filter-from : (text : List ℕ) → IsFilter text → is_filter text ≡ true
is_filter-from text (unshared _ some apart fills) =
    is_filter-unshared text apart ∙ and_both (not (is_empty text)) (are_filter_levels (levels text)) (some_test text some) (ap are_filter_levels fills.are ∙ front_test fills.front fills.last fills.plain fills.ends)
is_filter-from text (shared _ name filter is named whole more) =
    is_filter-share text (name ++ slash ∷ filter) name filter (ap levels is ∙ slice_split_at is_slash share slash (name ++ slash ∷ filter) share_whole refl) (slice_split_at is_slash name slash filter whole refl)
    ∙ and_both (is_topic_name name) (is_filter filter) (and_both (not (is_empty name)) (not (has_wildcard name)) (some_test name named.some) (ap not named.plain)) (is_filter-from filter more)
