-- The rule of matching and its function say the same (MQTT 5.0, 4.7.1 and 4.7.2).
use Rattle.std.proofs.Common.{◌≡◌, ℕ, Bool, true, false, cond, not, ◌&&◌, ◌||◌, List, [], ◌∷◌, ◌++◌, refl, sym, ap, subst, ◌∙◌, inl, inr, bytes_eq}
use Rattle.std.specs.List.{AllZip}
use Rattle.std.proofs.lemmas.Slice.Eq.{bytes_eq-Decides}
use Rattle.mqtt_topic.specs.names.Levels.{levels, is_none_left}
use Rattle.mqtt_topic.specs.names.Names.{plus, hash, has_wildcard, is_empty, is_topic_name}
use Rattle.mqtt_topic.specs.names.Filters.{share, is_plus, is_hash, begin_share, is_filter_level, are_filter_levels, are_of_empty, are_of_filter, is_filter}
use Rattle.mqtt_topic.specs.names.Matching.{Takes, MatchesLevels, Matches, matches_levels, is_match, are_apart}
use Rattle.mqtt_topic.specs.names.Matching.MatchesLevels.{whole, with_hash}

-- the first part of an "and" that holds holds
pub and_left : (a b : Bool) → (a && b) ≡ true → a ≡ true
and_left true b e = refl
and_left false b e = e

-- so does the second
pub and_right : (a b : Bool) → (a && b) ≡ true → b ≡ true
and_right true b e = e
and_right false b e = cc

-- and both together are enough
pub and_both : (a b : Bool) → a ≡ true → b ≡ true → (a && b) ≡ true
and_both true b e h = h
and_both false b e h = e

or_right : (a b : Bool) → b ≡ true → (a || b) ≡ true
or_right true b e = refl
or_right false b e = e

-- a `#` that is a level of a filter is the last one
last_hash : (f : List ℕ) (fs : List (List ℕ)) → is_filter_level (is_none_left fs) f ≡ true → is_hash f ≡ true → (f ≡ hash ∷ []) × (fs ≡ [])
last_hash f [] lawful e = ((bytes_eq-Decides f (hash ∷ [])).0 e, refl)
last_hash f (g ∷ gs) lawful e =
    let is : f ≡ hash ∷ [] = (bytes_eq-Decides f (hash ∷ [])).0 e in
    let none : false ≡ true = subst (λ l. is_filter_level false l ≡ true) is lawful in cc

takes_from : (f n : List ℕ) → (is_plus f || bytes_eq f n) ≡ true → Takes f n
takes_from f n e = by_case (is_plus f) refl e
  where
    by_case : (b : Bool) → is_plus f ≡ b → (b || bytes_eq f n) ≡ true → Takes f n
    by_case true h e = inl ((bytes_eq-Decides f (plus ∷ [])).0 h)
    by_case false h e = inr ((bytes_eq-Decides f n).0 e)

takes_test : (f n : List ℕ) → Takes f n → (is_plus f || bytes_eq f n) ≡ true
takes_test f n (inl h) = ap (λ b. b || bytes_eq f n) ((bytes_eq-Decides f (plus ∷ [])).1 h)
takes_test f n (inr h) = or_right (is_plus f) (bytes_eq f n) ((bytes_eq-Decides f n).1 h)

one_more : (f n : List ℕ) (fs ns : List (List ℕ)) → Takes f n → MatchesLevels fs ns → MatchesLevels (f ∷ fs) (n ∷ ns)
one_more f n fs ns t (whole each) = whole (t, each)
one_more f n fs ns t (with_hash front taken rest ends is each) =
    with_hash (f ∷ front) (n ∷ taken) rest (ap (λ ls. f ∷ ls) ends) (ap (λ ls. n ∷ ls) is) (t, each)

MatchesLevels-from_step : (b : Bool) (f n : List ℕ) (fs ns : List (List ℕ)) → is_hash f ≡ b → is_filter_level (is_none_left fs) f ≡ true → (matches_levels fs ns ≡ true → MatchesLevels fs ns)
    → (b || ((is_plus f || bytes_eq f n) && matches_levels fs ns)) ≡ true → MatchesLevels (f ∷ fs) (n ∷ ns)
MatchesLevels-from_step true f n fs ns h lawful more e = let last = last_hash f fs lawful h in with_hash [] [] (n ∷ ns) (ap (λ l. l ∷ fs) last.0 ∙ ap (λ ls. (hash ∷ []) ∷ ls) last.1) refl tt
MatchesLevels-from_step false f n fs ns h lawful more e =
    one_more f n fs ns (takes_from f n (and_left (is_plus f || bytes_eq f n) (matches_levels fs ns) e)) (more (and_right (is_plus f || bytes_eq f n) (matches_levels fs ns) e))

MatchesLevels-from_test : (fs ns : List (List ℕ)) → are_filter_levels fs ≡ true → matches_levels fs ns ≡ true → MatchesLevels fs ns
MatchesLevels-from_test [] [] lawful e = whole tt
MatchesLevels-from_test [] (n ∷ ns) lawful e = cc
MatchesLevels-from_test (f ∷ fs) [] lawful e =
    let last = last_hash f fs (and_left (is_filter_level (is_none_left fs) f) (are_filter_levels fs) lawful) e in
    with_hash [] [] [] (ap (λ l. l ∷ fs) last.0 ∙ ap (λ ls. (hash ∷ []) ∷ ls) last.1) refl tt
MatchesLevels-from_test (f ∷ fs) (n ∷ ns) lawful e =
    MatchesLevels-from_step (is_hash f) f n fs ns refl (and_left (is_filter_level (is_none_left fs) f) (are_filter_levels fs) lawful)
    (MatchesLevels-from_test fs ns (and_right (is_filter_level (is_none_left fs) f) (are_filter_levels fs) lawful)) e

step_test : (f n : List ℕ) (fs ns : List (List ℕ)) → Takes f n → matches_levels fs ns ≡ true → matches_levels (f ∷ fs) (n ∷ ns) ≡ true
step_test f n fs ns t e = or_right (is_hash f) ((is_plus f || bytes_eq f n) && matches_levels fs ns) (and_both (is_plus f || bytes_eq f n) (matches_levels fs ns) (takes_test f n t) e)

whole_test : (fs ns : List (List ℕ)) → AllZip Takes fs ns → matches_levels fs ns ≡ true
whole_test [] [] each = refl
whole_test [] (n ∷ ns) each = absurd each
whole_test (f ∷ fs) [] each = absurd each
whole_test (f ∷ fs) (n ∷ ns) each = step_test f n fs ns each.0 (whole_test fs ns each.1)

hash_takes : (rest : List (List ℕ)) → matches_levels ((hash ∷ []) ∷ []) rest ≡ true
hash_takes [] = refl
hash_takes (n ∷ ns) = refl

hash_test : (front taken rest : List (List ℕ)) → AllZip Takes front taken → matches_levels (front ++ (hash ∷ []) ∷ []) (taken ++ rest) ≡ true
hash_test [] [] rest each = hash_takes rest
hash_test [] (n ∷ ns) rest each = absurd each
hash_test (f ∷ fs) [] rest each = absurd each
hash_test (f ∷ fs) (n ∷ ns) rest each = step_test f n (fs ++ (hash ∷ []) ∷ []) (ns ++ rest) each.0 (hash_test fs ns rest each.1)

matches_levels-from : (fs ns : List (List ℕ)) → MatchesLevels fs ns → matches_levels fs ns ≡ true
matches_levels-from fs ns (whole each) = whole_test fs ns each
matches_levels-from fs ns (with_hash front taken rest ends is each) = ap (λ ls. matches_levels ls ns) ends ∙ ap (matches_levels (front ++ (hash ∷ []) ∷ [])) is ∙ hash_test front taken rest each

-- the levels of a filter are lawful, those of `$share/NAME/` too
level_plain : (last : Bool) (l : List ℕ) → has_wildcard l ≡ false → is_filter_level last l ≡ true
level_plain last l e = ap (λ b. not b || (is_plus l || (last && is_hash l))) e

-- what is not true is false
pub not_true : (b : Bool) → not b ≡ true → b ≡ false
not_true true e = sym e
not_true false e = refl

are_filter_levels-of_front : (b : Bool) (l : List ℕ) (ls : List (List ℕ)) → begin_share (l ∷ ls) ≡ b → (are_of_filter true ls ≡ true → are_filter_levels ls ≡ true)
    → cond b (are_of_filter true ls) (not (are_of_empty (l ∷ ls)) && are_filter_levels (l ∷ ls)) ≡ true → are_filter_levels (l ∷ ls) ≡ true
are_filter_levels-of_front true l ls h more e =
    let is : l ≡ share = (bytes_eq-Decides l share).0 (and_left (bytes_eq l share) (not (is_none_left ls)) h) in
    and_both (is_filter_level (is_none_left ls) l) (are_filter_levels ls) (level_plain (is_none_left ls) l (ap has_wildcard is)) (more e)
are_filter_levels-of_front false l ls h more e = and_right (not (are_of_empty (l ∷ ls))) (are_filter_levels (l ∷ ls)) e

-- levels of a filter pass the test
pub are_filter_levels-of : (named : Bool) (ls : List (List ℕ)) → are_of_filter named ls ≡ true → are_filter_levels ls ≡ true
are_filter_levels-of named [] e = refl
are_filter_levels-of true (name ∷ ls) e =
    and_both (is_filter_level (is_none_left ls) name) (are_filter_levels ls)
    (level_plain (is_none_left ls) name (not_true (has_wildcard name) (and_right (not (is_empty name)) (not (has_wildcard name)) (and_left (is_topic_name name) (are_of_filter false ls) e))))
    (are_filter_levels-of false ls (and_right (is_topic_name name) (are_of_filter false ls) e))
are_filter_levels-of false (l ∷ ls) e = are_filter_levels-of_front (begin_share (l ∷ ls)) l ls refl (are_filter_levels-of true ls) e

-- what the test matches the standard does
pub Matches-from_test : (filter name : List ℕ) → is_filter filter ≡ true → is_match filter name ≡ true → Matches filter name
Matches-from_test filter name lawful e = record {
  by_levels = MatchesLevels-from_test (levels filter) (levels name) (are_filter_levels-of false (levels filter) lawful) (and_left (matches_levels (levels filter) (levels name)) (not (are_apart filter name)) e);
  apart = not_true (are_apart filter name) (and_right (matches_levels (levels filter) (levels name)) (not (are_apart filter name)) e);
}

-- and what the standard matches the test does
pub is_match-from : (filter name : List ℕ) → Matches filter name → is_match filter name ≡ true
is_match-from filter name m = and_both (matches_levels (levels filter) (levels name)) (not (are_apart filter name)) (matches_levels-from (levels filter) (levels name) m.by_levels) (ap not m.apart)

-- the two together, for what the function answers
pub exact : (filter name : List ℕ) (r : Bool) → is_filter filter ≡ true → r ≡ is_match filter name → (r ≡ true → Matches filter name) × (Matches filter name → r ≡ true)
exact filter name r lawful e = (λ h. Matches-from_test filter name lawful (sym e ∙ h), λ m. e ∙ is_match-from filter name m)
