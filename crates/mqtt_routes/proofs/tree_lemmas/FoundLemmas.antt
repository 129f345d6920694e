-- Lemmas on what is found in runs, level by level.
use Rattle.std.proofs.Common.{◌≡◌, ℕ, ◌+◌, ◌<◌, ◌≤◌, Bool, true, false, cond, ◌&&◌, ◌||◌, List, [], ◌∷◌, ◌++◌, get_or, drop, length, refl, ap, ◌∙◌, ⊎_elim, arith, bytes_eq, nat_eq, nat_lt, nat_le}
use Rattle.std.specs.List.{count_by}
use Rattle.std.proofs.lemmas.Bool.{cases_lt}
use Rattle.std.proofs.lemmas.Bool.Decides.{nat_tests}
use Rattle.std.proofs.lemmas.List.{drop_more}
use Rattle.std.proofs.lemmas.List.Sums.{sum_by-cons, sum_by-append}
use Rattle.std.proofs.lemmas.Slice.Eq.{bytes_eq-Decides}
use Rattle.mqtt_topic.specs.names.Names.{plus, hash, has_wildcard}
use Rattle.mqtt_topic.specs.names.Levels.{is_none_left}
use Rattle.mqtt_topic.specs.names.Filters.{is_plus, is_hash}
use Rattle.mqtt_topic.specs.names.Matching.{matches_levels}
use Rattle.mqtt_routes.specs.declared.tree.run.Run.{Run}
use Rattle.mqtt_routes.specs.tree.Tree.{is_within, begins_with, once, rest_of, found_in, found_in_all}

-- ---- levels of names are no wildcards

-- what cannot be true is false
pub false_by : (b : Bool) → (b ≡ true → ⊥) → b ≡ false
false_by true h = absurd (h refl)
false_by false h = refl

-- a level without wildcards is no plus sign
pub no_plus : (l : List ℕ) → has_wildcard l ≡ false → is_plus l ≡ false
no_plus l plain = false_by (is_plus l) (λ is. let w : has_wildcard l ≡ true = ap has_wildcard ((bytes_eq-Decides l (plus ∷ [])).0 is) in cc)

-- nor a number sign
pub no_hash : (l : List ℕ) → has_wildcard l ≡ false → is_hash l ≡ false
no_hash l plain = false_by (is_hash l) (λ is. let w : has_wildcard l ≡ true = ap has_wildcard ((bytes_eq-Decides l (hash ∷ [])).0 is) in cc)

-- two texts that a test tells apart
pub apart : (test : List ℕ → Bool) (f l : List ℕ) → test f ≡ true → test l ≡ false → bytes_eq f l ≡ false
apart test f l wild plain = false_by (bytes_eq f l) (λ same. let is : test f ≡ test l = ap test ((bytes_eq-Decides f l).0 same) in cc)

hash_is_no_plus : (f : List ℕ) → is_hash f ≡ true → is_plus f ≡ false
hash_is_no_plus f h = ap is_plus ((bytes_eq-Decides f (hash ∷ [])).0 h)

-- ---- numbers that are added

-- one more at the end is counted if it is the one
pub count_push : (i n : ℕ) (ns : List ℕ) → count_by (nat_eq i) (ns ++ n ∷ []) ≡ count_by (nat_eq i) ns + once (nat_eq i n)
count_push i n ns =
    let all = sum_by-append (λ m. once (nat_eq i m)) ns (n ∷ []) in
    let one = sum_by-cons (λ m. once (nat_eq i m)) n [] in
    omega (arith, all, one)

-- a run that is longer by a number
longer_by : (a b c d : Bool) → (c ≡ true → b ≡ false) → (d ≡ (b || c)) → (c ≡ true → a ≡ true) → once (a && b) + once c ≡ once (a && d)
longer_by true true true d apart is in_it = let no = apart refl in cc
longer_by true true false d apart is in_it = rw is (omega arith)
longer_by true false true d apart is in_it = rw is (omega arith)
longer_by true false false d apart is in_it = rw is (omega arith)
longer_by false b true d apart is in_it = let no = in_it refl in cc
longer_by false b false d apart is in_it = omega arith

lt_more_by : (i n : ℕ) (b c : Bool) → nat_lt i n ≡ b → nat_eq i n ≡ c → nat_lt i (n + 1) ≡ (b || c)
lt_more_by i n true c l e = grind (arith, nat_tests)
lt_more_by i n false true l e = grind (arith, nat_tests)
lt_more_by i n false false l e = grind (arith, nat_tests)

-- a run that is one longer has one more
pub one_longer : (from n i : ℕ) → from ≤ n → once (nat_le from i && nat_lt i n) + once (nat_eq i n) ≡ once (nat_le from i && nat_lt i (n + 1))
one_longer from n i l =
    longer_by (nat_le from i) (nat_lt i n) (nat_eq i n) (nat_lt i (n + 1))
    (λ e. grind (arith, nat_tests)) (lt_more_by i n (nat_lt i n) (nat_eq i n) refl refl) (λ e. grind (arith, nat_tests))

-- an empty run has none
pub none_yet : (from i : ℕ) → once (nat_le from i && nat_lt i from) ≡ 0
none_yet from i = ⊎_elim
    (λ below. let no : nat_le from i ≡ false = grind (arith, nat_tests) in ap (λ b. once (b && nat_lt i from)) no)
    (λ above. let no : nat_lt i from ≡ false = grind (arith, nat_tests) in ap (λ b. once (nat_le from i && b)) no ∙ and_no (nat_le from i))
    (cases_lt i from)
  where
    and_no : (b : Bool) → once (b && false) ≡ 0
    and_no true = refl
    and_no false = refl

-- ---- the numbers of a run that pass a test, tried one by one

both_by : (a e b m k : Bool) → once a + once e ≡ once b → (e ≡ true → m ≡ k) → once (a && m) + once (e && k) ≡ once (b && m)
both_by true true true m k sum same = omega (arith, sum)
both_by true true false m k sum same = omega (arith, sum)
both_by true false true m k sum same = omega arith
both_by true false false m k sum same = omega (arith, sum)
both_by false true true m k sum same = let is = ap (λ t. once t) (same refl) in omega (arith, is)
both_by false true false m k sum same = omega (arith, sum)
both_by false false true m k sum same = omega (arith, sum)
both_by false false false m k sum same = omega arith

same_number : (i n : ℕ) → nat_eq i n ≡ true → i ≡ n
same_number i n e = grind (arith, nat_tests)

-- one more that was tried is found if it passes
pub one_tried : (test : ℕ → Bool) (from n i : ℕ) → from ≤ n → once ((nat_le from i && nat_lt i n) && test i) + once (nat_eq i n && test n) ≡ once ((nat_le from i && nat_lt i (n + 1)) && test i)
one_tried test from n i l = both_by (nat_le from i && nat_lt i n) (nat_eq i n) (nat_le from i && nat_lt i (n + 1)) (test i) (test n) (one_longer from n i l) (λ e. ap test (same_number i n e))

none_by : (a m : Bool) → once a ≡ 0 → once (a && m) ≡ 0
none_by true m h = omega (arith, h)
none_by false m h = refl

-- of none nothing is found
pub none_tried : (test : ℕ → Bool) (from i : ℕ) → once ((nat_le from i && nat_lt i from) && test i) ≡ 0
none_tried test from i = none_by (nat_le from i && nat_lt i from) (test i) (none_yet from i)

-- ---- a run that is narrowed

abbrev pub others_of : List (List ℕ) → List (List ℕ)
others_of [] = []
others_of (f ∷ fs) = fs

-- whether levels begin with one, and the others match
abbrev pub part : List ℕ → List (List ℕ) → List (List ℕ) → ℕ
part l ls s = once (begins_with l s && matches_levels (others_of s) ls)

part_by : (v w b : Bool) (l : List ℕ) (s r ls : List (List ℕ)) → v ≡ (w && b) → (v ≡ true → s ≡ l ∷ r) → once (v && matches_levels r ls) ≡ cond w (once (b && matches_levels (others_of s) ls)) 0
part_by v true true l s r ls e is = let same = is e in rw (e, same) refl
part_by v true false l s r ls e is = rw e refl
part_by v false b l s r ls e is = rw e refl

module _ (texts : List (List ℕ)) (run : Run) (i : ℕ) where
  -- what is found in a run of those that begin with a level
  pub narrowed_found : (new : Run) (l : List ℕ) (ls : List (List ℕ)) → is_within i new ≡ (is_within i run && begins_with l (rest_of texts run i)) → (is_within i new ≡ true → rest_of texts run i ≡ l ∷ rest_of texts new i) →
      found_in texts ls i new ≡ cond (is_within i run) (part l ls (rest_of texts run i)) 0
  narrowed_found new l ls which rest = part_by (is_within i new) (is_within i run) (begins_with l (rest_of texts run i)) l (rest_of texts run i) (rest_of texts new i) ls which rest

  within_by : (w b : Bool) → once (w && b) ≡ cond w (once b) 0
  within_by true b = refl
  within_by false b = refl

  -- a number is found in a narrowed run if it is in the run and passes the test
  pub all_found : (new : Run) (b : Bool) → is_within i new ≡ (is_within i run && b) → once (is_within i new) ≡ cond (is_within i run) (once b) 0
  all_found new b which = ap (λ t. once t) which ∙ within_by (is_within i run) b

-- ---- one level

one_by : (h w e m : Bool) → (h ≡ true → (w ≡ false) × (e ≡ false)) → (w ≡ true → e ≡ false) → once h + (once (w && m) + once (e && m)) ≡ once (h || ((w || e) && m))
one_by true w e m hash wild = let both = hash refl in rw (both.0, both.1) (omega arith)
one_by false true e m hash wild = rw (wild refl) (by m)
  where
    by : (m : Bool) → 0 + (once m + 0) ≡ once m
    by true = omega arith
    by false = omega arith
one_by false false e m hash wild = omega arith

-- at a level a filter goes on by a number sign, by a plus sign or by the level itself
pub one_level : (l : List ℕ) (ls s : List (List ℕ)) → has_wildcard l ≡ false →
    once (begins_with (hash ∷ []) s) + (part (plus ∷ []) ls s + part l ls s) ≡ once (matches_levels s (l ∷ ls))
one_level l ls [] plain = omega arith
one_level l ls (f ∷ fs) plain =
    one_by (is_hash f) (is_plus f) (bytes_eq f l) (matches_levels fs ls)
    (λ h. (hash_is_no_plus f h, apart is_hash f l h (no_hash l plain)))
    (λ w. apart is_plus f l w (no_plus l plain))

run_by : (w m : Bool) (a b c d : ℕ) → a + (b + c) ≡ d → d ≡ once m → cond w a 0 + (cond w b 0 + cond w c 0) ≡ once (w && m)
run_by true m a b c d e is = e ∙ is
run_by false m a b c d e is = omega arith

module _ (texts : List (List ℕ)) (run : Run) (i : ℕ) where
  -- what is found in a run is what is found behind `+` and behind a level of a name, and what ends by `#`
  pub step_found : (l : List ℕ) (ls : List (List ℕ)) (hashes : ℕ) (wild own : ℕ) → has_wildcard l ≡ false →
      hashes ≡ cond (is_within i run) (once (begins_with (hash ∷ []) (rest_of texts run i))) 0 →
      wild ≡ cond (is_within i run) (part (plus ∷ []) ls (rest_of texts run i)) 0 →
      own ≡ cond (is_within i run) (part l ls (rest_of texts run i)) 0 →
      hashes + (wild + own) ≡ found_in texts (l ∷ ls) i run
  step_found l ls hashes wild own plain h w o =
      rw (h, w, o) (run_by (is_within i run) (matches_levels (rest_of texts run i) (l ∷ ls)) (once (begins_with (hash ∷ []) (rest_of texts run i))) (part (plus ∷ []) ls (rest_of texts run i)) (part l ls (rest_of texts run i)) _ refl
      (one_level l ls (rest_of texts run i) plain))

  end_by : (s : List (List ℕ)) → once (begins_with (hash ∷ []) s) + once (is_none_left s) ≡ once (matches_levels s [])
  end_by [] = omega arith
  end_by (f ∷ fs) = omega arith

  two_by : (w m : Bool) (a b : ℕ) → a + b ≡ once m → cond w a 0 + cond w b 0 ≡ once (w && m)
  two_by true m a b e = e
  two_by false m a b e = omega arith

  -- and at the end of the name, what ends too, and what ends by `#`
  pub end_found : (hashes none : ℕ) →
      hashes ≡ cond (is_within i run) (once (begins_with (hash ∷ []) (rest_of texts run i))) 0 →
      none ≡ cond (is_within i run) (once (is_none_left (rest_of texts run i))) 0 →
      hashes + none ≡ found_in texts [] i run
  end_found hashes none h n =
      rw (h, n) (two_by (is_within i run) (matches_levels (rest_of texts run i) []) (once (begins_with (hash ∷ []) (rest_of texts run i))) (once (is_none_left (rest_of texts run i))) (end_by (rest_of texts run i)))

-- ---- several runs

module _ (texts : List (List ℕ)) (ls : List (List ℕ)) (i : ℕ) where
  -- one run more is searched after the others
  pub found_push : (runs : List Run) (r : Run) → found_in_all texts ls i (runs ++ r ∷ []) ≡ found_in_all texts ls i runs + found_in texts ls i r
  found_push [] r = omega arith
  found_push (x ∷ xs) r = let more = found_push xs r in omega (arith, more)

  -- what is found in the runs from a place on is what is found in the run there, and in those behind it
  pub found_next : (runs : List Run) (k : ℕ) (d : Run) → k < length runs → found_in_all texts ls i (drop k runs) ≡ found_in texts ls i (get_or runs k d) + found_in_all texts ls i (drop (k + 1) runs)
  found_next runs k d l = ap (found_in_all texts ls i) (drop_more runs k d l)

  -- a run without numbers has nothing to be found
  empty_by : (run : Run) → run.to ≤ run.from → is_within i run ≡ false
  empty_by run l = ⊎_elim
      (λ below. let no : nat_le run.from i ≡ false = grind (arith, nat_tests) in ap (λ b. b && nat_lt i run.to) no)
      (λ above. let no : nat_lt i run.to ≡ false = grind (arith, nat_tests) in ap (λ b. nat_le run.from i && b) no ∙ and_no (nat_le run.from i))
      (cases_lt i run.from)
    where
      and_no : (b : Bool) → (b && false) ≡ false
      and_no true = refl
      and_no false = refl

  -- nothing is found in an empty run
  pub empty_found : (run : Run) → run.to ≤ run.from → found_in texts ls i run ≡ 0
  empty_found run l = ap (λ b. once (b && matches_levels (rest_of texts run i) ls)) (empty_by run l)
