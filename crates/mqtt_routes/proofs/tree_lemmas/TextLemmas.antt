-- Lemmas on the levels of a text behind others.
use Rattle.std.proofs.Common.{◌≡◌, ℕ, suc, ◌+◌, ◌<◌, ◌≤◌, Bool, true, false, cond, List, [], ◌∷◌, ◌++◌, length, take, drop, get_or, eqb, subst, refl, sym, ap, ◌∙◌, arith, nat_lt, Option, Some, None}
use Rattle.std.specs.List.{All, onto_first}
use Rattle.std.proofs.lemmas.Bool.Decides.{nat_tests}
use Rattle.std.proofs.lemmas.List.{drop-drop, length-drop, take_more, drop_more, length-take-le, take-append-drop}
use Rattle.std.proofs.lemmas.List.Elements.{All-push}
use Rattle.std.proofs.lemmas.List.Splits.{slice_split_none, slice_split_at}
use Rattle.std.proofs.lemmas.Slice.Eq.{bytes_eq-Decides}
use Rattle.mqtt_topic.specs.names.Levels.{is_slash, levels}
use Rattle.mqtt_routes.specs.tree.Tree.{levels_behind, end_of, begins_with}

abbrev pub first_of : List (List ℕ) → List ℕ
first_of [] = []
first_of (l ∷ ls) = l

-- levels behind one in the rest of a text
test_moved : (k n len left : ℕ) → k ≤ len → left + k ≡ len → nat_lt n left ≡ nat_lt (k + n) len
test_moved k n len left l e = grind (arith, nat_tests)

-- levels behind a cut are those of the whole text
pub behind_dropped : (k n : ℕ) (text : List ℕ) → k ≤ length text → levels_behind (Some n) (drop k text) ≡ levels_behind (Some (k + n)) text
behind_dropped k n text l =
    let left : length (drop k text) + k ≡ length text = let d = length-drop k text in omega (arith, l, d) in
    ap (λ (b : Bool). cond b (levels (drop (n + 1) (drop k text))) []) (test_moved k n (length text) (length (drop k text)) l left)
    ∙ ap (λ (xs : List ℕ). cond (nat_lt (k + n) (length text)) (levels xs) []) (drop-drop (n + 1) k text ∙ ap (λ (m : ℕ). drop m text) (let e : k + (n + 1) ≡ (k + n) + 1 = omega arith in e))

behind_cons : (n c : ℕ) (cs : List ℕ) → levels_behind (Some n) cs ≡ levels_behind (Some (suc n)) (c ∷ cs)
behind_cons n c cs = behind_dropped 1 n (c ∷ cs) (omega arith) ∙ ap (λ (m : ℕ). levels_behind (Some m) (c ∷ cs)) (let e : 1 + n ≡ suc n = omega arith in e)

-- a text is its first level and those behind it
onto : (c : ℕ) (cs : List ℕ) (ls : List (List ℕ)) → ls ≡ first_of ls ∷ levels_behind (Some (length (first_of ls))) cs →
    onto_first c ls ≡ first_of (onto_first c ls) ∷ levels_behind (Some (length (first_of (onto_first c ls)))) (c ∷ cs)
onto c cs [] e = cc
onto c cs (l ∷ ls) e = let tails : ls ≡ levels_behind (Some (length l)) cs = cc in ap (λ (xs : List (List ℕ)). (c ∷ l) ∷ xs) (tails ∙ behind_cons (length l) c cs)

some_left : (n : ℕ) → nat_lt 0 (suc n) ≡ true
some_left n = grind (arith, nat_tests)

first_by : (b : Bool) (c : ℕ) (cs : List ℕ) → levels cs ≡ first_of (levels cs) ∷ levels_behind (Some (length (first_of (levels cs)))) cs →
    cond b ([] ∷ levels cs) (onto_first c (levels cs)) ≡ first_of (cond b ([] ∷ levels cs) (onto_first c (levels cs))) ∷ levels_behind (Some (length (first_of (cond b ([] ∷ levels cs) (onto_first c (levels cs)))))) (c ∷ cs)
first_by true c cs e = ap (λ (b : Bool). [] ∷ cond b (levels cs) []) (sym (some_left (length cs)))
first_by false c cs e = onto c cs (levels cs) e

-- a text is its first level and those behind it
pub first_and_others : (text : List ℕ) → levels text ≡ first_of (levels text) ∷ levels_behind (Some (length (first_of (levels text)))) text
first_and_others [] = refl
first_and_others (c ∷ cs) = first_by (is_slash c) c cs (first_and_others cs)

-- and it is no shorter
onto_short : (c n : ℕ) (ls : List (List ℕ)) → length (first_of ls) ≤ n → length (first_of (onto_first c ls)) ≤ suc n
onto_short c n [] h = omega (arith, h)
onto_short c n (l ∷ ls) h = omega (arith, h)

short_by : (b : Bool) (c n : ℕ) (ls : List (List ℕ)) → length (first_of ls) ≤ n → length (first_of (cond b ([] ∷ ls) (onto_first c ls))) ≤ suc n
short_by true c n ls h = omega arith
short_by false c n ls h = onto_short c n ls h

-- its first level is no longer than it
pub first_short : (text : List ℕ) → length (first_of (levels text)) ≤ length text
first_short [] = omega arith
first_short (c ∷ cs) = short_by (is_slash c) c (length cs) (levels cs) (first_short cs)

-- a text whose levels behind one begin with a level
same_first : (l : List ℕ) (fs : List (List ℕ)) → begins_with l fs ≡ true → first_of fs ≡ l
same_first l [] h = cc
same_first l (f ∷ fs) h = (bytes_eq-Decides f l).0 h

begins_cut : (l : List ℕ) (text : List ℕ) → begins_with l (levels text) ≡ true → levels text ≡ l ∷ levels_behind (Some (length l)) text
begins_cut l text h = first_and_others text ∙ ap (λ (f : List ℕ). f ∷ levels_behind (Some (length f)) text) (same_first l (levels text) h)

begins_short : (l : List ℕ) (text : List ℕ) → begins_with l (levels text) ≡ true → length l ≤ length text
begins_short l text h = let e = ap length (same_first l (levels text) h) in let s = first_short text in omega (arith, e, s)

cut_by : (b : Bool) (k : ℕ) (l text : List ℕ) → nat_lt k (length text) ≡ b → begins_with l (cond b (levels (drop (k + 1) text)) []) ≡ true → cond b (levels (drop (k + 1) text)) [] ≡ l ∷ levels_behind (Some ((k + 1) + length l)) text
cut_by true k l text e h =
    let within : k + 1 ≤ length text = grind (arith, nat_tests) in
    begins_cut l (drop (k + 1) text) h ∙ ap (λ (ls : List (List ℕ)). l ∷ ls) (behind_dropped (k + 1) (length l) text within)
cut_by false k l text e h = cc

-- it has them, and behind that level the others
pub begins_more : (end : Option ℕ) (l text : List ℕ) → begins_with l (levels_behind end text) ≡ true → levels_behind end text ≡ l ∷ levels_behind (Some (end_of end l)) text
begins_more None l text h = begins_cut l text h ∙ ap (λ (n : ℕ). l ∷ levels_behind (Some n) text) (let e : length l ≡ 0 + length l = omega arith in e)
begins_more (Some k) l text h = cut_by (nat_lt k (length text)) k l text refl h

ends_by : (b : Bool) (k : ℕ) (l text : List ℕ) → nat_lt k (length text) ≡ b → begins_with l (cond b (levels (drop (k + 1) text)) []) ≡ true → (k + 1) + length l ≤ length text
ends_by true k l text e h =
    let within : k + 1 ≤ length text = grind (arith, nat_tests) in
    let s = begins_short l (drop (k + 1) text) h in
    let d = length-drop (k + 1) text in
    omega (arith, within, s, d)
ends_by false k l text e h = cc

-- and that level ends within the text
pub begins_within : (end : Option ℕ) (l text : List ℕ) → begins_with l (levels_behind end text) ≡ true → end_of end l ≤ length text
begins_within None l text h = let s = begins_short l text h in omega (arith, s)
begins_within (Some k) l text h = ends_by (nat_lt k (length text)) k l text refl h

-- what is left of a text if its next level was taken off
pub next_begins : (at : Option ℕ) (l text : List ℕ) (old new : List (List ℕ)) → old ≡ levels_behind at text → old ≡ l ∷ new → begins_with l (levels_behind at text) ≡ true
next_begins at l text old new is next = subst (λ ls. begins_with l ls ≡ true) (sym next ∙ is) ((bytes_eq-Decides l l).1 refl)

same_tail : (l : List ℕ) (xs ys : List (List ℕ)) → l ∷ xs ≡ l ∷ ys → xs ≡ ys
same_tail l xs ys e = cc

-- behind a level stands the next
pub next_behind : (at : Option ℕ) (l text : List ℕ) (old new : List (List ℕ)) → old ≡ levels_behind at text → old ≡ l ∷ new → new ≡ levels_behind (Some (end_of at l)) text
next_behind at l text old new is next = same_tail l new (levels_behind (Some (end_of at l)) text) (sym next ∙ is ∙ begins_more at l text (next_begins at l text old new is next))

-- ---- the first level as it is found

-- a byte that is no slash goes on with its level
pub no_slash_more : (text : List ℕ) (i : ℕ) → i < length text → All (λ c. eqb c 47 ≡ false) (take i text) → eqb (get_or text i 0) 47 ≡ false → All (λ c. eqb c 47 ≡ false) (take (i + 1) text)
no_slash_more text i l none other = subst (All (λ c. eqb c 47 ≡ false)) (sym (take_more text i 0 l)) (All-push (λ c. eqb c 47 ≡ false) (take i text) (get_or text i 0) none other)

-- a slash ends the first level
pub first_found : (text : List ℕ) (i : ℕ) → i < length text → All (λ c. eqb c 47 ≡ false) (take i text) → get_or text i 0 ≡ 47 → levels text ≡ take i text ∷ levels_behind (Some (length (take i text))) text
first_found text i l none slash =
    let long : length (take i text) ≡ i = length-take-le i text (omega (arith, l)) in
    let more : nat_lt i (length text) ≡ true = grind (arith, nat_tests) in
    ap levels (sym (take-append-drop i text) ∙ ap (λ (xs : List ℕ). take i text ++ xs) (drop_more text i 0 l))
    ∙ slice_split_at (λ c. eqb c 47) (take i text) (get_or text i 0) (drop (i + 1) text) none (ap (λ c. eqb c 47) slash)
    ∙ sym (ap (λ (n : ℕ). take i text ∷ levels_behind (Some n) text) long ∙ ap (λ (b : Bool). take i text ∷ cond b (levels (drop (i + 1) text)) []) more)

-- without a slash the text is one level
pub all_first : (text : List ℕ) → All (λ c. eqb c 47 ≡ false) text → levels text ≡ text ∷ levels_behind (Some (length text)) text
all_first text none =
    let ends : nat_lt (length text) (length text) ≡ false = grind (arith, nat_tests) in
    slice_split_none (λ c. eqb c 47) text none ∙ sym (ap (λ (b : Bool). text ∷ cond b (levels (drop (length text + 1) text)) []) ends)
