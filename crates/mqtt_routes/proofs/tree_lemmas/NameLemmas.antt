-- Lemmas on where a walk by a name begins (MQTT 5.0, 4.7.2).
use Rattle.std.proofs.Common.{◌≡◌, ℕ, Bool, true, false, cond, not, ◌&&◌, ◌||◌, List, [], ◌∷◌, nat_eq, refl, sym, ap, ◌∙◌, arith, bytes_eq}
use Rattle.std.specs.List.{onto_first}
use Rattle.std.proofs.lemmas.Bool.Decides.{nat_tests}
use Rattle.std.proofs.lemmas.Slice.Eq.{bytes_eq-Decides}
use Rattle.mqtt_topic.specs.names.Names.{plus, hash, is_wildcard, has_wildcard}
use Rattle.mqtt_topic.specs.names.Levels.{is_slash, levels}
use Rattle.mqtt_topic.specs.names.Filters.{is_plus, is_hash}
use Rattle.mqtt_topic.specs.names.Matching.{dollar, is_first, matches_levels, is_match}
use Rattle.mqtt_routes.specs.tree.Tree.{ArePlain, once}
use Rattle.mqtt_routes.proofs.tree_lemmas.TextLemmas.{first_of}
use Rattle.mqtt_routes.proofs.tree_lemmas.FoundLemmas.{false_by, no_hash, no_plus, part}

or_parts : (a b : Bool) → (a || b) ≡ false → (a ≡ false) × (b ≡ false)
or_parts true b h = cc
or_parts false b h = (refl, h)

-- the levels of a text without wildcards have none
onto_plain : (c : ℕ) (ls : List (List ℕ)) → is_wildcard c ≡ false → ArePlain ls → ArePlain (onto_first c ls)
onto_plain c [] free plain = (ap (λ b. b || false) free, tt)
onto_plain c (l ∷ ls) free plain = (ap (λ b. b || has_wildcard l) free ∙ plain.0, plain.1)

plain_by : (b : Bool) (c : ℕ) (ls : List (List ℕ)) → is_wildcard c ≡ false → ArePlain ls → ArePlain (cond b ([] ∷ ls) (onto_first c ls))
plain_by true c ls free plain = (refl, plain)
plain_by false c ls free plain = onto_plain c ls free plain

-- the levels of a text without wildcards have none
pub plain_levels : (text : List ℕ) → has_wildcard text ≡ false → ArePlain (levels text)
plain_levels [] free = (refl, tt)
plain_levels (c ∷ cs) free = let parts = or_parts (is_wildcard c) (has_wildcard cs) free in plain_by (is_slash c) c (levels cs) parts.0 (plain_levels cs parts.1)

-- a filter begins with a wildcard if its first level does
onto_first_is : (c : ℕ) (ls : List (List ℕ)) → is_wildcard c ≡ is_first is_wildcard (first_of (onto_first c ls))
onto_first_is c [] = refl
onto_first_is c (l ∷ ls) = refl

slash_is_none : (c : ℕ) → is_slash c ≡ true → is_wildcard c ≡ false
slash_is_none c h = false_by (is_wildcard c) (λ w. grind (arith, nat_tests))

first_by : (b : Bool) (c : ℕ) (ls : List (List ℕ)) → is_slash c ≡ b → is_wildcard c ≡ is_first is_wildcard (first_of (cond b ([] ∷ ls) (onto_first c ls)))
first_by true c ls h = slash_is_none c h
first_by false c ls h = onto_first_is c ls

first_char : (text : List ℕ) → is_first is_wildcard text ≡ is_first is_wildcard (first_of (levels text))
first_char [] = refl
first_char (c ∷ cs) = first_by (is_slash c) c (levels cs) refl

and_true : (b : Bool) → (b && true) ≡ b
and_true true = refl
and_true false = refl

and_false : (b : Bool) → (b && false) ≡ false
and_false true = refl
and_false false = refl

-- a name that doesn't begin with `$` is matched by levels alone
pub by_levels : (filter name : List ℕ) → is_first (nat_eq dollar) name ≡ false → matches_levels (levels filter) (levels name) ≡ is_match filter name
by_levels filter name none =
    let m = matches_levels (levels filter) (levels name) in
    sym (ap (λ b. m && not (is_first is_wildcard filter && b)) none ∙ ap (λ b. m && not b) (and_false (is_first is_wildcard filter)) ∙ and_true m)

-- one that does is matched by no wildcard of the first level
plain_first : (l : List ℕ) → has_wildcard l ≡ false → is_first is_wildcard l ≡ false
plain_first [] plain = refl
plain_first (c ∷ cs) plain = (or_parts (is_wildcard c) (has_wildcard cs) plain).0

own_by : (e h p m b : Bool) → (e ≡ true → (h ≡ false) × (p ≡ false) × (b ≡ false)) → (h ≡ true → b ≡ true) → (p ≡ true → b ≡ true) → once (e && m) ≡ once ((h || ((p || e) && m)) && not b)
own_by true h p m b own h_wild p_wild = let is = own refl in rw (is.0, is.1, is.2) (ap (λ (t : Bool). once t) (sym (and_true m)))
own_by false true p m b own h_wild p_wild = rw (h_wild refl) refl
own_by false false true m b own h_wild p_wild = rw (p_wild refl) (ap (λ (t : Bool). once t) (sym (and_false m)))
own_by false false false m b own h_wild p_wild = refl

own_level : (l : List ℕ) (ls fs : List (List ℕ)) → has_wildcard l ≡ false → part l ls fs ≡ once (matches_levels fs (l ∷ ls) && not (is_first is_wildcard (first_of fs)))
own_level l ls [] plain = refl
own_level l ls (f ∷ fs) plain =
    own_by (bytes_eq f l) (is_hash f) (is_plus f) (matches_levels fs ls) (is_first is_wildcard f)
    (λ e. let same = (bytes_eq-Decides f l).0 e in (ap is_hash same ∙ no_hash l plain, ap is_plus same ∙ no_plus l plain, ap (is_first is_wildcard) same ∙ plain_first l plain))
    (λ h. ap (is_first is_wildcard) ((bytes_eq-Decides f (hash ∷ [])).0 h))
    (λ p. ap (is_first is_wildcard) ((bytes_eq-Decides f (plus ∷ [])).0 p))

-- a name that begins with a dollar sign is met by its own first level alone
pub by_own : (filter name l : List ℕ) (ls : List (List ℕ)) → is_first (nat_eq dollar) name ≡ true → levels name ≡ l ∷ ls → has_wildcard l ≡ false → part l ls (levels filter) ≡ once (is_match filter name)
by_own filter name l ls begins is plain =
    own_level l ls (levels filter) plain
    ∙ ap (λ b. once (matches_levels (levels filter) (l ∷ ls) && not b)) (sym (first_char filter) ∙ sym (and_true (is_first is_wildcard filter)) ∙ ap (λ b. is_first is_wildcard filter && b) (sym begins))
    ∙ ap (λ (ns : List (List ℕ)). once (matches_levels (levels filter) ns && not (is_first is_wildcard filter && is_first (nat_eq dollar) name))) (sym is)

-- the numbers to be found
pub found_by : (w m : Bool) → cond w (once m) 0 ≡ once (w && m)
found_by true m = refl
found_by false m = refl
