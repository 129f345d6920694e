-- A text that begins with `$share/` is that and its group, so that other groups have other texts (MQTT 5.0, 4.8.2).
use Rattle.std.proofs.Common.{◌≡◌, ℕ, suc, ◌+◌, Bool, true, false, cond, not, List, [], ◌∷◌, ◌++◌, drop, refl, sym, ap, subst, ◌∙◌, bytes_eq, arith}
use Rattle.std.specs.List.{after_first, onto_first, prefix_len}
use Rattle.std.proofs.lemmas.Bool.{eqb-true}
use Rattle.std.proofs.lemmas.Slice.Eq.{bytes_eq-Decides}
use Rattle.mqtt_topic.specs.names.Levels.{slash, is_slash, levels}
use Rattle.mqtt_topic.specs.names.Filters.{share, begin_share, begins_share, group_of}
use Rattle.mqtt_topic.proofs.names_lemmas.MatchLemmas.{and_left, and_right}

-- a text is its first level, a slash, and what follows
cut_by : (b : Bool) (c : ℕ) (cs l m : List ℕ) (ls : List (List ℕ)) → is_slash c ≡ b → ((x : List ℕ) → levels cs ≡ x ∷ m ∷ ls → cs ≡ x ++ slash ∷ after_first is_slash cs)
    → cond b ([] ∷ levels cs) (onto_first c (levels cs)) ≡ l ∷ m ∷ ls → c ∷ cs ≡ l ++ slash ∷ cond b cs (after_first is_slash cs)
cut_by true c cs l m ls is more e =
    let none : [] ≡ l = cc in
    subst (λ (x : List ℕ). c ∷ cs ≡ x ++ slash ∷ cs) none (ap (λ (n : ℕ). n ∷ cs) (eqb-true c slash is))
cut_by false c cs l m ls is more e = onto (levels cs) refl e
  where
    onto : (xs : List (List ℕ)) → levels cs ≡ xs → onto_first c xs ≡ l ∷ m ∷ ls → c ∷ cs ≡ l ++ slash ∷ after_first is_slash cs
    onto [] k e = absurd cc
    onto (x ∷ xs) k e =
        let first : c ∷ x ≡ l = cc in
        let left : xs ≡ m ∷ ls = cc in
        let rest = more x (k ∙ ap (λ (ys : List (List ℕ)). x ∷ ys) left) in
        subst (λ (y : List ℕ). c ∷ cs ≡ y ++ slash ∷ after_first is_slash cs) first (ap (λ (ys : List ℕ). c ∷ ys) rest)

-- what follows the first slash, character by character
after_cons : (b : Bool) (c : ℕ) (cs : List ℕ) → is_slash c ≡ b → after_first is_slash (c ∷ cs) ≡ cond b cs (after_first is_slash cs)
after_cons true c cs e = rw e refl
after_cons false c cs e =
    let n = prefix_len (λ (x : ℕ). not (is_slash x)) cs in
    let next : 1 + n + 1 ≡ suc (n + 1) = omega arith in
    rw e (ap (λ (k : ℕ). drop k (c ∷ cs)) next)

cut : (text l m : List ℕ) (ls : List (List ℕ)) → levels text ≡ l ∷ m ∷ ls → text ≡ l ++ slash ∷ after_first is_slash text
cut [] l m ls e = absurd cc
cut (c ∷ cs) l m ls e =
    cut_by (is_slash c) c cs l m ls refl (λ x k. cut cs x m ls k) e ∙ ap (λ (rest : List ℕ). l ++ slash ∷ rest) (sym (after_cons (is_slash c) c cs refl))

-- a shared filter is its share and its group
pub share_whole : (text : List ℕ) → begins_share text ≡ true → text ≡ share ++ slash ∷ group_of text
share_whole text e = by (levels text) refl e
  where
    by : (ls : List (List ℕ)) → levels text ≡ ls → begin_share ls ≡ true → text ≡ share ++ slash ∷ group_of text
    by [] is e = absurd cc
    by (l ∷ []) is e = let no : false ≡ true = and_right (bytes_eq l share) false e in absurd cc
    by (l ∷ (m ∷ ls)) is e =
        let same : l ≡ share = (bytes_eq-Decides l share).0 (and_left (bytes_eq l share) true e) in
        cut text l m ls is ∙ ap (λ (x : List ℕ). x ++ slash ∷ group_of text) same

-- two shared filters with one group are one
pub same_group : (x y : List ℕ) → begins_share x ≡ true → begins_share y ≡ true → group_of x ≡ group_of y → x ≡ y
same_group x y p q same = share_whole x p ∙ ap (λ (g : List ℕ). share ++ slash ∷ g) same ∙ sym (share_whole y q)
