-- Lemmas on the levels of a text (MQTT 5.0, 4.7.1.1).
use Rattle.std.proofs.Common.{◌≡◌, ℕ, ◌<◌, Bool, true, false, cond, List, [], ◌∷◌, ◌++◌, length, get_or, refl, ap, subst, ◌∙◌, eqb, lit<, Option, Some, None, MatchOption, Bor}
use Rattle.std.specs.List.{All, onto_first}
use Rattle.std.proofs.lemmas.Bool.{ne_eqb}
use Rattle.std.proofs.lemmas.List.{get_or_default}
use Rattle.std.proofs.lemmas.List.Splits.{slice_split_none, slice_split_at}
use Rattle.std.proofs.lemmas.Str.Pattern.{IsSplitOnceResult, split_parts}
use Rattle.mqtt_topic.specs.names.Levels.{levels, is_none_left}

-- no character is a slash
all_others : (text : List ℕ) → ((i : ℕ) → i < length text → get_or text i 0 ≡ 47 → ⊥) → All (λ c. eqb c 47 ≡ false) text
all_others text apart k d l = ne_eqb (get_or text k d) 47 (λ e. apart k l (get_or_default text k 0 d l ∙ e))

-- a text is cut at its first slash
pub levels_cut : (text : List ℕ) (r : Option (Bor (List ℕ) × Bor (List ℕ))) → IsSplitOnceResult 47 text r → MatchOption r (levels text ≡ text ∷ []) (λ p. levels text ≡ p.0.now ∷ levels p.1.now)
levels_cut text r cut = by_case r (split_parts 47 text r cut (lit< tt))
  where
    by_case : (r : Option (Bor (List ℕ) × Bor (List ℕ))) → MatchOption r ((i : ℕ) → i < length text → get_or text i 0 ≡ 47 → ⊥) (λ p. (text ≡ p.0.now ++ (47 ∷ p.1.now)) × ((i : ℕ) → i < length p.0.now → get_or p.0.now i 0 ≡ 47 → ⊥)) → MatchOption r (levels text ≡ text ∷ []) (λ p. levels text ≡ p.0.now ∷ levels p.1.now)
    by_case None apart = slice_split_none (λ c. eqb c 47) text (all_others text apart)
    by_case (Some p) parts = ap levels parts.0 ∙ slice_split_at (λ c. eqb c 47) p.0.now 47 p.1.now (all_others p.0.now parts.1) refl

-- there is at least one level
some_onto : (c : ℕ) (ls : List (List ℕ)) → is_none_left (onto_first c ls) ≡ false
some_onto c [] = refl
some_onto c (l ∷ ls) = refl

some_by : (b : Bool) (c : ℕ) (ls : List (List ℕ)) → is_none_left (cond b ([] ∷ ls) (onto_first c ls)) ≡ false
some_by true c ls = refl
some_by false c ls = some_onto c ls

-- a text has a level
pub is_none_left-levels : (text : List ℕ) → is_none_left (levels text) ≡ false
is_none_left-levels [] = refl
is_none_left-levels (c ∷ cs) = some_by (eqb c 47) c (levels cs)

-- a text with a slash is cut there
pub levels_cut_some : (text : List ℕ) (r : Option (Bor (List ℕ) × Bor (List ℕ))) (level rest : Bor (List ℕ)) → r ≡ Some (level, rest) → IsSplitOnceResult 47 text r → levels text ≡ level.now ∷ levels rest.now
levels_cut_some text r level rest e cut = subst (λ (o : Option (Bor (List ℕ) × Bor (List ℕ))). MatchOption o (levels text ≡ text ∷ []) (λ p. levels text ≡ p.0.now ∷ levels p.1.now)) e (levels_cut text r cut)

-- one without is one level
pub levels_cut_none : (text : List ℕ) (r : Option (Bor (List ℕ) × Bor (List ℕ))) → r ≡ None → IsSplitOnceResult 47 text r → levels text ≡ text ∷ []
levels_cut_none text r e cut = subst (λ (o : Option (Bor (List ℕ) × Bor (List ℕ))). MatchOption o (levels text ≡ text ∷ []) (λ p. levels text ≡ p.0.now ∷ levels p.1.now)) e (levels_cut text r cut)
