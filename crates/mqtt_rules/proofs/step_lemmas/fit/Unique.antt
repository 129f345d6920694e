-- What stands at most once, by what is found.
use Rattle.std.proofs.Common.{◌≡◌, ℕ, Bool, true, false, cond, Option, Some, None, nat_eq, refl, sym, ap, ◌∙◌}
use Rattle.std.proofs.lemmas.Bool.{eqb-true}
use Rattle.mqtt_rules.specs.step.Laws.{IsUnique}

-- what finds nobody under two numbers finds nobody twice if it is looked up in another way
pub unique_same : {X : Type 0} (f g : ℕ → Option X) → ((k : ℕ) → g k ≡ f k) → IsUnique f → IsUnique g
unique_same f g same u j k x at_j at_k = u j k x (sym (same j) ∙ at_j) (sym (same k) ∙ at_k)

-- nor if nobody is found under one number any more
pub unique_without : {X : Type 0} (f g : ℕ → Option X) (n : ℕ) → ((k : ℕ) → g k ≡ cond (nat_eq n k) None (f k)) → IsUnique f → IsUnique g
unique_without {X = X} f g n is u j k x at_j at_k = u j k x (still (nat_eq n j) (f j) x (sym (is j) ∙ at_j)) (still (nat_eq n k) (f k) x (sym (is k) ∙ at_k))
  where
    still : (t : Bool) (o : Option X) (x : X) → cond t None o ≡ Some x → o ≡ Some x
    still true o x e = absurd cc
    still false o x e = e

-- nor if somebody is found under one number who was found under no other
pub unique_with : {X : Type 0} (f g : ℕ → Option X) (n : ℕ) (y : X) → ((k : ℕ) → g k ≡ cond (nat_eq n k) (Some y) (f k)) → ((k : ℕ) → f k ≡ Some y → k ≡ n) → IsUnique f → IsUnique g
unique_with {X = X} f g n y is new u j k x at_j at_k = both (nat_eq n j) (nat_eq n k) refl refl (sym (is j) ∙ at_j) (sym (is k) ∙ at_k)
  where
    both : (s t : Bool) → nat_eq n j ≡ s → nat_eq n k ≡ t → cond s (Some y) (f j) ≡ Some x → cond t (Some y) (f k) ≡ Some x → j ≡ k
    both true true a b p q = sym (eqb-true n j a) ∙ eqb-true n k b
    both true false a b p q = let it : y ≡ x = cc in sym (eqb-true n j a) ∙ sym (new k (q ∙ ap Some (sym it)))
    both false true a b p q = let it : y ≡ x = cc in new j (p ∙ ap Some (sym it)) ∙ eqb-true n k b
    both false false a b p q = u j k x p q
