-- Tests and steps that may fail: what they gave, and when.
use Rattle.std.proofs.Common.{◌≡◌, refl, sym, ap, subst, ℕ, List, bytes_eq, Bool, true, false, if◌then◌else◌, Option, Some, None, Result, Ok, Err, unwrap_or}
use Rattle.std.specs.Bool.{Decides}
use Rattle.std.specs.Result.{result_ok}
use Rattle.std.proofs.lemmas.Slice.Eq.{bytes_eq-Decides}
use Rattle.mqtt_script.specs.Reading.{◌>>=◌}

-- what is found twice in one look is the same
pub same_some : {X : Type 0} (x y : X) → Some x ≡ Some y → x ≡ y
same_some x y e = ap (λ o. unwrap_or o x) e

-- a value under a test
pub decided : {X : Type 0} {P : Type 0} (b : Bool) → Decides b P → (o : Option X) (y : X)
    → (if b then o else None) ≡ Some y → P × (o ≡ Some y)
decided true d o y e = (d.0 refl, e)
decided false d o y e = cc

-- what is decided may be had
pub granted : {X : Type 0} {P : Type 0} (b : Bool) → Decides b P → (o : Option X) → P → (if b then o else None) ≡ o
granted true d o p = refl
granted false d o p = let t = d.1 p in cc

-- a step that may fail
pub bound : {A B : Type 0} (o : Option A) (f : A → Option B) (y : B) → (o >>= f) ≡ Some y
    → (x : A) × (o ≡ Some x) × (f x ≡ Some y)
bound None f y e = cc
bound (Some x) f y e = (x, refl, e)

-- what is found goes on
pub goes_on : {A B : Type 0} (o : Option A) (f : A → Option B) (x : A) → o ≡ Some x → (o >>= f) ≡ f x
goes_on o f x is = ap (λ o. o >>= f) is

-- a value that is there
pub was_ok : {X E : Type 0} (r : Result X E) (x : X) → result_ok r ≡ Some x → r ≡ Ok x
was_ok (Ok y) x e = ap (λ o. Ok (unwrap_or o y)) e
was_ok (Err f) x e = cc

-- a word that is told by a text
pub named : {X : Type 0} (P : List ℕ → Type 0) (first name : List ℕ) (o p : Option X) (x : X)
    → (if bytes_eq first name then o else p) ≡ Some x → (o ≡ Some x → P name) → (p ≡ Some x → P first) → P first
named P first name o p x e this rest = go _ (bytes_eq-Decides first name).0 e
  where
    go : (b : Bool) → (b ≡ true → first ≡ name) → (if b then o else p) ≡ Some x → P first
    go true is e = subst P (sym (is refl)) (this e)
    go false is e = rest e

-- a choice that finds comes from one of its sides
pub either : {X : Type 0} (P : Type 0) (b : Bool) (o p : Option X) (x : X)
    → (if b then o else p) ≡ Some x → (o ≡ Some x → P) → (p ≡ Some x → P) → P
either P true o p x e this rest = this e
either P false o p x e this rest = rest e

-- nothing is not something
pub nothing : {X : Type 0} (P : Type 0) (x : X) → None ≡ Some x → P
nothing P x e = cc

-- what is never found is none
pub none_of : {X : Type 0} (o : Option X) → ((x : X) → o ≡ Some x → ⊥) → o ≡ None
none_of None never = refl
none_of (Some x) never = absurd (never x refl)
