-- A row that takes something in, or stays.
use Rattle.std.proofs.Common.{◌≡◌, ℕ, Bool, true, false, cond, refl}

module _ {X : Type 0} where
  -- one of both, by the answer
  pub filled_or_same : (b : Bool) (new full old : X) → (b ≡ true → new ≡ full) → (b ≡ false → new ≡ old) → new ≡ cond b full old
  filled_or_same true new full old taken kept = taken refl
  filled_or_same false new full old taken kept = kept refl

  -- its key stays in both
  pub key_of_either : (key : X → ℕ) (f : X → X) (b : Bool) (x : X) → key (f x) ≡ key x → key (cond b (f x) x) ≡ key x
  key_of_either key f true x same = same
  key_of_either key f false x same = refl
