-- Numbers and places are these or others.
use Rattle.std.proofs.Common.{◌≡◌, ◌≢◌, ◌⊎◌, ℕ, nat_eq, sym, ◌∙◌, inl, inr, true≢false}
use Rattle.std.proofs.lemmas.Bool.{cases_Bool, eq-eqb, eqb-true}

-- a number is another, or not
pub same_or_other : (n k : ℕ) → (n ≡ k) ⊎ (n ≢ k)
same_or_other n k = elim (cases_Bool (nat_eq n k)) [
  | inl is ↦ inl (eqb-true n k is)
  | inr isnt ↦ inr (λ e. true≢false (sym (eq-eqb n k e) ∙ isnt))
]

-- a birth and a place are these, or others
pub at_or_other : (b birth n place : ℕ) → ((b ≡ birth) × (n ≡ place)) ⊎ (b ≡ birth → n ≡ place → ⊥)
at_or_other b birth n place = elim (same_or_other b birth) [
  | inl is ↦ elim (same_or_other n place) [
    | inl also ↦ inl (is, also)
    | inr isnt ↦ inr (λ e. isnt)
  ]
  | inr isnt ↦ inr (λ e. absurd (isnt e))
]
