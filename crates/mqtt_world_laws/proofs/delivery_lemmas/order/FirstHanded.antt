-- What was read in a hop, each copy where it was read first (MQTT 5.0, 4.3.2).
use Rattle.std.proofs.Common.{◌≡◌, ◌⊎◌, inl, inr, ℕ, zero, suc, ◌+◌, ◌<◌, ◌≤◌, Bool, true, false, cond, not, List, [], ◌∷◌, ◌++◌, filter, nat_eq, nat_lt, refl, sym, ap, ◌∙◌, arith, zero-add, ltb-true, ltb-false}
use Rattle.std.proofs.lemmas.Bool.{cases_Bool}
use Rattle.std.proofs.lemmas.Cmp.{nat_eq_equiv}
use Rattle.std.proofs.lemmas.List.Elements.{filter-append, All-nil, All-push}
use Rattle.mqtt_flow.specs.outbound.Receiver.{Handed, Rising, handed}

-- ---- each copy once

-- of another copy
abbrev pub is_other : Handed → Handed → Bool
is_other x y = not (nat_eq y.copy x.copy)

abbrev pub first_handed : List Handed → List Handed
first_handed [] = []
first_handed (x ∷ xs) = x ∷ filter (is_other x) (first_handed xs)

-- a copy stands there no more often than it was read
fewer : (p : Handed → Bool) (m : ℕ) (xs : List Handed) → handed m (filter p xs) ≤ handed m xs
fewer p m [] = omega arith
fewer p m (x ∷ xs) =
    let rest = fewer p m xs in
    elim (cases_Bool (p x)) [
      | inl in_ ↦ rw in_ (omega (arith, rest))
      | inr out ↦ rw out (omega (arith, rest))
    ]

-- a copy that was read first was read
pub first_fewer : (m : ℕ) (xs : List Handed) → handed m (first_handed xs) ≤ handed m xs
first_fewer m [] = omega arith
first_fewer m (x ∷ xs) =
    let rest = first_fewer m xs in
    let less = fewer (is_other x) m (first_handed xs) in
    omega (arith, rest, less)

-- one more, if it was not read before
abbrev pub unless_read : ℕ → Handed → List Handed
unless_read zero x = x ∷ []
unless_read (suc k) x = []

read_before : (k : ℕ) (x : Handed) → 1 ≤ k → unless_read k x ≡ []
read_before zero x h = absurd (omega (arith, h))
read_before (suc k) x h = refl

one_more : (y x : Handed) (k : ℕ) → filter (is_other y) (unless_read k x) ≡ unless_read (cond (nat_eq x.copy y.copy) 1 0 + k) x
one_more y x k = elim (cases_Bool (nat_eq x.copy y.copy)) [
  | inl same ↦ none k same ∙ sym (read_before (cond (nat_eq x.copy y.copy) 1 0 + k) x (rw same (omega arith)))
  | inr apart ↦ kept k apart ∙ ap (λ (n : ℕ). unless_read n x) (sym (ap (λ (t : Bool). cond t 1 0 + k) apart ∙ zero-add k))
]
  where
    none : (k : ℕ) → nat_eq x.copy y.copy ≡ true → filter (is_other y) (unless_read k x) ≡ []
    none zero same = rw same refl
    none (suc k) same = refl

    kept : (k : ℕ) → nat_eq x.copy y.copy ≡ false → filter (is_other y) (unless_read k x) ≡ unless_read k x
    kept zero apart = rw apart refl
    kept (suc k) apart = refl

-- one more is read
pub first_push : (xs : List Handed) (x : Handed) → first_handed (xs ++ x ∷ []) ≡ first_handed xs ++ unless_read (handed x.copy xs) x
first_push [] x = refl
first_push (y ∷ xs) x =
    let k = handed x.copy xs in
    ap (λ (zs : List Handed). y ∷ filter (is_other y) zs) (first_push xs x)
    ∙ (ap (λ (zs : List Handed). y ∷ zs) (filter-append (is_other y) (first_handed xs) (unless_read k x))
    ∙ ap (λ (zs : List Handed). y ∷ (filter (is_other y) (first_handed xs) ++ zs)) (one_more y x k))

-- one above all others stands behind them
pub rising_push : (xs : List Handed) (x : Handed) → Rising xs → ((m : ℕ) → 1 ≤ handed m xs → m < x.copy) → Rising (xs ++ x ∷ [])
rising_push [] x h below = (All-nil (λ y. x.copy < y.copy), tt)
rising_push (y ∷ xs) x h below = (
  All-push (λ z. y.copy < z.copy) xs x h.0 (below y.copy (let s = nat_eq_equiv.refl y.copy in rw s (omega arith))),
  rising_push xs x h.1 (λ m l. below m (omega (arith, l))),
)

-- how often a copy was read, with one more
pub handed_push : (m : ℕ) (x : Handed) (xs : List Handed) → handed m (xs ++ x ∷ []) ≡ handed m xs + cond (nat_eq m x.copy) 1 0
handed_push m x [] = omega arith
handed_push m x (y ∷ xs) = let r = handed_push m x xs in omega (arith, r)

-- one number is below another, is it, or is above
pub order : (m n : ℕ) → (m < n) ⊎ ((m ≡ n) ⊎ (n < m))
order m n = elim (cases_Bool (nat_lt m n)) [
  | inl less ↦ inl (ltb-true m n less)
  | inr not_less ↦ elim (cases_Bool (nat_lt n m)) [
    | inl more ↦ inr (inr (ltb-true n m more))
    | inr not_more ↦ let a = ltb-false m n not_less in let b = ltb-false n m not_more in inr (inl (omega (arith, a, b)))
  ]
]
