-- How SQL compares whole numbers.
use Rattle.std.proofs.Common.{◌≡◌, ◌≢◌, ℕ, pos, Bool, true, false, nat_le, nat_lt, refl, ap, ◌∙◌, int_cmp, ◌⊎◌, inl, inr, arith}
use Rattle.std.specs.Prelude.{Some}
use Rattle.std.specs.Ordering.{is_eq, is_ge}
use Rattle.std.proofs.lemmas.Bool.{cases_Bool, ltb-true, ltb-false, lt-leb, le-leb}
use Rattle.std.proofs.lemmas.Cmp.{tied_itself}
use Rattle.sqlite_value.specs.Order.{value_cmp}
use Rattle.sqlite_value.proofs.OrderLemmas.{value_cmp_total, value_cmp-Int}
use Rattle.sqlite_sql.specs.Ops.{is_true, from_truth, binary}
use Rattle.mqtt_store_rows.specs.values.Values.{number}
use Rattle.mqtt_store_database.proofs.telling_lemmas.Joined.{are_equal, is_at_least}

truth_of : (b : Bool) → is_true (from_truth (Some b)) ≡ b
truth_of true = refl
truth_of false = refl

equal_is : (m n : ℕ) → are_equal (number m) (number n) ≡ is_eq (value_cmp (number m) (number n))
unfolding binary
equal_is m n = truth_of (is_eq (value_cmp (number m) (number n)))

least_is : (m n : ℕ) → is_at_least (number m) (number n) ≡ is_ge (value_cmp (number m) (number n))
unfolding binary
least_is m n = truth_of (is_ge (value_cmp (number m) (number n)))

-- a number is equal to itself
pub equal_itself : (n : ℕ) → are_equal (number n) (number n) ≡ true
equal_itself n = equal_is n n ∙ ap is_eq (tied_itself value_cmp_total (number n))

-- and to no other
pub equal_other : (m n : ℕ) → m ≢ n → are_equal (number m) (number n) ≡ false
equal_other m n other = equal_is m n ∙ (ap is_eq (value_cmp-Int (pos m) (pos n)) ∙ go (cases_Bool (nat_lt m n)) (cases_Bool (nat_lt n m)))
  where
    go : (nat_lt m n ≡ true) ⊎ (nat_lt m n ≡ false) → (nat_lt n m ≡ true) ⊎ (nat_lt n m ≡ false) → is_eq (int_cmp (pos m) (pos n)) ≡ false
    go (inl less) b = rw less refl
    go (inr not_less) (inl more) = rw (not_less, more) refl
    go (inr not_less) (inr not_more) =
        let least = ltb-false m n not_less in
        let most = ltb-false n m not_more in
        absurd (other (omega (arith, least, most)))

-- it is at least the other as numbers are
pub at_least : (m n : ℕ) → is_at_least (number m) (number n) ≡ nat_le n m
at_least m n = least_is m n ∙ (ap is_ge (value_cmp-Int (pos m) (pos n)) ∙ go (cases_Bool (nat_lt m n)) (cases_Bool (nat_lt n m)))
  where
    go : (nat_lt m n ≡ true) ⊎ (nat_lt m n ≡ false) → (nat_lt n m ≡ true) ⊎ (nat_lt n m ≡ false) → is_ge (int_cmp (pos m) (pos n)) ≡ nat_le n m
    go (inl less) b = let above = lt-leb n m (ltb-true m n less) in rw (less, above) refl
    go (inr not_less) (inl more) = let within = le-leb n m (ltb-false m n not_less) in rw (not_less, more, within) refl
    go (inr not_less) (inr not_more) = let within = le-leb n m (ltb-false m n not_less) in rw (not_less, not_more, within) refl
