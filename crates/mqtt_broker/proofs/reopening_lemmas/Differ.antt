-- Lists in which no two are equal: parts of them, and what is put in or changed.
use Rattle.std.proofs.Common.{◌≡◌, ℕ, Bool, ◌||◌, List, [], ◌∷◌, ◌++◌, ◌⊎◌, length, filter, map, Some, nat_eq, nat_lt, refl, sym, ap, subst, inl, inr, arith}
use Rattle.std.specs.Prelude.{◌≢◌, flat_map}
use Rattle.std.specs.List.{AllByRecursion}
use Rattle.std.proofs.lemmas.Bool.{cases_Bool}
use Rattle.mqtt_records.specs.lists.Distinct.{AllDiffer}
use Rattle.mqtt_records.specs.lists.Order.{IsAbove, IsAscending, row_at, has_row, insert_row, put_row, change_row}
use Rattle.mqtt_rules.specs.step.Laws.{IsAmong}
use Rattle.mqtt_world_laws.proofs.acceptance_lemmas.copies.Differ.{AreApart, differ_join}
use Rattle.mqtt_rules.proofs.step_lemmas.numbers.Copies.{each_append, each_filter, each_more}
use Rattle.mqtt_rules.proofs.step_lemmas.fit.FitLaw.{all_among}

-- what holds of each that is among them holds of all
pub each_among : {X : Type 0} (P : X → Type 0) (xs : List X) → ((x : X) → IsAmong x xs → P x) → AllByRecursion P xs
each_among P [] h = tt
each_among P (x ∷ xs) h = (h x (inl refl), each_among P xs (λ y among. h y (inr among)))

-- ---- two lists, one behind the other

-- what holds of two lists holds of the first
pub each_first : {X : Type 0} (P : X → Type 0) (xs ys : List X) → AllByRecursion P (xs ++ ys) → AllByRecursion P xs
each_first P [] ys h = tt
each_first P (x ∷ xs) ys h = (h.0, each_first P xs ys h.1)

-- and of the last
pub each_last : {X : Type 0} (P : X → Type 0) (xs ys : List X) → AllByRecursion P (xs ++ ys) → AllByRecursion P ys
each_last P [] ys h = h
each_last P (x ∷ xs) ys h = each_last P xs ys h.1

-- if the items of two lists differ, so do those of the first
pub differ_first : {X : Type 0} (xs ys : List X) → AllDiffer (xs ++ ys) → AllDiffer xs
differ_first [] ys h = tt
differ_first (x ∷ xs) ys h = (each_first (λ y. x ≢ y) xs ys h.0, differ_first xs ys h.1)

-- and of the last
pub differ_last : {X : Type 0} (xs ys : List X) → AllDiffer (xs ++ ys) → AllDiffer ys
differ_last [] ys h = h
differ_last (x ∷ xs) ys h = differ_last xs ys h.1

-- and the two are apart
pub differ_apart : {X : Type 0} (xs ys : List X) → AllDiffer (xs ++ ys) → AreApart xs ys
differ_apart [] ys h = tt
differ_apart (x ∷ xs) ys h = (each_last (λ y. x ≢ y) xs ys h.0, differ_apart xs ys h.1)

-- ---- keys of rows

-- what is below all keys differs from each
pub above_differ : {X : Type 0} (key : X → ℕ) (n : ℕ) (xs : List X) → IsAbove key n xs → AllByRecursion (λ m. n ≢ m) (map key xs)
above_differ key n [] h = tt
above_differ key n (x ∷ xs) h = let less = h.0 in ((λ e. omega (arith, e, less)), above_differ key n xs h.1)

-- keys that rise differ
pub ascending_differ : {X : Type 0} (key : X → ℕ) (xs : List X) → IsAscending key xs → AllDiffer (map key xs)
ascending_differ key [] h = tt
ascending_differ key (x ∷ xs) h = (above_differ key (key x) xs h.0, ascending_differ key xs h.1)

-- ---- what rows give, all together

module _ {X Y : Type 0} (key : X → ℕ) (g : X → List Y) where
  -- what holds of all that each row gives holds of all that they give together
  pub each_given : (P : Y → Type 0) (xs : List X) → AllByRecursion (λ x. AllByRecursion P (g x)) xs → AllByRecursion P (flat_map g xs)
  each_given P [] h = tt
  each_given P (x ∷ xs) h = each_append P (g x) (flat_map g xs) h.0 (each_given P xs h.1)

  -- what holds of all that the rows give together holds of what each gives
  pub given_each : (P : Y → Type 0) (xs : List X) → AllByRecursion P (flat_map g xs) → AllByRecursion (λ x. AllByRecursion P (g x)) xs
  given_each P [] h = tt
  given_each P (x ∷ xs) h = (each_first P (g x) (flat_map g xs) h, given_each P xs (each_last P (g x) (flat_map g xs) h))

  given_filtered : (P : Y → Type 0) (keep : X → Bool) (xs : List X) → AllByRecursion P (flat_map g xs) → AllByRecursion P (flat_map g (filter keep xs))
  given_filtered P keep xs h = each_given P (filter keep xs) (each_filter (λ x. AllByRecursion P (g x)) keep xs (given_each P xs h))

  -- what some of the rows give differs if what all give does
  pub filter_differs : (keep : X → Bool) (xs : List X) → AllDiffer (flat_map g xs) → AllDiffer (flat_map g (filter keep xs))
  filter_differs keep [] h = tt
  filter_differs keep (x ∷ xs) h = elim (cases_Bool (keep x)) [
    | inl stays ↦ rw stays (differ_join (g x) (flat_map g (filter keep xs)) (differ_first (g x) (flat_map g xs) h) (filter_differs keep xs (differ_last (g x) (flat_map g xs) h))
        (each_more (λ n. AllByRecursion (λ m. n ≢ m) (flat_map g xs)) (λ n. AllByRecursion (λ m. n ≢ m) (flat_map g (filter keep xs))) (λ n q. given_filtered (λ m. n ≢ m) keep xs q) (g x) (differ_apart (g x) (flat_map g xs) h)))
    | inr goes ↦ rw goes (filter_differs keep xs (differ_last (g x) (flat_map g xs) h))
  ]

  -- a row that gives nothing
  given_inserted : (P : Y → Type 0) (row : X) (xs : List X) → g row ≡ [] → AllByRecursion P (flat_map g xs) → AllByRecursion P (flat_map g (insert_row key row xs))
  given_inserted P row [] none h = rw none tt
  given_inserted P row (x ∷ xs) none h = elim (cases_Bool (nat_lt (key row) (key x))) [
    | inl before ↦ rw (before, none) h
    | inr behind ↦ elim (cases_Bool (nat_eq (key row) (key x))) [
      | inl same ↦ rw (behind, same, none) (each_last P (g x) (flat_map g xs) h)
      | inr other ↦ rw (behind, other) (each_append P (g x) (flat_map g (insert_row key row xs)) (each_first P (g x) (flat_map g xs) h) (given_inserted P row xs none (each_last P (g x) (flat_map g xs) h)))
    ]
  ]

  insert_differs : (row : X) (xs : List X) → g row ≡ [] → AllDiffer (flat_map g xs) → AllDiffer (flat_map g (insert_row key row xs))
  insert_differs row [] none h = rw none tt
  insert_differs row (x ∷ xs) none h = elim (cases_Bool (nat_lt (key row) (key x))) [
    | inl before ↦ rw (before, none) h
    | inr behind ↦ elim (cases_Bool (nat_eq (key row) (key x))) [
      | inl same ↦ rw (behind, same, none) (differ_last (g x) (flat_map g xs) h)
      | inr other ↦ rw (behind, other)
          (differ_join (g x) (flat_map g (insert_row key row xs)) (differ_first (g x) (flat_map g xs) h) (insert_differs row xs none (differ_last (g x) (flat_map g xs) h))
          (each_more (λ n. AllByRecursion (λ m. n ≢ m) (flat_map g xs)) (λ n. AllByRecursion (λ m. n ≢ m) (flat_map g (insert_row key row xs))) (λ n q. given_inserted (λ m. n ≢ m) row xs none q) (g x) (differ_apart (g x) (flat_map g xs) h)))
    ]
  ]

  -- a row that gives nothing, put among others, leaves what they give different
  pub put_differs : (limit : ℕ) (row : X) (xs : List X) → g row ≡ [] → AllDiffer (flat_map g xs) → AllDiffer (flat_map g (put_row key limit row xs))
  put_differs limit row xs none h = elim (cases_Bool (has_row key (key row) xs || nat_lt (length xs) limit)) [
    | inl room ↦ rw room (insert_differs row xs none h)
    | inr full ↦ rw full h
  ]

  -- a row changed that gives the same
  pub given_same : (k : ℕ) (f : X → X) (xs : List X) → ((x : X) → g (f x) ≡ g x) → flat_map g (change_row key k f xs) ≡ flat_map g xs
  given_same k f [] same = refl
  given_same k f (x ∷ xs) same = elim (cases_Bool (nat_eq (key x) k)) [
    | inl here ↦ rw here (ap (λ (ns : List Y). ns ++ flat_map g xs) (same x))
    | inr other ↦ rw other (ap (λ (ns : List Y). g x ++ ns) (given_same k f xs same))
  ]

  given_at : (P : Y → Type 0) (k : ℕ) (x : X) (xs : List X) → row_at key k xs ≡ Some x → AllByRecursion P (flat_map g xs) → AllByRecursion P (g x)
  given_at P k x [] there h = absurd cc
  given_at P k x (y ∷ ys) there h = elim (cases_Bool (nat_eq (key y) k)) [
    | inl here ↦
        let it : Some y ≡ Some x = rw here at there in
        let is : y ≡ x = cc in
        subst (λ (z : X). AllByRecursion P (g z)) is (each_first P (g y) (flat_map g ys) h)
    | inr other ↦ given_at P k x ys (rw other at there) (each_last P (g y) (flat_map g ys) h)
  ]

  given_changed : (P : Y → Type 0) (k : ℕ) (f : X → X) (x : X) (xs : List X) → row_at key k xs ≡ Some x → AllByRecursion P (g (f x)) → AllByRecursion P (flat_map g xs) → AllByRecursion P (flat_map g (change_row key k f xs))
  given_changed P k f x [] there new h = tt
  given_changed P k f x (y ∷ ys) there new h = elim (cases_Bool (nat_eq (key y) k)) [
    | inl here ↦
        let it : Some y ≡ Some x = rw here at there in
        let is : x ≡ y = cc in
        rw here (each_append P (g (f y)) (flat_map g ys) (subst (λ (z : X). AllByRecursion P (g (f z))) is new) (each_last P (g y) (flat_map g ys) h))
    | inr other ↦ rw other (each_append P (g y) (flat_map g (change_row key k f ys)) (each_first P (g y) (flat_map g ys) h) (given_changed P k f x ys (rw other at there) new (each_last P (g y) (flat_map g ys) h)))
  ]

  -- what a row gives, once it is changed, it gave before, or no row did
  abbrev pub IsOwn : X → List X → Y → Type 0
  IsOwn x xs n = IsAmong n (g x) ⊎ AllByRecursion (λ m. n ≢ m) (flat_map g xs)

  own_behind : (x y : X) (ys : List X) (n : Y) → IsOwn x (y ∷ ys) n → IsOwn x ys n
  own_behind x y ys n own = elim own [ inl it ↦ inl it | inr new ↦ inr (each_last (λ m. n ≢ m) (g y) (flat_map g ys) new) ]

  -- a row changed so that it gives its own or something new leaves what all give different
  pub change_differs : (k : ℕ) (f : X → X) (x : X) (xs : List X) → row_at key k xs ≡ Some x → AllDiffer (g (f x)) → AllByRecursion (IsOwn x xs) (g (f x)) → AllDiffer (flat_map g xs) → AllDiffer (flat_map g (change_row key k f xs))
  change_differs k f x [] there differ own h = tt
  change_differs k f x (y ∷ ys) there differ own h = elim (cases_Bool (nat_eq (key y) k)) [
    | inl here ↦
        let it : Some y ≡ Some x = rw here at there in
        let is : x ≡ y = cc in
        let apart : AreApart (g (f x)) (flat_map g ys) = each_more (IsOwn x (y ∷ ys)) (λ n. AllByRecursion (λ m. n ≢ m) (flat_map g ys))
        (λ n o. elim o [
          | inl among ↦ all_among (λ (i : Y). AllByRecursion (λ m. i ≢ m) (flat_map g ys)) n (g y) (differ_apart (g y) (flat_map g ys) h) (subst (λ (z : X). IsAmong n (g z)) is among)
          | inr new ↦ each_last (λ m. n ≢ m) (g y) (flat_map g ys) new
        ]) (g (f x)) own in
        rw here (subst (λ (z : X). AllDiffer (g (f z) ++ flat_map g ys)) is (differ_join (g (f x)) (flat_map g ys) differ (differ_last (g y) (flat_map g ys) h) apart))
    | inr other ↦
        let found : row_at key k ys ≡ Some x = rw other at there in
        let old = differ_apart (g y) (flat_map g ys) h in
        let new : (i : Y) → IsAmong i (g y) → AllByRecursion (λ n. i ≢ n) (g (f x)) = λ i among.
        each_more (IsOwn x (y ∷ ys)) (λ n. i ≢ n)
        (λ n o. elim o [
          | inl its ↦ all_among (λ m. i ≢ m) n (g x) (given_at (λ m. i ≢ m) k x ys found (all_among (λ j. AllByRecursion (λ m. j ≢ m) (flat_map g ys)) i (g y) old among)) its
          | inr none ↦ λ e. all_among (λ m. n ≢ m) i (g y) (each_first (λ m. n ≢ m) (g y) (flat_map g ys) none) among (sym e)
        ]) (g (f x)) own in
        let apart : AreApart (g y) (flat_map g (change_row key k f ys)) = each_among (λ i. AllByRecursion (λ m. i ≢ m) (flat_map g (change_row key k f ys))) (g y)
        (λ i among. given_changed (λ m. i ≢ m) k f x ys found (new i among) (all_among (λ j. AllByRecursion (λ m. j ≢ m) (flat_map g ys)) i (g y) old among)) in
        rw other (differ_join (g y) (flat_map g (change_row key k f ys)) (differ_first (g y) (flat_map g ys) h)
        (change_differs k f x ys found differ (each_more (IsOwn x (y ∷ ys)) (IsOwn x ys) (own_behind x y ys) (g (f x)) own) (differ_last (g y) (flat_map g ys) h)) apart)
  ]
