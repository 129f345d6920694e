-- What a list says behind a front of it: after a put, a removal and an edit there, and once a row has joined the front.
use Rattle.std.proofs.Common.{◌≡◌, ℕ, ◌+◌, zero, suc, ◌<◌, ◌≤◌, List, [], ◌∷◌, ◌++◌, length, map, take, drop, get_or, insert, remove, refl, ap, ◌∙◌, arith}
use Rattle.std.specs.Prelude.{slice_set}

module _ {X : Type 0} where
  one_before : (i : ℕ) (xs ys : List X) → i < length xs → drop 1 (drop i (take (suc i) xs) ++ ys) ≡ ys
  one_before i [] ys lt = absurd (omega (arith, lt))
  one_before zero (x ∷ xs) ys lt = refl
  one_before (suc i) (x ∷ xs) ys lt = one_before i xs ys (omega (arith, lt))

  without : (i : ℕ) (xs : List X) → i < length xs → take i (take (suc i) xs) ++ drop (suc i) xs ≡ remove xs i
  without i [] lt = absurd (omega (arith, lt))
  without zero (x ∷ xs) lt = refl
  without (suc i) (x ∷ xs) lt = ap (λ (zs : List X). x ∷ zs) (without i xs (omega (arith, lt)))

  assoc : (xs ys zs : List X) → (xs ++ ys) ++ zs ≡ xs ++ (ys ++ zs)
  assoc [] ys zs = refl
  assoc (x ∷ xs) ys zs = ap (λ (l : List X). x ∷ l) (assoc xs ys zs)

  -- behind the row that was turned to the front are all others
  pub turned : (i : ℕ) (xs : List X) → i < length xs → drop 1 ((drop i (take (suc i) xs) ++ take i (take (suc i) xs)) ++ drop (suc i) xs) ≡ remove xs i
  turned i xs lt = ap (drop 1) (assoc (drop i (take (suc i) xs)) (take i (take (suc i) xs)) (drop (suc i) xs)) ∙ (one_before i xs (take i (take (suc i) xs) ++ drop (suc i) xs) lt ∙ without i xs lt)

  -- what a row was changed to doesn't matter once it is removed
  pub remove_set : (i : ℕ) (xs : List X) (x : X) → remove (slice_set xs i x) i ≡ remove xs i
  remove_set i [] x = refl
  remove_set zero (y ∷ ys) x = refl
  remove_set (suc i) (y ∷ ys) x = ap (λ (zs : List X). y ∷ zs) (remove_set i ys x)

  -- behind a front and one row more
  pub drop_further : (n : ℕ) (xs ys : List X) → n ≡ suc (length xs) → drop n (xs ++ ys) ≡ drop 1 ys
  drop_further n [] ys is = let one : n ≡ 1 = omega (arith, is) in ap (λ (m : ℕ). drop m ys) one
  drop_further zero (x ∷ xs) ys is = absurd (omega (arith, is))
  drop_further (suc n) (x ∷ xs) ys is = drop_further n xs ys (omega (arith, is))

  -- a front with the row behind it
  pub take_further : (n : ℕ) (xs ys : List X) → n ≡ suc (length xs) → take n (xs ++ ys) ≡ xs ++ take 1 ys
  take_further n [] ys is = let one : n ≡ 1 = omega (arith, is) in ap (λ (m : ℕ). take m ys) one
  take_further zero (x ∷ xs) ys is = absurd (omega (arith, is))
  take_further (suc n) (x ∷ xs) ys is = ap (λ (zs : List X). x ∷ zs) (take_further n xs ys (omega (arith, is)))

  -- a row set behind a front is set in what is behind it
  pub drop_set : (g i n : ℕ) (xs : List X) (x : X) → n ≡ g + i → drop g (slice_set xs n x) ≡ slice_set (drop g xs) i x
  drop_set zero i n xs x is = let same : n ≡ i = omega (arith, is) in ap (λ (m : ℕ). slice_set xs m x) same
  drop_set (suc g) i n [] x is = refl
  drop_set (suc g) i zero (y ∷ ys) x is = absurd (omega (arith, is))
  drop_set (suc g) i (suc n) (y ∷ ys) x is = drop_set g i n ys x (omega (arith, is))

  -- a row removed behind a front is removed from what is behind it
  pub drop_remove : (g i n : ℕ) (xs : List X) → n ≡ g + i → drop g (remove xs n) ≡ remove (drop g xs) i
  drop_remove zero i n xs is = let same : n ≡ i = omega (arith, is) in ap (λ (m : ℕ). remove xs m) same
  drop_remove (suc g) i zero xs is = absurd (omega (arith, is))
  drop_remove (suc g) zero (suc n) [] is = refl
  drop_remove (suc g) (suc i) (suc n) [] is = refl
  drop_remove (suc g) i (suc n) (y ∷ ys) is = drop_remove g i n ys (omega (arith, is))

  -- a row inserted behind a front is inserted in what is behind it
  pub drop_insert : (g i n : ℕ) (xs : List X) (x : X) → n ≡ g + i → g ≤ length xs → drop g (insert xs n x) ≡ insert (drop g xs) i x
  drop_insert zero i n xs x is le = let same : n ≡ i = omega (arith, is) in ap (λ (m : ℕ). insert xs m x) same
  drop_insert (suc g) i n [] x is le = absurd (omega (arith, le))
  drop_insert (suc g) i zero (y ∷ ys) x is le = absurd (omega (arith, is))
  drop_insert (suc g) i (suc n) (y ∷ ys) x is le = drop_insert g i n ys x (omega (arith, is)) (omega (arith, le))

  -- what stands behind a front
  pub drop_get : (g i n : ℕ) (xs : List X) (d : X) → n ≡ g + i → get_or xs n d ≡ get_or (drop g xs) i d
  drop_get zero i n xs d is = let same : n ≡ i = omega (arith, is) in ap (λ (m : ℕ). get_or xs m d) same
  drop_get (suc g) i n [] d is = refl
  drop_get (suc g) i zero (y ∷ ys) d is = absurd (omega (arith, is))
  drop_get (suc g) i (suc n) (y ∷ ys) d is = drop_get g i n ys d (omega (arith, is))

  -- each row changed behind a front
  pub drop_map : (g : ℕ) (f : X → X) (xs : List X) → drop g (map f xs) ≡ map f (drop g xs)
  drop_map zero f xs = refl
  drop_map (suc g) f [] = refl
  drop_map (suc g) f (y ∷ ys) = drop_map g f ys

  -- how many are behind a front
  pub drop_length : (g : ℕ) (xs : List X) → g ≤ length xs → length (drop g xs) + g ≡ length xs
  drop_length zero xs le = omega arith
  drop_length (suc g) [] le = absurd (omega (arith, le))
  drop_length (suc g) (y ∷ ys) le = let more = drop_length g ys (omega (arith, le)) in omega (arith, more)
