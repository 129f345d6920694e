-- Two lists that are alike one by one.
use Rattle.std.proofs.Common.{◌≡◌, ℕ, arith, Bool, true, false, cond, not, ◌||◌, List, [], ◌∷◌, ◌++◌, map, length, Option, Some, None, nat_eq, nat_lt, refl, ap, ap₂}
use Rattle.std.specs.Prelude.{⊤, find, flat_map, filter_map, is_some, is_none, option_map}
use Rattle.std.specs.List.{cons_option}
use Rattle.mqtt_records.specs.lists.Order.{row_at, has_row, insert_row, put_row, remove_row, change_row}
use Rattle.mqtt_rules.specs.alike.Alike.{Each}

-- both are there, or none
abbrev pub Both : {X Y : Type 0} → (X → Y → Type 0) → Option X → Option Y → Type 0
Both R None None = ⊤
Both R None (Some y) = ⊥
Both R (Some x) None = ⊥
Both R (Some x) (Some y) = R x y

-- two choices by one test are alike if their sides are
pub by_cond : {A B : Type 0} (Q : A → B → Type 0) (s t : Bool) → s ≡ t → (a c : A) (b d : B) → Q a b → Q c d → Q (cond s a c) (cond t b d)
by_cond Q true true e a c b d p q = p
by_cond Q true false e a c b d p q = absurd cc
by_cond Q false true e a c b d p q = absurd cc
by_cond Q false false e a c b d p q = q

-- what is made of two that are alike is alike
pub both_map : {X Y V W : Type 0} (R : X → Y → Type 0) (S : V → W → Type 0) (f : X → V) (g : Y → W) → ((x : X) (y : Y) → R x y → S (f x) (g y))
    → (o : Option X) (p : Option Y) → Both R o p → Both S (option_map f o) (option_map g p)
both_map R S f g k None None h = tt
both_map R S f g k None (Some y) h = absurd h
both_map R S f g k (Some x) None h = absurd h
both_map R S f g k (Some x) (Some y) h = k x y h

-- both are some
pub both_some : {X Y : Type 0} (R : X → Y → Type 0) (o : Option X) (p : Option Y) → Both R o p → is_some o ≡ is_some p
both_some R None None h = refl
both_some R None (Some y) h = absurd h
both_some R (Some x) None h = absurd h
both_some R (Some x) (Some y) h = refl

-- or both are none
pub both_none : {X Y : Type 0} (R : X → Y → Type 0) → (o : Option X) (p : Option Y) → Both R o p → is_none o ≡ is_none p
both_none R None None h = refl
both_none R None (Some y) h = absurd h
both_none R (Some x) None h = absurd h
both_none R (Some x) (Some y) h = refl

module _ {X : Type 0} (R : X → X → Type 0) where
  -- a list is alike to itself if each item is
  pub each_refl : ((x : X) → R x x) → (xs : List X) → Each R xs xs
  each_refl r [] = tt
  each_refl r (x ∷ xs) = (r x, each_refl r xs)

  -- lists that are alike, behind lists that are, are alike
  pub each_append : (xs ys vs ws : List X) → Each R xs ys → Each R vs ws → Each R (xs ++ vs) (ys ++ ws)
  each_append [] [] vs ws h k = k
  each_append [] (y ∷ ys) vs ws h k = absurd h
  each_append (x ∷ xs) [] vs ws h k = absurd h
  each_append (x ∷ xs) (y ∷ ys) vs ws h k = (h.0, each_append xs ys vs ws h.1 k)

  -- lists that are alike are as long
  pub each_length : (xs ys : List X) → Each R xs ys → length xs ≡ length ys
  each_length [] [] h = refl
  each_length [] (y ∷ ys) h = absurd h
  each_length (x ∷ xs) [] h = absurd h
  each_length (x ∷ xs) (y ∷ ys) h = let rest : length xs ≡ length ys = each_length xs ys h.1 in omega (arith, rest)

  -- what is made of items that are alike is alike
  pub each_map : {Y : Type 0} (S : Y → Y → Type 0) (f g : X → Y) → ((x y : X) → R x y → S (f x) (g y)) → (xs ys : List X) → Each R xs ys → Each S (map f xs) (map g ys)
  each_map S f g k [] [] h = tt
  each_map S f g k [] (y ∷ ys) h = absurd h
  each_map S f g k (x ∷ xs) [] h = absurd h
  each_map S f g k (x ∷ xs) (y ∷ ys) h = (k x y h.0, each_map S f g k xs ys h.1)

  -- what is the same of items that are alike is the same of the lists
  pub map_same : {Y : Type 0} (f g : X → Y) → ((x y : X) → R x y → f x ≡ g y) → (xs ys : List X) → Each R xs ys → map f xs ≡ map g ys
  map_same f g k [] [] h = refl
  map_same f g k [] (y ∷ ys) h = absurd h
  map_same f g k (x ∷ xs) [] h = absurd h
  map_same f g k (x ∷ xs) (y ∷ ys) h = ap₂ (λ z zs. z ∷ zs) (k x y h.0) (map_same f g k xs ys h.1)

  -- lists made of items that are alike are alike
  pub each_flat : {Y : Type 0} (S : Y → Y → Type 0) (f g : X → List Y) → ((x y : X) → R x y → Each S (f x) (g y)) → (xs ys : List X) → Each R xs ys → Each S (flat_map f xs) (flat_map g ys)
  each_flat S f g k [] [] h = tt
  each_flat S f g k [] (y ∷ ys) h = absurd h
  each_flat S f g k (x ∷ xs) [] h = absurd h
  each_flat {Y = Y} S f g k (x ∷ xs) (y ∷ ys) h = join (f x) (g y) (flat_map f xs) (flat_map g ys) (k x y h.0) (each_flat S f g k xs ys h.1)
    where
      join : (us vs cs ds : List Y) → Each S us vs → Each S cs ds → Each S (us ++ cs) (vs ++ ds)
      join [] [] cs ds p q = q
      join [] (b ∷ vs) cs ds p q = absurd p
      join (a ∷ us) [] cs ds p q = absurd p
      join (a ∷ us) (b ∷ vs) cs ds p q = (p.0, join us vs cs ds p.1 q)

  -- what is picked of items that are alike is alike
  pub each_picked : {Y : Type 0} (S : Y → Y → Type 0) (f : X → Option Y) → ((x y : X) → R x y → Both S (f x) (f y)) → (xs ys : List X) → Each R xs ys → Each S (filter_map f xs) (filter_map f ys)
  each_picked S f k [] [] h = tt
  each_picked S f k [] (y ∷ ys) h = absurd h
  each_picked S f k (x ∷ xs) [] h = absurd h
  each_picked {Y = Y} S f k (x ∷ xs) (y ∷ ys) h = by (f x) (f y) (k x y h.0) (each_picked S f k xs ys h.1)
    where
      by : (o p : Option Y) → Both S o p → Each S (filter_map f xs) (filter_map f ys) → Each S (cons_option o (filter_map f xs)) (cons_option p (filter_map f ys))
      by None None p q = q
      by None (Some b) p q = absurd p
      by (Some a) None p q = absurd p
      by (Some a) (Some b) p q = (p, q)

  -- what is picked the same of items that are alike is the same
  pub picked_same : {Y : Type 0} (f : X → Option Y) → ((x y : X) → R x y → f x ≡ f y) → (xs ys : List X) → Each R xs ys → filter_map f xs ≡ filter_map f ys
  picked_same f k [] [] h = refl
  picked_same f k [] (y ∷ ys) h = absurd h
  picked_same f k (x ∷ xs) [] h = absurd h
  picked_same f k (x ∷ xs) (y ∷ ys) h = ap₂ cons_option (k x y h.0) (picked_same f k xs ys h.1)

  -- tests that agree on items that are alike find alike items, or none in both
  pub both_found : (p q : X → Bool) → ((x y : X) → R x y → p x ≡ q y) → (xs ys : List X) → Each R xs ys → Both R (find p xs) (find q ys)
  both_found p q k [] [] h = tt
  both_found p q k [] (y ∷ ys) h = absurd h
  both_found p q k (x ∷ xs) [] h = absurd h
  both_found p q k (x ∷ xs) (y ∷ ys) h = by_cond (Both R) (p x) (q y) (k x y h.0) (Some x) (find p xs) (Some y) (find q ys) h.0 (both_found p q k xs ys h.1)

  module _ (key : X → ℕ) (same : (x y : X) → R x y → key x ≡ key y) where
    -- a key finds alike rows, or none in both
    pub both_at : (n : ℕ) (xs ys : List X) → Each R xs ys → Both R (row_at key n xs) (row_at key n ys)
    both_at n [] [] h = tt
    both_at n [] (y ∷ ys) h = absurd h
    both_at n (x ∷ xs) [] h = absurd h
    both_at n (x ∷ xs) (y ∷ ys) h =
        by_cond (Both R) (nat_eq (key x) n) (nat_eq (key y) n) (ap (λ (m : ℕ). nat_eq m n) (same x y h.0)) (Some x) (row_at key n xs) (Some y) (row_at key n ys) h.0 (both_at n xs ys h.1)

    -- rows are alike after the one of a key changes alike
    pub each_changed : (n : ℕ) (f g : X → X) → ((x y : X) → R x y → R (f x) (g y)) → (xs ys : List X) → Each R xs ys → Each R (change_row key n f xs) (change_row key n g ys)
    each_changed n f g k [] [] h = tt
    each_changed n f g k [] (y ∷ ys) h = absurd h
    each_changed n f g k (x ∷ xs) [] h = absurd h
    each_changed n f g k (x ∷ xs) (y ∷ ys) h =
        by_cond (Each R) (nat_eq (key x) n) (nat_eq (key y) n) (ap (λ (m : ℕ). nat_eq m n) (same x y h.0)) (f x ∷ xs) (x ∷ change_row key n f xs) (g y ∷ ys) (y ∷ change_row key n g ys)
        (k x y h.0, h.1) (h.0, each_changed n f g k xs ys h.1)

    -- rows are alike after the one of a key is removed
    pub each_removed : (n : ℕ) (xs ys : List X) → Each R xs ys → Each R (remove_row key n xs) (remove_row key n ys)
    each_removed n [] [] h = tt
    each_removed n [] (y ∷ ys) h = absurd h
    each_removed n (x ∷ xs) [] h = absurd h
    each_removed n (x ∷ xs) (y ∷ ys) h =
        by_cond (Each R) (not (nat_eq (key x) n)) (not (nat_eq (key y) n)) (ap (λ (m : ℕ). not (nat_eq m n)) (same x y h.0)) (x ∷ remove_row key n xs) (remove_row key n xs) (y ∷ remove_row key n ys) (remove_row key n ys)
        (h.0, each_removed n xs ys h.1) (each_removed n xs ys h.1)

    -- rows are alike after the same one is put
    pub each_inserted : (row : X) → R row row → (xs ys : List X) → Each R xs ys → Each R (insert_row key row xs) (insert_row key row ys)
    each_inserted row r [] [] h = (r, tt)
    each_inserted row r [] (y ∷ ys) h = absurd h
    each_inserted row r (x ∷ xs) [] h = absurd h
    each_inserted row r (x ∷ xs) (y ∷ ys) h =
        by_cond (Each R) (nat_lt (key row) (key x)) (nat_lt (key row) (key y)) (ap (nat_lt (key row)) (same x y h.0)) (row ∷ x ∷ xs) (cond (nat_eq (key row) (key x)) (row ∷ xs) (x ∷ insert_row key row xs)) (row ∷ y ∷ ys) (cond (nat_eq (key row) (key y)) (row ∷ ys) (y ∷ insert_row key row ys))
        (r, h)
        (by_cond (Each R) (nat_eq (key row) (key x)) (nat_eq (key row) (key y)) (ap (nat_eq (key row)) (same x y h.0)) (row ∷ xs) (x ∷ insert_row key row xs) (row ∷ ys) (y ∷ insert_row key row ys)
        (r, h.1) (h.0, each_inserted row r xs ys h.1))

    -- a key has a row in both, or in none
    pub has_same : (n : ℕ) (xs ys : List X) → Each R xs ys → has_row key n xs ≡ has_row key n ys
    has_same n xs ys h = both_some R (row_at key n xs) (row_at key n ys) (both_at n xs ys h)

    -- rows are alike after the same one is put into lists with a limit
    pub each_put : (limit : ℕ) (row : X) → R row row → (xs ys : List X) → Each R xs ys → Each R (put_row key limit row xs) (put_row key limit row ys)
    each_put limit row r xs ys h =
        by_cond (Each R) (has_row key (key row) xs || nat_lt (length xs) limit) (has_row key (key row) ys || nat_lt (length ys) limit)
        (ap₂ (λ t n. t || nat_lt n limit) (has_same (key row) xs ys h) (each_length xs ys h))
        (insert_row key row xs) xs (insert_row key row ys) ys (each_inserted row r xs ys h) h
