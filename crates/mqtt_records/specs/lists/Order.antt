-- Lists of rows in the order of their keys: what is found, put and removed by key.
use Rattle.std.specs.Prelude.{◌≡◌, ℕ, zero, suc, ◌<◌, ◌≤◌, Bool, true, cond, not, ◌||◌, List, [], ◌∷◌, length, filter, nat_eq, nat_lt, Option, Some, None, is_some, slice_get, Result, Ok, Err}

module _ {X : Type 0} (key : X → ℕ) where
  -- each key is above n
  abbrev pub IsAbove : ℕ → List X → Type 0
  IsAbove n [] = Unit {0}
  IsAbove n (x ∷ xs) = (n < key x) × IsAbove n xs

  -- each key is above those before it
  abbrev pub IsAscending : List X → Type 0
  IsAscending [] = Unit {0}
  IsAscending (x ∷ xs) = IsAbove (key x) xs × IsAscending xs

  -- each key is below n
  abbrev pub IsBelow : ℕ → List X → Type 0
  IsBelow n [] = Unit {0}
  IsBelow n (x ∷ xs) = (key x < n) × IsBelow n xs

  -- the row with the key k
  abbrev pub row_at : ℕ → List X → Option X
  row_at k [] = None
  row_at k (x ∷ xs) = cond (nat_eq (key x) k) (Some x) (row_at k xs)

  -- the row with the greatest key
  abbrev pub last_row : List X → Option X
  last_row [] = None
  last_row (x ∷ []) = Some x
  last_row (x ∷ y ∷ ys) = last_row (y ∷ ys)

  abbrev pub has_row : ℕ → List X → Bool
  has_row k xs = is_some (row_at k xs)

  -- the row in its place, instead of one with its key
  abbrev pub insert_row : X → List X → List X
  insert_row row [] = row ∷ []
  insert_row row (x ∷ xs) =
      cond (nat_lt (key row) (key x)) (row ∷ x ∷ xs)
      (cond (nat_eq (key row) (key x)) (row ∷ xs) (x ∷ insert_row row xs))

  -- the row put by its key; a list with `limit` rows takes no further key
  abbrev pub put_row : ℕ → X → List X → List X
  put_row limit row xs = cond (has_row (key row) xs || nat_lt (length xs) limit) (insert_row row xs) xs

  -- there is a row with the key k, or room for one
  abbrev pub HasRoomFor : ℕ → ℕ → List X → Type 0
  HasRoomFor limit k xs = (has_row k xs || nat_lt (length xs) limit) ≡ true

  -- the rows without that of the key k
  abbrev pub remove_row : ℕ → List X → List X
  remove_row k xs = filter (λ x. not (nat_eq (key x) k)) xs

  -- the row with the key k changed
  abbrev pub change_row : ℕ → (X → X) → List X → List X
  change_row k f [] = []
  change_row k f (x ∷ xs) = cond (nat_eq (key x) k) (f x ∷ xs) (x ∷ change_row k f xs)

  -- how many rows at the front have lower keys
  abbrev pub front_len : ℕ → List X → ℕ
  front_len k [] = zero
  front_len k (x ∷ xs) = cond (nat_lt (key x) k) (suc (front_len k xs)) zero

  -- a search ended at the row with the key k, or where such a row would stand
  abbrev pub IsFound : ℕ → List X → Result ℕ ℕ → Type 0
  IsFound k xs (Ok i) = (i ≡ front_len k xs) × (slice_get xs i ≡ row_at k xs) × (has_row k xs ≡ true)
  IsFound k xs (Err i) = (i ≡ front_len k xs) × (row_at k xs ≡ None)

-- rows in the order of their keys, each key once, and no more of them than the limit
pub record IsTable {X : Type 0} (key : X → ℕ) (limit : ℕ) (rows : List X) : Type 0 where
  pub ascending : IsAscending key rows
  pub within : length rows ≤ limit
