-- Rows and what they say, list by list.
use Rattle.std.proofs.Common.{◌≡◌, ℕ, zero, suc, ◌+◌, ◌-◌, ◌<◌, ◌≤◌, List, [], ◌∷◌, ◌++◌, length, take, drop, get_or, refl, sym, ap, subst, ◌∙◌, arith}
use Rattle.std.proofs.lemmas.List.{take_more, take-append-drop, drop_all, take_all, length-take-le}
use Rattle.std.proofs.Math.Seq.{drop-cons}
use Rattle.sqlite_value.specs.Order.{Row}
use Rattle.mqtt_records.specs.lists.Order.{IsAbove, IsBelow, IsAscending}
use Rattle.std.specs.Prelude.{Option, Some, None}
use Rattle.mqtt_records.specs.declared.messages.message.Will.{Will}
use Rattle.mqtt_store_rows.specs.values.Rows.{SaysWill}
use Rattle.mqtt_store_rows.specs.values.Lists.{AreRows, IsOf, AllOf, BeginsOther, TakesAll}
use Rattle.mqtt_store_rows.specs.values.Gives.{list_of}

module _ {X : Type 0} (IsRow : X → Row → Type 0) where
  -- a row more that says an item, behind rows that say the others
  pub are_push : (rows : List Row) (all : List X) (row : Row) (x : X) → AreRows IsRow rows all → IsRow x row → AreRows IsRow (rows ++ row ∷ []) (all ++ x ∷ [])
  are_push [] [] row x h here = (here, tt)
  are_push [] (y ∷ all) row x h here = absurd h
  are_push (r ∷ rows) [] row x h here = absurd h
  are_push (r ∷ rows) (y ∷ all) row x h here = (h.0, are_push rows all row x h.1 here)

  -- once the row at a place says an item, the rows up to it say all so far
  pub are_more : (rows : List Row) (all : List X) (i : ℕ) (row : Row) (x : X) → i < length rows → row ≡ get_or rows i row → AreRows IsRow (take i rows) all → IsRow x row → AreRows IsRow (take (i + 1) rows) (all ++ x ∷ [])
  are_more rows all i row x lt is h here = rw (take_more rows i row lt, ← is) (are_push (take i rows) all row x h here)

  -- what another list says in the place of a row
  pub are_at : (front : List Row) (row : Row) (rest : List Row) (all : List X) → AreRows IsRow (front ++ row ∷ rest) all → (x : X) × IsRow x row
  are_at [] row rest [] h = absurd h
  are_at [] row rest (x ∷ all) h = (x, h.0)
  are_at (r ∷ front) row rest [] h = absurd h
  are_at (r ∷ front) row rest (x ∷ all) h = are_at front row rest all h.1

  -- there are as many items as rows that say them
  pub same_length : (rows : List Row) (all : List X) → AreRows IsRow rows all → length all ≡ length rows
  same_length [] [] h = refl
  same_length [] (x ∷ all) h = absurd h
  same_length (r ∷ rows) [] h = absurd h
  same_length (r ∷ rows) (x ∷ all) h = let more = same_length rows all h.1 in omega (arith, more)

module _ {X : Type 0} (key : X → ℕ) where
  -- the key of the last item, or n
  abbrev pub last_from : ℕ → List X → ℕ
  last_from n [] = n
  last_from n (x ∷ xs) = last_from (key x) xs

  -- the key of the last item is that of the one that came last
  pub last_push : (n : ℕ) (xs : List X) (x : X) → last_from n (xs ++ x ∷ []) ≡ key x
  last_push n [] x = refl
  last_push n (y ∷ ys) x = last_push (key y) ys x

  -- an item with a higher key, behind others, leaves all keys up to its own
  pub below_push : (n : ℕ) (xs : List X) (x : X) → IsBelow key (n + 1) xs → n < key x → IsBelow key (key x + 1) (xs ++ x ∷ [])
  below_push n [] x low less = (omega arith, tt)
  below_push n (y ∷ ys) x low less = let h = low.0 in (omega (arith, h, less), below_push n ys x low.1 less)

  -- what is at most one key is below a greater
  pub below_less : (n m : ℕ) (xs : List X) → IsBelow key (n + 1) xs → n < m → IsBelow key m xs
  below_less n m [] low less = tt
  below_less n m (y ∷ ys) low less = let h = low.0 in (omega (arith, h, less), below_less n m ys low.1 less)

  above_push : (n : ℕ) (xs : List X) (x : X) → IsAbove key n xs → n < key x → IsAbove key n (xs ++ x ∷ [])
  above_push n [] x up less = (less, tt)
  above_push n (y ∷ ys) x up less = (up.0, above_push n ys x up.1 less)

  -- an item whose key is above all others goes behind them in order
  pub ascending_push : (xs : List X) (x : X) → IsAscending key xs → IsBelow key (key x) xs → IsAscending key (xs ++ x ∷ [])
  ascending_push [] x up low = (tt, tt)
  ascending_push (y ∷ ys) x up low = (above_push (key y) ys x up.0 low.0, ascending_push ys x up.1 low.1)

  -- if every row's key is above 0, so are those of its items
  pub above_zero : (IsRow : X → Row → Type 0) → ((x : X) (row : Row) → IsRow x row → 0 < key x) → (rows : List Row) (xs : List X) → AreRows IsRow rows xs → IsAbove key 0 xs
  above_zero IsRow from [] [] h = tt
  above_zero IsRow from [] (x ∷ xs) h = absurd h
  above_zero IsRow from (r ∷ rows) [] h = tt
  above_zero IsRow from (r ∷ rows) (x ∷ xs) h = (from x r h.0, above_zero IsRow from rows xs h.1)

  -- a row further on has a higher key in every list that ascends and has the rows
  pub rises : (IsRow : X → Row → Type 0) → ((x y : X) (row : Row) → IsRow x row → IsRow y row → x ≡ y)
      → (n : ℕ) (front : List Row) (row : Row) (rest : List Row) (all others : List X) (x : X)
      → AreRows IsRow front all → AreRows IsRow (front ++ row ∷ rest) others → IsRow x row → IsAbove key n others → IsAscending key others → last_from n all < key x
  rises IsRow one n [] row rest [] [] x h hs is above up = absurd hs
  rises IsRow one n [] row rest [] (y ∷ others) x h hs is above up = subst (λ (z : X). n < key z) (one y x row hs.0 is) above.0
  rises IsRow one n [] row rest (z ∷ all) others x h hs is above up = absurd h
  rises IsRow one n (r ∷ front) row rest [] others x h hs is above up = absurd h
  rises IsRow one n (r ∷ front) row rest (z ∷ all) [] x h hs is above up = absurd hs
  rises IsRow one n (r ∷ front) row rest (z ∷ all) (y ∷ others) x h hs is above up =
      rises IsRow one (key z) front row rest all others x h.1 hs.1 is (subst (λ (w : X). IsAbove key (key w) others) (one y z r hs.0 h.0) up.0) up.1

-- rows before a place, the row there, and those behind it
pub seam : (rows : List Row) (i : ℕ) (row : Row) → i < length rows → row ≡ get_or rows i row → rows ≡ take i rows ++ row ∷ drop (i + 1) rows
seam rows i row lt is =
    let next : suc i ≡ i + 1 = omega arith in
    let rest : drop i rows ≡ row ∷ drop (i + 1) rows = drop-cons rows i row lt ∙ (ap (λ (r : Row). r ∷ drop (suc i) rows) (sym is) ∙ ap (λ (n : ℕ). row ∷ drop n rows) next) in
    sym (take-append-drop i rows) ∙ ap (λ (l : List Row). take i rows ++ l) rest

-- where the rows of one session at the front end, the rows of another begin
pub same_front : (birth n : ℕ) (rows front rest : List Row) → rows ≡ front ++ rest → AllOf birth front → BeginsOther birth rest → n ≤ length rows → AllOf birth (take n rows) → BeginsOther birth (drop n rows) → take n rows ≡ front
same_front birth n rows front rest is all other le mine ends = go n front (subst (λ (l : List Row). n ≤ length l) is le) (subst (λ (l : List Row). AllOf birth (take n l)) is mine) (subst (λ (l : List Row). BeginsOther birth (drop n l)) is ends) all other is
  where
    there : (n : ℕ) (front rest : List Row) → n ≤ length (front ++ rest) → AllOf birth (take n (front ++ rest)) → BeginsOther birth (drop n (front ++ rest)) → AllOf birth front → BeginsOther birth rest → take n (front ++ rest) ≡ front
    there zero [] rest le mine ends all other = refl
    there zero (r ∷ front) rest le mine ends all other = absurd (ends all.0)
    there (suc n) [] [] le mine ends all other = absurd (omega (arith, le))
    there (suc n) [] (r ∷ rest) le mine ends all other = absurd (other mine.0)
    there (suc n) (r ∷ front) rest le mine ends all other = ap (λ (l : List Row). r ∷ l) (there n front rest (omega (arith, le)) mine.1 ends all.1 other)

    go : (n : ℕ) (front : List Row) → n ≤ length (front ++ rest) → AllOf birth (take n (front ++ rest)) → BeginsOther birth (drop n (front ++ rest)) → AllOf birth front → BeginsOther birth rest → rows ≡ front ++ rest → take n rows ≡ front
    go n front le mine ends all other is = ap (take n) is ∙ there n front rest le mine ends all other

-- one more row of the session at the front
pub all_of_more : (birth n : ℕ) (rows : List Row) (row : Row) → n < length rows → row ≡ get_or rows n row → AllOf birth (take n rows) → IsOf birth row → AllOf birth (take (n + 1) rows)
all_of_more birth n rows row lt is all here = rw (take_more rows n row lt, ← is) (push (take n rows) all)
  where
    push : (l : List Row) → AllOf birth l → AllOf birth (l ++ row ∷ [])
    push [] all = (here, tt)
    push (r ∷ l) all = (all.0, push l all.1)

-- if the row at a place is of another session, or there is none
pub begins_at : (birth n : ℕ) (rows : List Row) (row : Row) → n < length rows → row ≡ get_or rows n row → (IsOf birth row → ⊥) → BeginsOther birth (drop n rows)
begins_at birth n rows row lt is other = subst (BeginsOther birth) (sym (drop-cons rows n row lt ∙ ap (λ (r : Row). r ∷ drop (suc n) rows) (sym is))) other

-- behind the last row another session begins
pub begins_end : (birth n : ℕ) (rows : List Row) → length rows ≤ n → BeginsOther birth (drop n rows)
begins_end birth n rows le = subst (BeginsOther birth) (sym (drop_all n rows le)) tt

-- a session has one Will at most
pub two_wills : (birth n : ℕ) (rows rest : List Row) (will : Option Will) → TakesAll SaysWill birth (list_of will) rows rest → n ≤ length rows → AllOf birth (take n rows) → BeginsOther birth (drop n rows) → 1 < n → ⊥
two_wills birth n rows rest will h le mine ends more =
    let front = h.takes.front in
    let whole : take n rows ≡ front = same_front birth n rows front rest h.takes.parts h.takes.mine h.ends le mine ends in
    let count = same_length SaysWill front (list_of will) h.takes.are in
    let long : length (take n rows) ≡ n = length-take-le n rows le in
    let same : length (take n rows) ≡ length front = ap length whole in
    let few = at_most will in
    omega (arith, count, long, same, few, more)
  where
    at_most : (will : Option Will) → length (list_of will) ≤ 1
    at_most None = omega arith
    at_most (Some will) = omega arith

-- the one row at the front says the Will
pub one_will : (birth n : ℕ) (rows : List Row) (row : Row) (will : Will) → n ≡ 1 → n ≤ length rows → AllOf birth (take n rows) → BeginsOther birth (drop n rows) → row ≡ get_or rows 0 row → SaysWill will row
    → TakesAll SaysWill birth (will ∷ []) rows (take (length rows - 1) (drop 1 rows))
one_will birth n [] row will one le mine ends is says = absurd (omega (arith, one, le))
one_will birth n (r ∷ rows) row will one le mine ends is says =
    let mine_one = subst (λ (k : ℕ). AllOf birth (take k (r ∷ rows))) one mine in
    let ends_one = subst (λ (k : ℕ). BeginsOther birth (drop k (r ∷ rows))) one ends in
    let whole : take (length (r ∷ rows) - 1) rows ≡ rows = take_all (length (r ∷ rows) - 1) rows (omega arith) in
    rw whole record {
      takes = record { front = r ∷ []; parts = refl; mine = mine_one; are = (subst (SaysWill will) is says, tt) };
      ends = ends_one;
    }
