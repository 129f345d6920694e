-- Rows that give records rise by their keys, each above all before it.
use Rattle.std.proofs.Common.{◌≡◌, ℕ, ◌<◌, pos, List, [], ◌∷◌, ◌++◌, refl, sym, ◌∙◌, subst, arith, nat_cmp, int_cmp, Less, Some, None}
use Rattle.std.specs.List.{AllByRecursion}
use Rattle.std.specs.Cmp.Lexicographic.{slice_cmp}
use Rattle.std.proofs.lemmas.Bool.{lt-ltb}
use Rattle.std.proofs.lemmas.Cmp.{tied_itself}
use Rattle.sqlite_value.specs.declared.value.Value.TheVariants.{Text}
use Rattle.sqlite_value.specs.Order.{Row, column, value_cmp}
use Rattle.sqlite_value.proofs.OrderLemmas.{value_cmp_total, value_cmp-Int, value_cmp-Text}
use Rattle.sqlite_trees.specs.Tree as tree
use Rattle.mqtt_records.specs.declared.state.session.Session.{Session}
use Rattle.mqtt_records.specs.state.Session.{birth_of, place_of, number_of, copy_place}
use Rattle.mqtt_records.specs.lists.Order.{IsAbove, IsAscending}
use Rattle.mqtt_store_rows.specs.values.Values.{number}
use Rattle.mqtt_store_rows.specs.values.Rows.{SaysWill, SaysSubscription, SaysOpen, SaysCopy}
use Rattle.mqtt_store_rows.specs.values.Lists.{AreRows, AllOf, Takes}
use Rattle.mqtt_store_rows.specs.values.Gives.{Parts, no_parts, list_of, AreSessions, IsWithin}
use Rattle.mqtt_store_database.specs.asking.Listing.{by_columns}

-- each row is above those before it
abbrev pub Rise : List ℕ → List Row → Type 0
Rise ats = tree.IsAscending (λ r s. by_columns ats r s ≡ Less)

-- ---- two rows

less_number : (m n : ℕ) → m < n → value_cmp (number m) (number n) ≡ Less
less_number m n h =
    let below : int_cmp (pos m) (pos n) ≡ Less = rw (lt-ltb m n h) refl in
    value_cmp-Int (pos m) (pos n) ∙ below

first_less : (ats : List ℕ) (r s : Row) (b c : ℕ) → column r 0 ≡ number b → column s 0 ≡ number c → b < c → by_columns (0 ∷ ats) r s ≡ Less
first_less ats r s b c h k less = rw (h, k, less_number b c less) refl

second_less : (at : ℕ) (r s : Row) (b p q : ℕ) → column r 0 ≡ number b → column s 0 ≡ number b → column r at ≡ number p → column s at ≡ number q → p < q → by_columns (0 ∷ at ∷ []) r s ≡ Less
second_less at r s b p q h k i j less = rw (h, k, i, j, tied_itself value_cmp_total (number b), less_number p q less) refl

-- rows with texts that rise are in order
pub text_less : (r s : Row) (t u : List ℕ) → column r 0 ≡ Text t → column s 0 ≡ Text u → slice_cmp nat_cmp t u ≡ Less → by_columns (0 ∷ []) r s ≡ Less
text_less r s t u h k less = rw (h, k, value_cmp-Text t u, less) refl

-- ---- a list by one key

module _ {X : Type 0} (Says : X → Row → Type 0) (key : X → ℕ) (says : (x : X) (row : Row) → Says x row → column row 0 ≡ number (key x)) where
  above : (r : Row) (n : ℕ) (rows : List Row) (xs : List X) → column r 0 ≡ number n → AreRows Says rows xs → IsAbove key n xs → AllByRecursion (λ s. by_columns (0 ∷ []) r s ≡ Less) rows
  above r n [] xs here are up = tt
  above r n (row ∷ rows) [] here are up = absurd are
  above r n (row ∷ rows) (x ∷ xs) here are up = (first_less [] r row n (key x) here (says x row are.0) up.0, above r n rows xs here are.1 up.1)

  -- rows of items in the order of their keys rise by the column of the key
  pub rows_rise : (rows : List Row) (xs : List X) → AreRows Says rows xs → IsAscending key xs → Rise (0 ∷ []) rows
  rows_rise [] xs are up = tt
  rows_rise (row ∷ rows) [] are up = absurd are
  rows_rise (row ∷ rows) (x ∷ xs) are up = (above row (key x) rows xs (says x row are.0) are.1 up.0, rows_rise rows xs are.1 up.1)

-- ---- the rows of sessions

-- the row is of a session of a later birth
abbrev pub Later : ℕ → Row → Type 0
Later n row = (b : ℕ) × (n < b) × (column row 0 ≡ number b)

-- all are, and they rise
abbrev pub AllLater : ℕ → List ℕ → List Row → Type 0
AllLater n ats rows = AllByRecursion (Later n) rows × Rise (0 ∷ ats) rows

-- those of one session's list
module _ {X : Type 0} (Says : X → Row → Type 0) (key : X → ℕ) (at : ℕ) (says : (x : X) (row : Row) → Says x row → column row at ≡ number (key x)) where
  part_above : (birth : ℕ) (r : Row) (n : ℕ) (rows : List Row) (xs : List X) → column r 0 ≡ number birth → column r at ≡ number n → AllOf birth rows → AreRows Says rows xs → IsAbove key n xs
      → AllByRecursion (λ s. by_columns (0 ∷ at ∷ []) r s ≡ Less) rows
  part_above birth r n [] xs of_r here mine are up = tt
  part_above birth r n (row ∷ rows) [] of_r here mine are up = absurd are
  part_above birth r n (row ∷ rows) (x ∷ xs) of_r here mine are up =
      (second_less at r row birth n (key x) of_r mine.0 here (says x row are.0) up.0, part_above birth r n rows xs of_r here mine.1 are.1 up.1)

  -- they rise
  pub part_rises : (birth : ℕ) (rows : List Row) (xs : List X) → AllOf birth rows → AreRows Says rows xs → IsAscending key xs → Rise (0 ∷ at ∷ []) rows
  part_rises birth [] xs mine are up = tt
  part_rises birth (row ∷ rows) [] mine are up = absurd are
  part_rises birth (row ∷ rows) (x ∷ xs) mine are up =
      (part_above birth row (key x) rows xs mine.0 (says x row are.0) mine.1 are.1 up.0, part_rises birth rows xs mine.1 are.1 up.1)

-- a later session's row is above
later_above : (ats : List ℕ) (birth : ℕ) (r : Row) (rest : List Row) → column r 0 ≡ number birth → AllByRecursion (Later birth) rest → AllByRecursion (λ s. by_columns (0 ∷ ats) r s ≡ Less) rest
later_above ats birth r [] here all = tt
later_above ats birth r (s ∷ rest) here all = (first_less ats r s birth all.0.0 here all.0.2 all.0.1, later_above ats birth r rest here all.1)

both_all : {X : Type 0} (P : X → Type 0) (xs ys : List X) → AllByRecursion P xs → AllByRecursion P ys → AllByRecursion P (xs ++ ys)
both_all P [] ys h k = k
both_all P (x ∷ xs) ys h k = (h.0, both_all P xs ys h.1 k)

still_later : (n m : ℕ) (rows : List Row) → n < m → AllByRecursion (Later m) rows → AllByRecursion (Later n) rows
still_later n m [] less all = tt
still_later n m (r ∷ rows) less all = let more = all.0.1 in ((all.0.0, omega (arith, less, more), all.0.2), still_later n m rows less all.1)

-- a session's rows, which rise, and then those of later sessions
goes_on : (ats : List ℕ) (n birth : ℕ) (front rest : List Row) → n < birth → AllOf birth front → Rise (0 ∷ ats) front → AllLater birth ats rest → AllLater n ats (front ++ rest)
goes_on ats n birth [] rest less mine up later = (still_later n birth rest less later.0, later.1)
goes_on ats n birth (r ∷ front) rest less mine up later =
    let more = goes_on ats n birth front rest less mine.1 up.1 later in
    (((birth, less, mine.0), more.0), (both_all (λ s. by_columns (0 ∷ ats) r s ≡ Less) front rest up.0 (later_above ats birth r rest mine.0 later.0), more.1))

-- if a session's rows at the front rise, and those behind them do, which are of later sessions
pub takes_on : {X : Type 0} (Says : X → Row → Type 0) (ats : List ℕ) (n birth : ℕ) (part : List X) (rows rest : List Row) → n < birth → (it : Takes Says birth part rows rest) → Rise (0 ∷ ats) it.front
    → AllLater birth ats rest → AllLater n ats rows
takes_on Says ats n birth part rows rest less it up later = subst (AllLater n ats) (sym it.parts) (goes_on ats n birth it.front rest less it.mine up later)

will_rises : (o : _) (front : List Row) → AreRows SaysWill front (list_of o) → Rise (0 ∷ []) front
will_rises None [] are = tt
will_rises None (r ∷ front) are = absurd are
will_rises (Some w) [] are = tt
will_rises (Some w) (r ∷ []) are = (tt, tt)
will_rises (Some w) (r ∷ s ∷ front) are = absurd are.1

-- the tables of what sessions have
pub record PartsRise (n : ℕ) (parts : Parts) : Type 0 where
  pub wills : AllLater n [] parts.wills
  pub subscriptions : AllLater n (2 ∷ []) parts.subscriptions
  pub inbound : AllLater n (1 ∷ []) parts.inbound
  pub copies : AllLater n (1 ∷ []) parts.copies

none_rise : (n : ℕ) → PartsRise n no_parts
none_rise n = record { wills = (tt, tt); subscriptions = (tt, tt); inbound = (tt, tt); copies = (tt, tt) }

-- the parts of sessions rise as their tables do
pub parts_rise : (n : ℕ) (rows : List Row) (parts : Parts) (ss : List Session) → AreSessions rows parts ss → IsAbove birth_of n ss → IsAscending birth_of ss → AllByRecursion IsWithin ss → PartsRise n parts
parts_rise n [] parts [] are low up within = subst (PartsRise n) (sym are) (none_rise n)
parts_rise n [] parts (s ∷ ss) are low up within = absurd are
parts_rise n (row ∷ rows) parts [] are low up within = absurd are
parts_rise n (row ∷ rows) parts (s ∷ ss) are low up within =
    let rest = are.1.0 in
    let takes = are.1.1 in
    let later = parts_rise s.birth rows rest ss are.1.2 up.0 up.1 within.1 in
    let here = within.0 in
    record {
      wills = takes_on SaysWill [] n s.birth (list_of s.will) parts.wills rest.wills low.0 takes.will (will_rises s.will takes.will.front takes.will.are) later.wills;
      subscriptions = takes_on SaysSubscription (2 ∷ []) n s.birth s.subscriptions parts.subscriptions rest.subscriptions low.0 takes.subscriptions
          (part_rises SaysSubscription place_of 2 (λ x r h. h.place) s.birth takes.subscriptions.front s.subscriptions takes.subscriptions.mine takes.subscriptions.are here.subscriptions.ascending) later.subscriptions;
      inbound = takes_on SaysOpen (1 ∷ []) n s.birth s.inbound parts.inbound rest.inbound low.0 takes.inbound
          (part_rises SaysOpen number_of 1 (λ x r h. h.identifier) s.birth takes.inbound.front s.inbound takes.inbound.mine takes.inbound.are here.inbound.ascending) later.inbound;
      copies = takes_on SaysCopy (1 ∷ []) n s.birth s.queue parts.copies rest.copies low.0 takes.queue
          (part_rises SaysCopy copy_place 1 (λ x r h. h.place) s.birth takes.queue.front s.queue takes.queue.mine takes.queue.are here.queue.ascending) later.copies;
    }

-- births are from 1
pub all_counted : (rows : List Row) (parts : Parts) (ss : List Session) → AreSessions rows parts ss → IsAbove birth_of 0 ss
all_counted [] parts [] are = tt
all_counted [] parts (s ∷ ss) are = absurd are
all_counted (row ∷ rows) parts [] are = absurd are
all_counted (row ∷ rows) parts (s ∷ ss) are = (are.0.birth_range.0, all_counted rows are.1.0 ss are.1.2)

-- ---- the rows of `session`

columns_above : (r : Row) (n : ℕ) (rows : List Row) (parts : Parts) (ss : List Session) → column r 0 ≡ number n → AreSessions rows parts ss → IsAbove birth_of n ss → AllByRecursion (λ s. by_columns (0 ∷ []) r s ≡ Less) rows
columns_above r n [] parts ss here are up = tt
columns_above r n (row ∷ rows) parts [] here are up = absurd are
columns_above r n (row ∷ rows) parts (s ∷ ss) here are up = (first_less [] r row n s.birth here are.0.birth up.0, columns_above r n rows are.1.0 ss here are.1.2 up.1)

-- rows of sessions rise by birth
pub columns_rise : (rows : List Row) (parts : Parts) (ss : List Session) → AreSessions rows parts ss → IsAscending birth_of ss → Rise (0 ∷ []) rows
columns_rise [] parts ss are up = tt
columns_rise (row ∷ rows) parts [] are up = absurd are
columns_rise (row ∷ rows) parts (s ∷ ss) are up = (columns_above row s.birth rows are.1.0 ss are.0.birth are.1.2 up.0, columns_rise rows are.1.0 ss are.1.2 up.1)
