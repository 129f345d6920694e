-- Orders of release in a queue, after a change of it.
use Rattle.std.proofs.Common.{◌≡◌, ℕ, ◌<◌, ◌≤◌, Bool, ◌||◌, List, [], ◌∷◌, length, filter, map, nat_eq, nat_lt, refl, sym, ap, ◌∙◌, inl, inr, arith}
use Rattle.std.specs.Prelude.{◌≢◌, Option, Some, None, filter_map, max}
use Rattle.std.specs.List.{AllByRecursion}
use Rattle.std.proofs.Math.Nat.{le-max_left, le-max_right}
use Rattle.std.proofs.lemmas.Bool.{cases_Bool}
use Rattle.mqtt_base.specs.Phases.{order_of}
use Rattle.mqtt_base.specs.declared.session.Phase.{Phase}
use Rattle.mqtt_base.specs.declared.session.Phase.TheVariants.{Waiting, Sent, Released, Oversize}
use Rattle.mqtt_flow.specs.outbound.Queue.{also, greatest_order}
use Rattle.mqtt_keep.specs.lawful.Lawful.{order_in}
use Rattle.mqtt_records.specs.messages.Queue.{CopyRow}
use Rattle.mqtt_records.specs.state.Session.{copy_place, in_phase}
use Rattle.mqtt_records.specs.lists.Distinct.{AllDiffer}
use Rattle.mqtt_records.specs.lists.Order.{has_row, insert_row, put_row, change_row}
use Rattle.mqtt_rules.specs.step.State.{entry_on}
use Rattle.mqtt_rules.proofs.step_lemmas.numbers.Copies.{each_more}

-- ---- the orders of a queue, copy by copy

abbrev pub orders : List CopyRow → List ℕ
orders [] = []
orders (e ∷ es) = also (order_in e.phase) (orders es)

also_is : (o : Option ℕ) (e : CopyRow) (es : List CopyRow) → order_in e.phase ≡ o → filter_map (λ (row : CopyRow). order_in row.phase) (e ∷ es) ≡ also o (filter_map (λ row. order_in row.phase) es)
also_is None e es is = rw is refl
also_is (Some n) e es is = rw is refl

-- the orders of release of a queue are those of its phases
pub orders_are : (es : List CopyRow) → filter_map (λ (row : CopyRow). order_in row.phase) es ≡ orders es
orders_are [] = refl
orders_are (e ∷ es) = also_is (order_in e.phase) e es refl ∙ ap (also (order_in e.phase)) (orders_are es)

-- an order that none has, if it is one
abbrev pub IsFresh : Option ℕ → List ℕ → Type 0
IsFresh None ns = Unit {0}
IsFresh (Some n) ns = AllByRecursion (λ m. n ≢ m) ns

abbrev Has : (ℕ → Type 0) → Option ℕ → Type 0
Has P None = Unit {0}
Has P (Some n) = P n

each_also : (P : ℕ → Type 0) (o : Option ℕ) (ns : List ℕ) → Has P o → AllByRecursion P ns → AllByRecursion P (also o ns)
each_also P None ns first h = h
each_also P (Some n) ns first h = (first, h)

first_also : (P : ℕ → Type 0) (o : Option ℕ) (ns : List ℕ) → AllByRecursion P (also o ns) → Has P o
first_also P None ns h = tt
first_also P (Some n) ns h = h.0

rest_also : (P : ℕ → Type 0) (o : Option ℕ) (ns : List ℕ) → AllByRecursion P (also o ns) → AllByRecursion P ns
rest_also P None ns h = h
rest_also P (Some n) ns h = h.1

differ_also : (o : Option ℕ) (ns : List ℕ) → IsFresh o ns → AllDiffer ns → AllDiffer (also o ns)
differ_also None ns fresh h = h
differ_also (Some n) ns fresh h = (fresh, h)

also_fresh : (o : Option ℕ) (ns : List ℕ) → AllDiffer (also o ns) → IsFresh o ns
also_fresh None ns h = tt
also_fresh (Some n) ns h = h.0

also_differ : (o : Option ℕ) (ns : List ℕ) → AllDiffer (also o ns) → AllDiffer ns
also_differ None ns h = h
also_differ (Some n) ns h = h.1

fresh_more : (o : Option ℕ) (ms ns : List ℕ) → ((P : ℕ → Type 0) → AllByRecursion P ms → AllByRecursion P ns) → IsFresh o ms → IsFresh o ns
fresh_more None ms ns sub h = tt
fresh_more (Some n) ms ns sub h = sub (λ m. n ≢ m) h

-- ---- a copy leaves

each_left : (P : ℕ → Type 0) (keep : CopyRow → Bool) (es : List CopyRow) → AllByRecursion P (orders es) → AllByRecursion P (orders (filter keep es))
each_left P keep [] h = tt
each_left P keep (e ∷ es) h = elim (cases_Bool (keep e)) [
  | inl stays ↦ rw stays (each_also P (order_in e.phase) (orders (filter keep es)) (first_also P (order_in e.phase) (orders es) h) (each_left P keep es (rest_also P (order_in e.phase) (orders es) h)))
  | inr goes ↦ rw goes (each_left P keep es (rest_also P (order_in e.phase) (orders es) h))
]

-- copies that leave leave orders that differ
pub left_differ : (keep : CopyRow → Bool) (es : List CopyRow) → AllDiffer (orders es) → AllDiffer (orders (filter keep es))
left_differ keep [] h = tt
left_differ keep (e ∷ es) h = elim (cases_Bool (keep e)) [
  | inl stays ↦ rw stays (differ_also (order_in e.phase) (orders (filter keep es))
      (fresh_more (order_in e.phase) (orders es) (orders (filter keep es)) (λ P q. each_left P keep es q) (also_fresh (order_in e.phase) (orders es) h)) (left_differ keep es (also_differ (order_in e.phase) (orders es) h)))
  | inr goes ↦ rw goes (left_differ keep es (also_differ (order_in e.phase) (orders es) h))
]

-- ---- a copy without one enters

each_entered : (P : ℕ → Type 0) (x : CopyRow) (es : List CopyRow) → order_in x.phase ≡ None → AllByRecursion P (orders es) → AllByRecursion P (orders (insert_row copy_place x es))
each_entered P x [] none h = rw none tt
each_entered P x (e ∷ es) none h = elim (cases_Bool (nat_lt x.place e.place)) [
  | inl before ↦ rw (before, none) h
  | inr behind ↦ elim (cases_Bool (nat_eq x.place e.place)) [
    | inl same ↦ rw (behind, same, none) (rest_also P (order_in e.phase) (orders es) h)
    | inr other ↦ rw (behind, other) (each_also P (order_in e.phase) (orders (insert_row copy_place x es)) (first_also P (order_in e.phase) (orders es) h) (each_entered P x es none (rest_also P (order_in e.phase) (orders es) h)))
  ]
]

entered_differ : (x : CopyRow) (es : List CopyRow) → order_in x.phase ≡ None → AllDiffer (orders es) → AllDiffer (orders (insert_row copy_place x es))
entered_differ x [] none h = rw none tt
entered_differ x (e ∷ es) none h = elim (cases_Bool (nat_lt x.place e.place)) [
  | inl before ↦ rw (before, none) h
  | inr behind ↦ elim (cases_Bool (nat_eq x.place e.place)) [
    | inl same ↦ rw (behind, same, none) (also_differ (order_in e.phase) (orders es) h)
    | inr other ↦ rw (behind, other) (differ_also (order_in e.phase) (orders (insert_row copy_place x es))
        (fresh_more (order_in e.phase) (orders es) (orders (insert_row copy_place x es)) (λ P q. each_entered P x es none q) (also_fresh (order_in e.phase) (orders es) h)) (entered_differ x es none (also_differ (order_in e.phase) (orders es) h)))
  ]
]

-- a copy without an order may come
pub put_differ : (limit : ℕ) (x : CopyRow) (es : List CopyRow) → order_in x.phase ≡ None → AllDiffer (orders es) → AllDiffer (orders (put_row copy_place limit x es))
put_differ limit x es none h = elim (cases_Bool (has_row copy_place x.place es || nat_lt (length es) limit)) [
  | inl room ↦ rw room (entered_differ x es none h)
  | inr full ↦ rw full h
]

-- ---- a copy's phase changes

each_marked : (P : ℕ → Type 0) (place : ℕ) (phase : Phase) (es : List CopyRow) → Has P (order_in phase) → AllByRecursion P (orders es) → AllByRecursion P (orders (change_row copy_place place (in_phase phase) es))
each_marked P place phase [] new h = tt
each_marked P place phase (e ∷ es) new h = elim (cases_Bool (nat_eq e.place place)) [
  | inl here ↦ rw here (each_also P (order_in phase) (orders es) new (rest_also P (order_in e.phase) (orders es) h))
  | inr other ↦ rw other (each_also P (order_in e.phase) (orders (change_row copy_place place (in_phase phase) es)) (first_also P (order_in e.phase) (orders es) h) (each_marked P place phase es new (rest_also P (order_in e.phase) (orders es) h)))
]

-- two that differ
apart_orders : (o p : Option ℕ) (ns : List ℕ) → IsFresh o (also p ns) → IsFresh p ns → (q : List ℕ) → ((P : ℕ → Type 0) → Has P o → AllByRecursion P ns → AllByRecursion P q) → IsFresh p q
apart_orders o None ns new fresh q sub = tt
apart_orders None (Some m) ns new fresh q sub = sub (λ n. m ≢ n) tt fresh
apart_orders (Some n) (Some m) ns new fresh q sub = sub (λ i. m ≢ i) (λ e. new.0 (sym e)) fresh

fresh_rest : (o p : Option ℕ) (ns : List ℕ) → IsFresh o (also p ns) → IsFresh o ns
fresh_rest None p ns h = tt
fresh_rest (Some n) p ns h = rest_also (λ m. n ≢ m) p ns h

-- a copy may get an order that is fresh
pub marked_differ : (place : ℕ) (phase : Phase) (es : List CopyRow) → IsFresh (order_in phase) (orders es) → AllDiffer (orders es) → AllDiffer (orders (change_row copy_place place (in_phase phase) es))
marked_differ place phase [] new h = tt
marked_differ place phase (e ∷ es) new h = elim (cases_Bool (nat_eq e.place place)) [
  | inl here ↦ rw here (differ_also (order_in phase) (orders es) (fresh_rest (order_in phase) (order_in e.phase) (orders es) new) (also_differ (order_in e.phase) (orders es) h))
  | inr other ↦
      let rest = change_row copy_place place (in_phase phase) es in
      rw other (differ_also (order_in e.phase) (orders rest)
      (apart_orders (order_in phase) (order_in e.phase) (orders es) new (also_fresh (order_in e.phase) (orders es) h) (orders rest) (λ P first q. each_marked P place phase es first q))
      (marked_differ place phase es (fresh_rest (order_in phase) (order_in e.phase) (orders es) new) (also_differ (order_in e.phase) (orders es) h)))
]

-- ---- orders up to a number

abbrev pub HasOrdersUpTo : ℕ → List CopyRow → Type 0
HasOrdersUpTo n es = AllByRecursion (λ e. order_of e.phase ≤ n) es

above_fresh : (n m : ℕ) (es : List CopyRow) → n < m → HasOrdersUpTo n es → AllByRecursion (λ i. m ≢ i) (orders es)
above_fresh n m [] less h = tt
above_fresh n m (e ∷ es) less h = each_also (λ i. m ≢ i) (order_in e.phase) (orders es) (first e.phase h.0) (above_fresh n m es less h.1)
  where
    first : (phase : Phase) → order_of phase ≤ n → Has (λ i. m ≢ i) (order_in phase)
    first Waiting le = tt
    first (Sent id) le = tt
    first (Released id order) le = λ e. omega (arith, e, le, less)
    first (Oversize id order) le = λ e. omega (arith, e, le, less)

-- an order above all of them, or none
pub phase_fresh : (n : ℕ) (phase : Phase) (es : List CopyRow) → ((m : ℕ) → order_in phase ≡ Some m → n < m) → HasOrdersUpTo n es → IsFresh (order_in phase) (orders es)
phase_fresh n phase es above h = by (order_in phase) above
  where
    by : (o : Option ℕ) → ((m : ℕ) → o ≡ Some m → n < m) → IsFresh o (orders es)
    by None up = tt
    by (Some m) up = above_fresh n m es (up m refl) h

-- no order is above the greatest
pub orders_known : (went : List ℕ) (es : List CopyRow) → HasOrdersUpTo (greatest_order (map (entry_on went) es)) es
orders_known went [] = tt
orders_known went (e ∷ es) =
    let rest = greatest_order (map (entry_on went) es) in
    let first = le-max_left (order_of e.phase) rest in
    let more = le-max_right (order_of e.phase) rest in
    (first, each_more (λ x. order_of x.phase ≤ rest) (λ x. order_of x.phase ≤ max (order_of e.phase) rest) (λ x up. omega (arith, up, more)) es (orders_known went es))
