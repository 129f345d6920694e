-- A copy enters a queue only if there is room for it.
use Rattle.std.proofs.Common.{◌≡◌, ℕ, zero, suc, ◌<◌, ◌≤◌, Bool, true, false, not, ◌&&◌, List, [], ◌∷◌, ◌++◌, length, filter, map, Option, Some, None, nat_eq, nat_lt, refl, ap, sym, subst, ◌∙◌, arith, inl, inr, ◌⊎◌}
use Rattle.std.specs.Prelude.{find, is_some}
use Rattle.std.specs.List.{AllByRecursion}
use Rattle.std.proofs.lemmas.Bool.{cases_Bool, ltb-true, lt-ltb}
use Rattle.std.proofs.lemmas.Cmp.{nat_eq_equiv}
use Rattle.std.proofs.lemmas.List.Sums.{length-filter}
use Rattle.mqtt_flow.specs.declared.outbound.entry.Entry.{Entry as FlowEntry}
use Rattle.mqtt_flow.specs.declared.outbound.entry.Full.{Full}
use Rattle.mqtt_flow.specs.declared.outbound.entry.Full.TheVariants.{Refuse, Drop}
use Rattle.mqtt_flow.specs.declared.outbound.entry.Turn.{Turn}
use Rattle.mqtt_flow.specs.declared.outbound.entry.Turn.TheVariants as turns
use Rattle.mqtt_flow.specs.outbound.Outbound.{is_waiting, gives_way, staying, dropped}
use Rattle.mqtt_flow.specs.outbound.Queue as flow
use Rattle.mqtt_records.specs.messages.Queue.{CopyRow}
use Rattle.mqtt_records.specs.lists.Order.{IsBelow, row_at, has_row, remove_row}
use Rattle.mqtt_records.specs.state.Session.{copy_place}
use Rattle.mqtt_records.proofs.lists_lemmas.OrderLemmas.{apart}
use Rattle.mqtt_routes.specs.routing.Intended.{greatest}
use Rattle.mqtt_rules.specs.step.State.{entry_on, next_of}
use Rattle.mqtt_rules.specs.step.Outbound.{first_given}
use Rattle.mqtt_rules.proofs.step_lemmas.order.Ordered.{length-filter_le, either}
use Rattle.mqtt_rules.proofs.step_lemmas.order.OrderedAccepted.{count_append}

-- ---- lists

-- the tests of a filter may come in either order as far as a bound goes
pub count_filtered : {X : Type 0} (p keep : X → Bool) (xs : List X) → length (filter p (filter keep xs)) ≤ length (filter p xs)
count_filtered p keep [] = omega arith
count_filtered p keep (x ∷ xs) =
    let rest = count_filtered p keep xs in
    elim (cases_Bool (keep x)) [
      | inl stays ↦ elim (cases_Bool (p x)) [ inl so ↦ rw (stays, so) (omega (arith, rest)) | inr not_so ↦ rw (stays, not_so) rest ]
      | inr goes ↦ elim (cases_Bool (p x)) [ inl so ↦ rw (goes, so) (omega (arith, rest)) | inr not_so ↦ rw (goes, not_so) rest ]
    ]

count_mapped : {X Y : Type 0} (p : Y → Bool) (f : X → Y) (xs : List X) → length (filter p (map f xs)) ≡ length (filter (λ x. p (f x)) xs)
count_mapped p f [] = refl
count_mapped p f (x ∷ xs) =
    let rest = count_mapped p f xs in
    elim (cases_Bool (p (f x))) [ inl so ↦ rw so (ap suc rest) | inr not_so ↦ rw not_so rest ]

-- mapping a list keeps the count
pub length-mapped : {X Y : Type 0} (f : X → Y) (xs : List X) → length (map f xs) ≡ length xs
length-mapped f [] = refl
length-mapped f (x ∷ xs) = ap suc (length-mapped f xs)

-- one item more at the end is one more
pub length-append_one : {X : Type 0} (xs : List X) (x : X) → length (xs ++ x ∷ []) ≡ suc (length xs)
length-append_one [] x = refl
length-append_one (y ∷ ys) x = ap suc (length-append_one ys x)

find_stays : {X : Type 0} (p keep : X → Bool) (xs : List X) (x : X) → find p xs ≡ Some x → keep x ≡ true → find p (filter keep xs) ≡ Some x
find_stays p keep [] x found kept = absurd cc
find_stays p keep (y ∷ ys) x found kept = elim (cases_Bool (p y)) [
  | inl so ↦
      let first : Some y ≡ Some x = rw so at found in
      let it : y ≡ x = cc in
      let keeps : keep y ≡ true = ap keep it ∙ kept in
      rw (keeps, so) first
  | inr not_so ↦
      let rest = find_stays p keep ys x (rw not_so at found) kept in
      elim (cases_Bool (keep y)) [ inl stays ↦ rw (stays, not_so) rest | inr goes ↦ rw goes rest ]
]

find_none : {X : Type 0} (p keep : X → Bool) (xs : List X) → find p xs ≡ None → find p (filter keep xs) ≡ None
find_none p keep [] none = refl
find_none p keep (y ∷ ys) none = elim (cases_Bool (p y)) [
  | inl so ↦ let first : Some y ≡ None = rw so at none in absurd cc
  | inr not_so ↦
      let rest = find_none p keep ys (rw not_so at none) in
      elim (cases_Bool (keep y)) [ inl stays ↦ rw (stays, not_so) rest | inr goes ↦ rw goes rest ]
]

find_first : {X : Type 0} (p : X → Bool) (xs ys : List X) (x : X) → find p xs ≡ Some x → find p (xs ++ ys) ≡ Some x
find_first p [] ys x found = absurd cc
find_first p (z ∷ zs) ys x found = elim (cases_Bool (p z)) [
  | inl so ↦ rw so (rw so at found)
  | inr not_so ↦ rw not_so (find_first p zs ys x (rw not_so at found))
]

find_later : {X : Type 0} (p : X → Bool) (xs ys : List X) → find p xs ≡ None → find p (xs ++ ys) ≡ find p ys
find_later p [] ys none = refl
find_later p (z ∷ zs) ys none = elim (cases_Bool (p z)) [
  | inl so ↦ let first : Some z ≡ None = rw so at none in absurd cc
  | inr not_so ↦ rw not_so (find_later p zs ys (rw not_so at none))
]

-- ---- places

below_greatest : (n : ℕ) (q : List CopyRow) → greatest (map copy_place q) < n → IsBelow copy_place n q
below_greatest n [] less = tt
below_greatest n (e ∷ es) less = (omega (arith, less), below_greatest n es (omega (arith, less)))

below_next : (q : List CopyRow) → IsBelow copy_place (next_of copy_place q) q
below_next q = below_greatest (next_of copy_place q) q (omega arith)

below_front : (n : ℕ) (xs ys : List CopyRow) → IsBelow copy_place n (xs ++ ys) → IsBelow copy_place n xs
below_front n [] ys low = tt
below_front n (x ∷ xs) ys low = (low.0, below_front n xs ys low.1)

-- all places of a queue are below the next one
pub below_own : (q : List CopyRow) → IsBelow copy_place (next_of copy_place q) q
below_own q = below_next q

-- ---- which entries stay

-- stands whatever enters
abbrev stands : ℕ → CopyRow → Bool
stands first e = not (is_waiting e.phase && nat_lt e.place first)

abbrev pub stay : Full → ℕ → List CopyRow → ℕ
stay Refuse first q = length q
stay Drop first q = length (filter (stands first) q)

-- the copies that stay in any case, counted in rows and in what the session rules see of them
pub stay_is : (full : Full) (first birth : ℕ) (q : List CopyRow) → staying full first (map (entry_on []) q) ≡ stay full first q
stay_is Refuse first birth q = length-mapped (entry_on []) q
stay_is Drop first birth q = sym (length-filter (λ e. not (gives_way first e)) (map (entry_on []) q)) ∙ count_mapped (λ e. not (gives_way first e)) (entry_on []) q

-- no more copies stay than stand
pub stay_le : (full : Full) (first : ℕ) (q : List CopyRow) → stay full first q ≤ length q
stay_le Refuse first q = omega arith
stay_le Drop first q = length-filter_le (stands first) q

-- fewer stand by a later bound, or by one above all
fewer_stand : (first later : ℕ) (q : List CopyRow) → IsBelow copy_place later q → length (filter (stands later) q) ≤ length (filter (stands first) q)
fewer_stand first later [] low = omega arith
fewer_stand first later (e ∷ es) low =
    let rest = fewer_stand first later es low.1 in
    let less : nat_lt e.place later ≡ true = lt-ltb e.place later low.0 in
    elim (cases_Bool (is_waiting e.phase)) [
      | inl waits ↦
          let goes : stands later e ≡ false = rw (waits, less) refl in
          elim (cases_Bool (stands first e)) [ inl so ↦ rw (goes, so) (omega (arith, rest)) | inr not_so ↦ rw (goes, not_so) rest ]
      | inr sent ↦
          let so : stands later e ≡ true = rw sent refl in
          let also : stands first e ≡ true = rw sent refl in
          rw (so, also) (omega (arith, rest))
    ]

-- ---- the copies that give way

abbrev pub leaving : List Turn → List CopyRow → List CopyRow
leaving [] q = q
leaving (turns.Leave place ending ∷ ts) q = leaving ts (remove_row copy_place place q)
leaving (t ∷ ts) q = leaving ts q

-- each is a leave from a place of the queue that is below a bound
abbrev pub GivesWay : ℕ → List CopyRow → Turn → Type 0
GivesWay first q (turns.Leave place ending) = (has_row copy_place place q ≡ true) × (place < first)
GivesWay first q t = ⊥

has_more : (place : ℕ) (e : CopyRow) (q : List CopyRow) → has_row copy_place place q ≡ true → has_row copy_place place (e ∷ q) ≡ true
has_more place e q there = either (λ (o : Option CopyRow). is_some o ≡ true) (nat_eq (copy_place e) place) (Some e) (row_at copy_place place q) refl there

has_here : (e : CopyRow) (q : List CopyRow) → has_row copy_place e.place (e ∷ q) ≡ true
has_here e q = rw (nat_eq_equiv.refl e.place) refl

gives_more : (first : ℕ) (e : CopyRow) (q : List CopyRow) (ts : List Turn) → AllByRecursion (GivesWay first q) ts → AllByRecursion (GivesWay first (e ∷ q)) ts
gives_more first e q [] all = tt
gives_more first e q (turns.Leave place ending ∷ ts) all = ((has_more place e q all.0.0, all.0.1), gives_more first e q ts all.1)
gives_more first e q (turns.Send place id ∷ ts) all = absurd all.0
gives_more first e q (turns.Resend place id ∷ ts) all = absurd all.0
gives_more first e q (turns.Release place id order ∷ ts) all = absurd all.0
gives_more first e q (turns.Outgrow place id order ∷ ts) all = absurd all.0
gives_more first e q (turns.Repeat id ∷ ts) all = absurd all.0
gives_more first e q (turns.Unknown id ∷ ts) all = absurd all.0

both_are : (x y : Bool) → (x && y) ≡ true → y ≡ true
both_are true y h = h
both_are false y h = absurd cc

-- a copy that makes way is one that may
pub dropped_gives : (k first birth : ℕ) (q : List CopyRow) → AllByRecursion (GivesWay first q) (dropped k first (map (entry_on []) q))
dropped_gives k first birth [] = tt
dropped_gives zero first birth (e ∷ es) = tt
dropped_gives (suc k) first birth (e ∷ es) = elim (cases_Bool (gives_way first (entry_on [] e))) [
  | inl goes ↦
      let less : e.place < first = ltb-true e.place first (both_are (is_waiting e.phase) (nat_lt e.place first) goes) in
      rw goes ((has_here e es, less), gives_more first e es (dropped k first (map (entry_on []) es)) (dropped_gives k first birth es))
  | inr stays ↦ rw stays (gives_more first e es (dropped (suc k) first (map (entry_on []) es)) (dropped_gives (suc k) first birth es))
]

-- a property of the turns that each of them keeps
pub leaving_flow : (first birth : ℕ) (whole : List CopyRow) (ts : List Turn) (q : List CopyRow) → AllByRecursion (GivesWay first whole) ts → map (entry_on []) (leaving ts q) ≡ flow.after_all ts (map (entry_on []) q)
leaving_flow first birth whole [] q all = refl
leaving_flow first birth whole (turns.Leave place ending ∷ ts) q all =
    leaving_flow first birth whole ts (remove_row copy_place place q) all.1 ∙ ap (flow.after_all ts) (mapped_filter place birth q)
  where
    mapped_filter : (place birth : ℕ) (q : List CopyRow) → map (entry_on []) (remove_row copy_place place q) ≡ filter (λ e. not (nat_eq e.place place)) (map (entry_on []) q)
    mapped_filter place birth [] = refl
    mapped_filter place birth (e ∷ es) = elim (cases_Bool (nat_eq e.place place)) [
      | inl same ↦ rw same (mapped_filter place birth es)
      | inr other ↦ rw other (ap (λ (es : List FlowEntry). entry_on [] e ∷ es) (mapped_filter place birth es))
    ]
leaving_flow first birth whole (turns.Send place id ∷ ts) q all = absurd all.0
leaving_flow first birth whole (turns.Resend place id ∷ ts) q all = absurd all.0
leaving_flow first birth whole (turns.Release place id order ∷ ts) q all = absurd all.0
leaving_flow first birth whole (turns.Outgrow place id order ∷ ts) q all = absurd all.0
leaving_flow first birth whole (turns.Repeat id ∷ ts) q all = absurd all.0
leaving_flow first birth whole (turns.Unknown id ∷ ts) q all = absurd all.0

count_leaving : (p : CopyRow → Bool) (ts : List Turn) (q : List CopyRow) → length (filter p (leaving ts q)) ≤ length (filter p q)
count_leaving p [] q = omega arith
count_leaving p (turns.Leave place ending ∷ ts) q =
    let rest = count_leaving p ts (remove_row copy_place place q) in
    let here = count_filtered p (λ e. not (nat_eq (copy_place e) place)) q in
    omega (arith, rest, here)
count_leaving p (turns.Send place id ∷ ts) q = count_leaving p ts q
count_leaving p (turns.Resend place id ∷ ts) q = count_leaving p ts q
count_leaving p (turns.Release place id order ∷ ts) q = count_leaving p ts q
count_leaving p (turns.Outgrow place id order ∷ ts) q = count_leaving p ts q
count_leaving p (turns.Repeat id ∷ ts) q = count_leaving p ts q
count_leaving p (turns.Unknown id ∷ ts) q = count_leaving p ts q

length_leaving : (ts : List Turn) (q : List CopyRow) → length (leaving ts q) ≤ length q
length_leaving [] q = omega arith
length_leaving (turns.Leave place ending ∷ ts) q =
    let rest = length_leaving ts (remove_row copy_place place q) in
    let here = length-filter_le (λ e. not (nat_eq (copy_place e) place)) q in
    omega (arith, rest, here)
length_leaving (turns.Send place id ∷ ts) q = length_leaving ts q
length_leaving (turns.Resend place id ∷ ts) q = length_leaving ts q
length_leaving (turns.Release place id order ∷ ts) q = length_leaving ts q
length_leaving (turns.Outgrow place id order ∷ ts) q = length_leaving ts q
length_leaving (turns.Repeat id ∷ ts) q = length_leaving ts q
length_leaving (turns.Unknown id ∷ ts) q = length_leaving ts q

-- the first of some kind stays if all that leave stand before it
found_leaving : (p : CopyRow → Bool) (whole : List CopyRow) (ts : List Turn) (q : List CopyRow) (e : CopyRow) → AllByRecursion (GivesWay e.place whole) ts → find p q ≡ Some e → find p (leaving ts q) ≡ Some e
found_leaving p whole [] q e all found = found
found_leaving p whole (turns.Leave place ending ∷ ts) q e all found =
    let less = all.0.1 in
    let other : nat_eq (copy_place e) place ≡ false = apart e.place place (λ same. omega (arith, same, less)) in
    found_leaving p whole ts (remove_row copy_place place q) e all.1 (find_stays p (λ x. not (nat_eq (copy_place x) place)) q e found (rw other refl))
found_leaving p whole (turns.Send place id ∷ ts) q e all found = absurd all.0
found_leaving p whole (turns.Resend place id ∷ ts) q e all found = absurd all.0
found_leaving p whole (turns.Release place id order ∷ ts) q e all found = absurd all.0
found_leaving p whole (turns.Outgrow place id order ∷ ts) q e all found = absurd all.0
found_leaving p whole (turns.Repeat id ∷ ts) q e all found = absurd all.0
found_leaving p whole (turns.Unknown id ∷ ts) q e all found = absurd all.0

none_leaving : (p : CopyRow → Bool) (ts : List Turn) (q : List CopyRow) → find p q ≡ None → find p (leaving ts q) ≡ None
none_leaving p [] q none = none
none_leaving p (turns.Leave place ending ∷ ts) q none = none_leaving p ts (remove_row copy_place place q) (find_none p (λ x. not (nat_eq (copy_place x) place)) q none)
none_leaving p (turns.Send place id ∷ ts) q none = none_leaving p ts q none
none_leaving p (turns.Resend place id ∷ ts) q none = none_leaving p ts q none
none_leaving p (turns.Release place id order ∷ ts) q none = none_leaving p ts q none
none_leaving p (turns.Outgrow place id order ∷ ts) q none = none_leaving p ts q none
none_leaving p (turns.Repeat id ∷ ts) q none = none_leaving p ts q none
none_leaving p (turns.Unknown id ∷ ts) q none = none_leaving p ts q none

-- ---- one copy more: at most one more stays

abbrev pub first_place : (CopyRow → Bool) → List CopyRow → ℕ
first_place p q = first_given (find p q) q

later_place : (p : CopyRow → Bool) (ts : List Turn) (q : List CopyRow) (n : CopyRow) (o : Option CopyRow) → find p q ≡ o → n.place ≡ next_of copy_place (leaving ts q) → AllByRecursion (GivesWay (first_given o q) q) ts
    → (first_place p (leaving ts q ++ n ∷ []) ≡ first_given o q) ⊎ IsBelow copy_place (first_place p (leaving ts q ++ n ∷ [])) (leaving ts q)
later_place p ts q n (Some e) is next all =
    let found : find p (leaving ts q ++ n ∷ []) ≡ Some e = find_first p (leaving ts q) (n ∷ []) e (found_leaving p q ts q e all is) in
    inl (ap (λ o. first_given o (leaving ts q ++ n ∷ [])) found)
later_place p ts q n None is next all =
    let rest = leaving ts q in
    let later : find p (rest ++ n ∷ []) ≡ find p (n ∷ []) = find_later p rest (n ∷ []) (none_leaving p ts q is) in
    inr (subst (λ (o : Option CopyRow). IsBelow copy_place (first_given o (rest ++ n ∷ [])) rest) (sym later) (elim (cases_Bool (p n)) [
      | inl so ↦ rw so (subst (λ (k : ℕ). IsBelow copy_place k rest) (sym next) (below_next rest))
      | inr not_so ↦ rw not_so (below_front (next_of copy_place (rest ++ n ∷ [])) rest (n ∷ []) (below_next (rest ++ n ∷ [])))
    ]))

-- behind an entering at most one copy more stays in any case
pub stay_more : (full : Full) (p : CopyRow → Bool) (ts : List Turn) (q : List CopyRow) (n : CopyRow) → n.place ≡ next_of copy_place (leaving ts q) → AllByRecursion (GivesWay (first_place p q) q) ts
    → stay full (first_place p (leaving ts q ++ n ∷ [])) (leaving ts q ++ n ∷ []) ≤ suc (stay full (first_place p q) q)
stay_more Refuse p ts q n next all = let one = length-append_one (leaving ts q) n in let less = length_leaving ts q in omega (arith, one, less)
stay_more Drop p ts q n next all =
    let first = first_place p q in
    let later = first_place p (leaving ts q ++ n ∷ []) in
    let rest = leaving ts q in
    let cut = count_append (stands later) rest (n ∷ []) in
    let one = length-filter_le (stands later) (n ∷ []) in
    let fewer = count_leaving (stands first) ts q in
    let mid : length (filter (stands later) rest) ≤ length (filter (stands first) rest) = elim (later_place p ts q n (find p q) refl next all) [
      | inl same ↦ subst (λ (k : ℕ). length (filter (stands k) rest) ≤ length (filter (stands first) rest)) (sym same) (omega arith)
      | inr low ↦ fewer_stand first later rest low
    ] in
    omega (arith, cut, one, fewer, mid)
