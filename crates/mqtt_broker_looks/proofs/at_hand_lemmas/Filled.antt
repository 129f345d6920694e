-- What was read from a store and put in says what is stored, and the first one is that of the place that was asked for.
use Rattle.std.proofs.Common.{◌≡◌, ◌≢◌, ℕ, zero, suc, ◌+◌, ◌<◌, Bool, true, false, List, [], ◌∷◌, length, filter, get_or, map, take, nat_eq, nat_le, nat_lt, refl, sym, ap, subst, ◌∙◌, arith, inl, inr}
use Rattle.std.specs.Prelude.{IsTrue, Option, Some, None, option_map}
use Rattle.std.specs.BTreeMap.{is_at}
use Rattle.std.specs.List.{IsAllAdjacentAnswer}
use Rattle.std.specs.Ordering.{nat_cmp}
use Rattle.std.proofs.lemmas.Bool.{cases_Bool, cases_eq, cases_order, eq-eqb, le-leb, le-ltb, lt-leb, lt-ltb, ltb-true, ne_eqb}
use Rattle.mqtt_flow.specs.ring.AtHand.{Ascend, AreAbove, ContentsAtHand, content_in, nothing_waits}
use Rattle.mqtt_records.specs.messages.Content.{CopyContent}
use Rattle.mqtt_records.specs.messages.Queue.{CopyRow}
use Rattle.mqtt_records.specs.lists.Order.{IsAbove, IsAscending, row_at}
use Rattle.mqtt_records.proofs.lists_lemmas.OrderLemmas.{above_less, above_none, apart}
use Rattle.mqtt_records.specs.declared.state.records.Records.{Records}
use Rattle.mqtt_records.specs.state.Session.{copy_place}
use Rattle.mqtt_records.specs.state.Telling.{contents_from, copy_content, is_from, queue_at}
use Rattle.mqtt_broker_looks.specs.at_hand.Hand.{Hand, IsQueueInOrder, SayWhatIsStored, at_hand_of, by_place, first_at}
use Rattle.mqtt_broker_looks.proofs.at_hand_lemmas.Stored.{Says, nothing_says}

-- ---- what was read

-- what rows say is found by their places
content_in-rows : (place : ℕ) (rows : List CopyRow) → content_in place (by_place (map copy_content rows)) ≡ option_map copy_content (row_at copy_place place rows)
content_in-rows place [] = refl
content_in-rows place (x ∷ xs) = elim (cases_Bool (nat_eq x.place place)) [
  | inl here ↦ rw here refl
  | inr other ↦ rw other (content_in-rows place xs)
]

-- what is found among the first is found among all
content_in-take : (place n : ℕ) (all : List CopyContent) (c : CopyContent) → content_in place (by_place (take n all)) ≡ Some c → content_in place (by_place all) ≡ Some c
content_in-take place zero all c is = let no : None ≡ Some c = is in absurd cc
content_in-take place (suc n) [] c is = let no : None ≡ Some c = is in absurd cc
content_in-take place (suc n) (x ∷ xs) c is = elim (cases_Bool (nat_eq x.place place)) [
  | inl here ↦ let it : Some x ≡ Some c = rw here at is in rw here it
  | inr other ↦ let there : content_in place (by_place (take n xs)) ≡ Some c = rw other at is in rw other (content_in-take place n xs c there)
]

-- a row that is found among some of them, where all are in order
row_at-filter : (keep : CopyRow → Bool) (place : ℕ) (xs : List CopyRow) (x : CopyRow) → IsAscending copy_place xs → row_at copy_place place (filter keep xs) ≡ Some x → row_at copy_place place xs ≡ Some x
row_at-filter keep place [] x up is = is
row_at-filter keep place (y ∷ ys) x up is = elim (cases_Bool (keep y)) [
  | inl stays ↦ elim (cases_Bool (nat_eq y.place place)) [
    | inl here ↦ let it : Some y ≡ Some x = rw (stays, here) at is in rw here it
    | inr other ↦
        let there : row_at copy_place place (filter keep ys) ≡ Some x = rw (stays, other) at is in
        rw other (row_at-filter keep place ys x up.1 there)
  ]
  | inr goes ↦
      let there : row_at copy_place place (filter keep ys) ≡ Some x = rw goes at is in
      let found = row_at-filter keep place ys x up.1 there in
      let differ : nat_eq y.place place ≡ false = apart y.place place (λ same. none y ys x up same found) in
      rw differ found
]
  where
    none : (y : CopyRow) (ys : List CopyRow) (x : CopyRow) → IsAscending copy_place (y ∷ ys) → y.place ≡ place → row_at copy_place place ys ≡ Some x → ⊥
    none y ys x up same found =
        let no : None ≡ Some x = sym (above_none copy_place place ys (subst (λ (n : ℕ). IsAbove copy_place n ys) same up.0)) ∙ found in
        cc

-- what was read from a place on says what is stored
filled_says : (birth from limit : ℕ) (r : Records) (all : List CopyContent) (ends : Bool) → IsQueueInOrder birth r → all ≡ contents_from birth from limit r
    → Says birth (record { entries = by_place all; reaches_end = ends }) r
filled_says birth from limit r all ends up is place content found =
    by (row_at copy_place place rows) refl
    (sym (content_in-rows place rows) ∙ content_in-take place limit (map copy_content rows) content (ap (λ (l : List CopyContent). content_in place (by_place l)) (sym is) ∙ found))
  where
    rows : List CopyRow
    rows = filter (is_from from) (queue_at birth r)

    by : (o : Option CopyRow) → row_at copy_place place rows ≡ o → option_map copy_content o ≡ Some content → option_map copy_content (row_at copy_place place (queue_at birth r)) ≡ Some content
    by None e none = let no : None ≡ Some content = none in absurd cc
    by (Some x) e some = ap (option_map copy_content) (row_at-filter (is_from from) place (queue_at birth r) x up e) ∙ some

-- ---- one session's is changed

-- what is at hand of one session says what is stored, and the others are as before
pub says_at : (birth : ℕ) (old new : Hand) (r : Records) → Says birth (at_hand_of birth new) r → ((other : ℕ) → other ≢ birth → at_hand_of other new ≡ at_hand_of other old) → SayWhatIsStored old r → SayWhatIsStored new r
says_at birth old new r here others says other = elim (cases_eq other birth) [
  | inl same ↦ subst (λ (n : ℕ). Says n (at_hand_of n new) r) (sym same) here
  | inr differ ↦ subst (λ (a : ContentsAtHand CopyContent). Says other a r) (sym (others other differ)) (says other)
]

-- what is put in, or lost, after a read
pub fill_says : (birth : ℕ) (old new : Hand) (all : List CopyContent) (ends result : Bool)
    → (IsTrue result → at_hand_of birth new ≡ record { entries = by_place all; reaches_end = ends }) → (result ≡ false → at_hand_of birth new ≡ nothing_waits)
    → ((other : ℕ) → other ≢ birth → at_hand_of other new ≡ at_hand_of other old)
    → (r : Records) (place limit : ℕ) → SayWhatIsStored old r → IsQueueInOrder birth r → all ≡ contents_from birth place limit r → SayWhatIsStored new r
fill_says birth old new all ends result put lost others r place limit says up is =
    says_at birth old new r (elim (cases_Bool result) [
      | inl all_in ↦ subst (λ (a : ContentsAtHand CopyContent). Says birth a r) (sym (put all_in)) (filled_says birth place limit r all ends up is)
      | inr less ↦ subst (λ (a : ContentsAtHand CopyContent). Says birth a r) (sym (lost less)) (nothing_says birth r)
    ]) others says

-- ---- the first one

-- the first one that is read is of the place, or no copy stands there
pub first_is : (place n : ℕ) (xs : List CopyRow) → IsAscending copy_place xs → first_at place (take (suc n) (map copy_content (filter (is_from place) xs))) ≡ option_map copy_content (row_at copy_place place xs)
first_is place n [] up = refl
first_is place n (x ∷ xs) up = elim (cases_order x.place place) [
  | inl same ↦
      let from : nat_le place x.place ≡ true = le-leb place x.place (omega (arith, same)) in
      let here : nat_eq x.place place ≡ true = eq-eqb x.place place same in
      rw (from, here) refl
  | inr other ↦ elim other [
    | inl less ↦
        let from : nat_le place x.place ≡ false = lt-leb place x.place less in
        let differ : nat_eq x.place place ≡ false = ne_eqb x.place place (λ e. omega (arith, e, less)) in
        rw (from, differ) (first_is place n xs up.1)
    | inr more ↦
        let from : nat_le place x.place ≡ true = le-leb place x.place (omega (arith, more)) in
        let differ : nat_eq x.place place ≡ false = ne_eqb x.place place (λ e. omega (arith, e, more)) in
        rw (from, differ) (sym (ap (option_map copy_content) (above_none copy_place place xs (above_less copy_place place x.place xs more up.0))))
  ]
]

-- ---- births as keys

-- another birth isn't found by this one
pub not_at : (birth other : ℕ) → other ≢ birth → is_at (nat_cmp birth) other ≡ false
not_at birth other differ = elim (cases_order birth other) [
  | inl same ↦ absurd (differ (sym same))
  | inr apart ↦ elim apart [
    | inl less ↦ rw (lt-ltb birth other less) refl
    | inr more ↦ rw (le-ltb birth other (omega (arith, more)), ne_eqb birth other (λ e. omega (arith, e, more))) refl
  ]
]

-- ---- places in order

-- places each of which is below the next ascend
pub ascend_from : (all : List CopyContent) → ((k : ℕ) (d : CopyContent) → k + 1 < length all → (get_or all k d).place < (get_or all (k + 1) d).place) → Ascend (by_place all)
ascend_from [] each = tt
ascend_from (x ∷ []) each = (tt, tt)
ascend_from (x ∷ y ∷ xs) each =
    let rest = ascend_from (y ∷ xs) (λ k d less.
    let step : suc k + 1 ≡ suc (k + 1) = omega arith in
    subst (λ (n : ℕ). (get_or (y ∷ xs) k d).place < (get_or (x ∷ y ∷ xs) n d).place) step (each (suc k) d (omega (arith, less)))) in
    let first : x.place < y.place = each 0 x (omega arith) in
    ((first, above_first x.place y.place (by_place xs) first rest.0), rest)
  where
    above_first : (m n : ℕ) (es : List (ℕ × CopyContent)) → m < n → AreAbove n es → AreAbove m es
    above_first m n [] less up = tt
    above_first m n (e ∷ es) less up = let more = up.0 in (omega (arith, less, more), above_first m n es less up.1)

-- what a test of each and the next says
pub sorted_ascends : (b : Bool) (all : List CopyContent) → IsAllAdjacentAnswer (λ x y (c : Bool). c ≡ nat_lt x.place y.place) all b → IsTrue b → Ascend (by_place all)
sorted_ascends true all each is = ascend_from all (λ k d less. ltb-true (get_or all k d).place (get_or all (k + 1) d).place (sym (each k d less)))
sorted_ascends false all each is = let wrong : false ≡ true = is in absurd cc
