-- Entries whose places ascend: what comes behind, what is found, and a ring that turns once round.
use Rattle.std.proofs.Common.{◌≡◌, ℕ, ◌-◌, suc, ◌<◌, ◌≤◌, Bool, true, false, ◌&&◌, List, [], ◌∷◌, ◌++◌, length, take, drop, get_or, nat_eq, nat_lt, refl, sym, ap, subst, ◌∙◌, arith, inl, inr, append_assoc, length-append, length-drop, length-take, take-suc, drop-cons}
use Rattle.std.specs.Prelude.{Option, Some, None, slice_get}
use Rattle.std.proofs.lemmas.Bool.{cases_Bool, eqb-true, ltb-true, lt-ltb}
use Rattle.std.proofs.lemmas.Cmp.{nat_eq_equiv}
use Rattle.std.proofs.lemmas.List.Elements.{filter-append}
use Rattle.circular_buffer.specs.Buffer.{Buffer, buffer, keep_last, last_item}
use Rattle.mqtt_flow.specs.declared.ring.at_hand.TheConstants.{AT_HAND_LIMIT}
use Rattle.mqtt_flow.specs.ring.AtHand.{AreAbove, Ascend, IsMade, are_below, content_in, entries_of, has_room, is_elsewhere, without}

-- two places that differ
pub apart : (m n : ℕ) → (m ≡ n → ⊥) → nat_eq m n ≡ false
apart m n differ = elim (cases_Bool (nat_eq m n)) [ inl same ↦ absurd (differ (eqb-true m n same)) | inr other ↦ other ]

module _ {X : Type 0} where
  -- ---- what comes behind

  -- what is above a place is above a lower one
  pub above_less : (m n : ℕ) (es : List (ℕ × X)) → m < n → AreAbove n es → AreAbove m es
  above_less m n [] less up = tt
  above_less m n (e ∷ es) less up = let more = up.0 in (omega (arith, less, more), above_less m n es less up.1)

  above_push : (n place : ℕ) (x : X) (es : List (ℕ × X)) → n < place → AreAbove n es → AreAbove n (es ++ (place, x) ∷ [])
  above_push n place x [] less up = (less, tt)
  above_push n place x (e ∷ es) less up = (up.0, above_push n place x es less up.1)

  -- of places below one, the first and the others
  pub below_cons : (place : ℕ) (e : ℕ × X) (es : List (ℕ × X)) → are_below place (e ∷ es) ≡ true → (e.0 < place) × (are_below place es ≡ true)
  below_cons place e es below = elim (cases_Bool (nat_lt e.0 place)) [
    | inl low ↦ (ltb-true e.0 place low, rw low at below)
    | inr high ↦ let no : false ≡ true = rw high at below in absurd cc
  ]

  -- what is put behind places below it ascends with them
  pub ascend_push : (place : ℕ) (x : X) (es : List (ℕ × X)) → Ascend es → are_below place es ≡ true → Ascend (es ++ (place, x) ∷ [])
  ascend_push place x [] up below = (tt, tt)
  ascend_push place x (e ∷ es) up below =
      let on = below_cons place e es below in
      (above_push e.0 place x es on.0 up.0, ascend_push place x es up.1 on.1)

  -- ---- the last one

  tail : (e : ℕ × X) (es : List (ℕ × X)) (i j : ℕ) → j ≡ suc i → slice_get (e ∷ es) j ≡ slice_get es i
  tail e es i j step = ap (slice_get (e ∷ es)) step

  last_cons : (d e : ℕ × X) (es : List (ℕ × X)) → last_item (d ∷ e ∷ es) ≡ last_item (e ∷ es)
  last_cons d e es = tail d (e ∷ es) (length (e ∷ es) - 1) (length (d ∷ e ∷ es) - 1) (omega arith)

  last_above : (n : ℕ) (es : List (ℕ × X)) (last : ℕ × X) → AreAbove n es → last_item es ≡ Some last → n < last.0
  last_above n [] last up is = absurd cc
  last_above n (e ∷ []) last up is =
      let it : Some e ≡ Some last = is in
      let same : e ≡ last = cc in
      let place : e.0 ≡ last.0 = ap (λ (p : ℕ × X). p.0) same in
      let less = up.0 in
      omega (arith, less, place)
  last_above n (d ∷ e ∷ es) last up is = last_above n (e ∷ es) last up.1 (sym (last_cons d e es) ∙ is)

  -- all places are below one if the last is
  pub below_last : (place : ℕ) (es : List (ℕ × X)) (last : ℕ × X) → Ascend es → last_item es ≡ Some last → are_below place es ≡ nat_lt last.0 place
  below_last place [] last up is = absurd cc
  below_last place (e ∷ []) last up is =
      let it : Some e ≡ Some last = is in
      let same : e ≡ last = cc in
      let by : nat_lt e.0 place ≡ nat_lt last.0 place = ap (λ (p : ℕ × X). nat_lt p.0 place) same in
      elim (cases_Bool (nat_lt e.0 place)) [ inl low ↦ rw low (sym low ∙ by) | inr high ↦ rw high (sym high ∙ by) ]
  below_last place (d ∷ e ∷ es) last up is =
      let rest = below_last place (e ∷ es) last up.1 (sym (last_cons d e es) ∙ is) in
      let less = last_above d.0 (e ∷ es) last up.0 (sym (last_cons d e es) ∙ is) in
      elim (cases_Bool (nat_lt last.0 place)) [
        | inl low ↦
            let above = ltb-true last.0 place low in
            let first : nat_lt d.0 place ≡ true = lt-ltb d.0 place (omega (arith, less, above)) in
            rw first rest
        | inr high ↦ elim (cases_Bool (nat_lt d.0 place)) [ inl first ↦ rw first rest | inr first ↦ rw first (sym high) ]
      ]

  -- nothing stands in an empty ring
  pub below_none : (place : ℕ) (es : List (ℕ × X)) → last_item es ≡ None → are_below place es ≡ true
  below_none place [] is = refl
  below_none place (e ∷ []) is = absurd cc
  below_none place (d ∷ e ∷ es) is =
      let rest = below_none place (e ∷ es) (sym (last_cons d e es) ∙ is) in
      absurd (some_last e es (sym (last_cons d e es) ∙ is))
    where
      some_last : (e : ℕ × X) (es : List (ℕ × X)) → last_item (e ∷ es) ≡ None → ⊥
      some_last e [] is = cc
      some_last d (e ∷ es) is = some_last e es (sym (last_cons d e es) ∙ is)

  -- ---- what is found

  -- what is found in front is found with more behind
  pub content_in-append : (place : ℕ) (x : X) (es fs : List (ℕ × X)) → content_in place es ≡ Some x → content_in place (es ++ fs) ≡ Some x
  content_in-append place x [] fs is = absurd cc
  content_in-append place x (e ∷ es) fs is = elim (cases_Bool (nat_eq e.0 place)) [
    | inl here ↦ let it : Some e.1 ≡ Some x = rw here at is in rw here it
    | inr other ↦ let there : content_in place es ≡ Some x = rw other at is in rw other (content_in-append place x es fs there)
  ]

  -- what is not found in front is looked for behind
  pub content_in-past : (place : ℕ) (es fs : List (ℕ × X)) → content_in place es ≡ None → content_in place (es ++ fs) ≡ content_in place fs
  content_in-past place [] fs none = refl
  content_in-past place (e ∷ es) fs none = elim (cases_Bool (nat_eq e.0 place)) [
    | inl here ↦ let no : Some e.1 ≡ None = rw here at none in absurd cc
    | inr other ↦ let there : content_in place es ≡ None = rw other at none in rw other (content_in-past place es fs there)
  ]

  -- the entry that a search has come to
  pub content_in-here : (place i : ℕ) (es : List (ℕ × X)) (e : ℕ × X) → i < length es → e ≡ get_or es i e → e.0 ≡ place → content_in place (drop i es) ≡ Some e.1
  content_in-here place i es e within is same =
      let at : drop i es ≡ e ∷ drop (suc i) es = drop-cons es i e within ∙ ap (λ (d : ℕ × X). d ∷ drop (suc i) es) (sym is) in
      let here : nat_eq e.0 place ≡ true = ap (λ k. nat_eq k place) same ∙ nat_eq_equiv.refl place in
      ap (content_in place) at ∙ rw here refl

  -- an entry at another place is passed over
  pub content_in-next : (place i j : ℕ) (es : List (ℕ × X)) (e : ℕ × X) → j ≡ suc i → i < length es → e ≡ get_or es i e → (e.0 ≡ place → ⊥) → content_in place (drop j es) ≡ content_in place (drop i es)
  content_in-next place i j es e step within is differ =
      let at : drop i es ≡ e ∷ drop (suc i) es = drop-cons es i e within ∙ ap (λ (d : ℕ × X). d ∷ drop (suc i) es) (sym is) in
      let on : content_in place (e ∷ drop (suc i) es) ≡ content_in place (drop (suc i) es) = rw (apart e.0 place differ) refl in
      ap (λ k. content_in place (drop k es)) step ∙ sym (ap (content_in place) at ∙ on)

  -- ---- what is left without one

  above_without : (n place : ℕ) (es : List (ℕ × X)) → AreAbove n es → AreAbove n (without place es)
  above_without n place [] up = tt
  above_without n place (e ∷ es) up = elim (cases_Bool (nat_eq e.0 place)) [
    | inl gone ↦ rw gone (above_without n place es up.1)
    | inr kept ↦ rw kept (up.0, above_without n place es up.1)
  ]

  -- places ascend still without one
  pub ascend_without : (place : ℕ) (es : List (ℕ × X)) → Ascend es → Ascend (without place es)
  ascend_without place [] up = tt
  ascend_without place (e ∷ es) up = elim (cases_Bool (nat_eq e.0 place)) [
    | inl gone ↦ rw gone (ascend_without place es up.1)
    | inr kept ↦ rw kept (above_without e.0 place es up.0, ascend_without place es up.1)
  ]

  -- without a place there are no more
  pub fewer_without : (place : ℕ) (es : List (ℕ × X)) → length (without place es) ≤ length es
  fewer_without place [] = omega arith
  fewer_without place (e ∷ es) =
      let less = fewer_without place es in
      elim (cases_Bool (nat_eq e.0 place)) [ inl gone ↦ rw gone (omega (arith, less)) | inr kept ↦ rw kept (omega (arith, less)) ]

  without_none : (place : ℕ) (es : List (ℕ × X)) → AreAbove place es → without place es ≡ es
  without_none place [] up = refl
  without_none place (e ∷ es) up =
      let more = up.0 in
      rw (apart e.0 place (λ same. omega (arith, same, more))) (ap (λ l. e ∷ l) (without_none place es up.1))

  -- nothing is to be taken out before the first one
  pub without_before : (place : ℕ) (es : List (ℕ × X)) (first : ℕ × X) → Ascend es → slice_get es 0 ≡ Some first → place < first.0 → without place es ≡ es
  without_before place [] first up is less = absurd cc
  without_before place (e ∷ es) first up is less =
      let it : Some e ≡ Some first = is in
      let same : e ≡ first = cc in
      let at : e.0 ≡ first.0 = ap (λ (p : ℕ × X). p.0) same in
      let here : place < e.0 = omega (arith, at, less) in
      without_none place (e ∷ es) (here, above_less place e.0 es here up.0)

  -- without the place of the first, all but the first are left
  pub without_first : (place : ℕ) (es : List (ℕ × X)) (first : ℕ × X) → Ascend es → slice_get es 0 ≡ Some first → first.0 ≡ place → without place es ≡ drop 1 es
  without_first place [] first up is at = absurd cc
  without_first place (e ∷ es) first up is at =
      let it : Some e ≡ Some first = is in
      let same : e ≡ first = cc in
      let here : e.0 ≡ place = ap (λ (p : ℕ × X). p.0) same ∙ at in
      let goes : nat_eq e.0 place ≡ true = ap (λ k. nat_eq k place) here ∙ nat_eq_equiv.refl place in
      let above : AreAbove place es = subst (λ n. AreAbove n es) here up.0 in
      rw goes (without_none place es above)

  -- without any place an empty ring is empty
  pub without_empty : (place : ℕ) (es : List (ℕ × X)) → slice_get es 0 ≡ None → without place es ≡ es
  without_empty place [] none = refl
  without_empty place (e ∷ es) none = absurd cc

  -- ---- a ring that turns once round

  -- a ring that isn't full keeps all
  pub keep_all : (n : ℕ) (es : List (ℕ × X)) → length es ≤ n → keep_last n es ≡ es
  keep_all n es within = let none : length es - n ≡ 0 = omega (arith, within) in ap (λ k. drop k es) none

  -- so far it has turned: what is still to come, and behind it what stays
  pub record Turned (place i : ℕ) (es ring : List (ℕ × X)) : Type 0 where
    pub items : ring ≡ drop i es ++ without place (take i es)

  front_is : (i : ℕ) (es kept ring : List (ℕ × X)) (e : ℕ × X) → ring ≡ drop i es ++ kept → i < length es → slice_get ring 0 ≡ Some e → e ≡ get_or es i e
  front_is i es kept ring e is within first =
      let at : ring ≡ get_or es i e ∷ (drop (suc i) es ++ kept) = is ∙ ap (λ l. l ++ kept) (drop-cons es i e within) in
      let it : Some (get_or es i e) ≡ Some e = sym (ap (λ l. slice_get l 0) at) ∙ first in
      cc

  rest_is : (i : ℕ) (es kept ring : List (ℕ × X)) (e : ℕ × X) → ring ≡ drop i es ++ kept → i < length es → drop 1 ring ≡ drop (suc i) es ++ kept
  rest_is i es kept ring e is within =
      let at : ring ≡ get_or es i e ∷ (drop (suc i) es ++ kept) = is ∙ ap (λ l. l ++ kept) (drop-cons es i e within) in
      ap (drop 1) at

  -- an entry at another place goes from the front to the back
  pub turned_kept : (place i j : ℕ) (es ring : List (ℕ × X)) (e : ℕ × X) → j ≡ suc i → i < length es → Turned place i es ring → slice_get ring 0 ≡ Some e → (e.0 ≡ place → ⊥) → Turned place j es (drop 1 ring ++ e ∷ [])
  turned_kept place i j es ring e step within t first differ =
      let stays : without place (e ∷ []) ≡ e ∷ [] = rw (apart e.0 place differ) refl in
      let taken : take (suc i) es ≡ take i es ++ e ∷ [] = take-suc es i e within ∙ ap (λ (d : ℕ × X). take i es ++ d ∷ []) (sym (front_is i es _ ring e t.items within first)) in
      let kept : without place (take (suc i) es) ≡ without place (take i es) ++ e ∷ [] =
      ap (without place) taken ∙ filter-append (is_elsewhere place) (take i es) (e ∷ []) ∙ ap (λ l. without place (take i es) ++ l) stays in
      record {
        items =
            ap (λ l. l ++ e ∷ []) (rest_is i es _ ring e t.items within)
            ∙ append_assoc (drop (suc i) es) (without place (take i es)) (e ∷ [])
            ∙ ap (λ l. drop (suc i) es ++ l) (sym kept)
            ∙ ap (λ k. drop k es ++ without place (take k es)) (sym step);
      }

  -- the entry at the place goes
  pub turned_gone : (place i j : ℕ) (es ring : List (ℕ × X)) (e : ℕ × X) → j ≡ suc i → i < length es → Turned place i es ring → slice_get ring 0 ≡ Some e → e.0 ≡ place → Turned place j es (drop 1 ring)
  turned_gone place i j es ring e step within t first same =
      let here : nat_eq e.0 place ≡ true = ap (λ k. nat_eq k place) same ∙ nat_eq_equiv.refl place in
      let goes : without place (e ∷ []) ≡ [] = rw here refl in
      let taken : take (suc i) es ≡ take i es ++ e ∷ [] = take-suc es i e within ∙ ap (λ (d : ℕ × X). take i es ++ d ∷ []) (sym (front_is i es _ ring e t.items within first)) in
      let kept : without place (take (suc i) es) ≡ without place (take i es) ++ [] =
      ap (without place) taken ∙ filter-append (is_elsewhere place) (take i es) (e ∷ []) ∙ ap (λ l. without place (take i es) ++ l) goes in
      record {
        items =
            rest_is i es _ ring e t.items within
            ∙ ap (λ l. drop (suc i) es ++ l) (sym (kept ∙ append_nil (without place (take i es))))
            ∙ ap (λ k. drop k es ++ without place (take k es)) (sym step);
      }
    where
      append_nil : (l : List (ℕ × X)) → l ++ [] ≡ l
      append_nil [] = refl
      append_nil (x ∷ l) = ap (λ k. x ∷ k) (append_nil l)

  -- it isn't empty before it has turned
  pub turned_some : (place i : ℕ) (es ring : List (ℕ × X)) → i < length es → Turned place i es ring → slice_get ring 0 ≡ None → ⊥
  turned_some place i es [] within t none =
      let long = ap length t.items in
      let parts = length-append (drop i es) (without place (take i es)) in
      let rest = length-drop i es in
      omega (arith, within, long, parts, rest)
  turned_some place i es (e ∷ ring) within t none = cc

  -- the ring has room for the entry that goes to the back
  pub turned_fits : (place i n : ℕ) (es ring : List (ℕ × X)) (e : ℕ × X) → i < length es → length es ≤ n → Turned place i es ring → length (drop 1 ring ++ e ∷ []) ≤ n
  turned_fits place i n es ring e within few t =
      let long = ap length t.items in
      let parts = length-append (drop i es) (without place (take i es)) in
      let rest = length-drop i es in
      let kept = fewer_without place (take i es) in
      let taken = length-take i es in
      let pushed = length-append (drop 1 ring) (e ∷ []) in
      let popped = length-drop 1 ring in
      omega (arith, within, few, long, parts, rest, kept, taken, pushed, popped)

  -- once all have gone by, what is left is all without the place
  pub turned_whole : (place i : ℕ) (es ring : List (ℕ × X)) → i ≡ length es → Turned place i es ring → ring ≡ without place es
  turned_whole place i es ring all t =
      t.items ∙ ap (λ k. drop k es ++ without place (take k es)) all
      ∙ (λ k. drop_whole es k ++ without place (take_whole es k))
    where
      drop_whole : (l : List (ℕ × X)) → drop (length l) l ≡ []
      drop_whole [] = refl
      drop_whole (x ∷ l) = drop_whole l

      take_whole : (l : List (ℕ × X)) → take (length l) l ≡ l
      take_whole [] = refl
      take_whole (x ∷ l) = ap (λ k. x ∷ k) (take_whole l)

  -- ---- the ring itself

  -- a turn that keeps its entry
  pub keeps_entry : (place i j : ℕ) (es : List (ℕ × X)) (e : ℕ × X) (n : ℕ) (ring popped pushed after : Buffer (ℕ × X))
      → j ≡ suc i → i < length es → length es ≤ n → Turned place i es ring.items → ring.capacity ≡ n → Some e ≡ slice_get ring.items 0 → (e.0 ≡ place → ⊥)
      → popped ≡ buffer (drop 1 ring.items) ring.capacity → pushed ≡ buffer (keep_last popped.capacity (popped.items ++ e ∷ [])) popped.capacity → after ≡ pushed
      → Turned place j es after.items × (after.capacity ≡ n)
  keeps_entry place i j es e n ring popped pushed after step within few t full first differ popped_is pushed_is after_is =
      let size : popped.capacity ≡ n = ap (λ (b : Buffer (ℕ × X)). b.capacity) popped_is ∙ full in
      let rest : popped.items ≡ drop 1 ring.items = ap (λ (b : Buffer (ℕ × X)). b.items) popped_is in
      let items : after.items ≡ drop 1 ring.items ++ e ∷ [] =
      ap (λ (b : Buffer (ℕ × X)). b.items) (after_is ∙ pushed_is)
      ∙ ap (λ k. keep_last k (popped.items ++ e ∷ [])) size
      ∙ ap (λ l. keep_last n (l ++ e ∷ [])) rest
      ∙ keep_all n (drop 1 ring.items ++ e ∷ []) (turned_fits place i n es ring.items e within few t) in (
        subst (Turned place j es) (sym items) (turned_kept place i j es ring.items e step within t (sym first) differ),
        ap (λ (b : Buffer (ℕ × X)). b.capacity) (after_is ∙ pushed_is) ∙ size,
      )

  -- a turn that takes its entry out
  pub takes_entry : (place i j : ℕ) (es : List (ℕ × X)) (e : ℕ × X) (n : ℕ) (ring popped after : Buffer (ℕ × X))
      → j ≡ suc i → i < length es → Turned place i es ring.items → ring.capacity ≡ n → Some e ≡ slice_get ring.items 0 → e.0 ≡ place
      → popped ≡ buffer (drop 1 ring.items) ring.capacity → after ≡ popped
      → Turned place j es after.items × (after.capacity ≡ n)
  takes_entry place i j es e n ring popped after step within t full first same popped_is after_is =
      let items : after.items ≡ drop 1 ring.items = ap (λ (b : Buffer (ℕ × X)). b.items) (after_is ∙ popped_is) in (
        subst (Turned place j es) (sym items) (turned_gone place i j es ring.items e step within t (sym first) same),
        ap (λ (b : Buffer (ℕ × X)). b.capacity) (after_is ∙ popped_is) ∙ full,
      )

  -- what holds of a ring, or of none
  abbrev pub IsRing : Option (Buffer (ℕ × X)) → Type 0
  IsRing o = IsMade o × (length (entries_of o) ≤ AT_HAND_LIMIT) × Ascend (entries_of o)

  -- what is put where there is room
  pub puts_behind : (place : ℕ) (x : X) (o : Option (Buffer (ℕ × X))) (ring after : Buffer (ℕ × X))
      → IsRing o → has_room place (entries_of o) ≡ true → ring ≡ buffer (entries_of o) AT_HAND_LIMIT
      → after ≡ buffer (keep_last ring.capacity (ring.items ++ (place, x) ∷ [])) ring.capacity
      → (after ≡ buffer (entries_of o ++ (place, x) ∷ []) AT_HAND_LIMIT) × IsRing (Some after)
  puts_behind place x o ring after is room ring_is after_is =
      let both = both_true (nat_lt (length (entries_of o)) AT_HAND_LIMIT) (are_below place (entries_of o)) room in
      let less = ltb-true (length (entries_of o)) AT_HAND_LIMIT both.0 in
      let long = length-append (entries_of o) ((place, x) ∷ []) in
      let few : length (entries_of o ++ (place, x) ∷ []) ≤ AT_HAND_LIMIT = omega (arith, less, long) in
      let made : after ≡ buffer (entries_of o ++ (place, x) ∷ []) AT_HAND_LIMIT =
      after_is
      ∙ ap (λ (b : Buffer (ℕ × X)). buffer (keep_last b.capacity (b.items ++ (place, x) ∷ [])) b.capacity) ring_is
      ∙ ap (λ l. buffer l AT_HAND_LIMIT) (keep_all AT_HAND_LIMIT (entries_of o ++ (place, x) ∷ []) few) in
      (made, subst (λ (b : Buffer (ℕ × X)). IsRing (Some b)) (sym made) (refl, few, ascend_push place x (entries_of o) is.2 both.1))
    where
      both_true : (a b : Bool) → a && b ≡ true → (a ≡ true) × (b ≡ true)
      both_true true b is = (refl, is)
      both_true false b is = absurd cc

  -- what is left in the ring
  pub leaves_ring : (place : ℕ) (ring after : Buffer (ℕ × X)) → IsRing (Some ring) → after ≡ buffer (without place ring.items) ring.capacity → IsRing (Some after)
  leaves_ring place ring after is after_is =
      let less = fewer_without place ring.items in
      let few = is.1 in
      subst (λ (b : Buffer (ℕ × X)). IsRing (Some b)) (sym after_is) (is.0, omega (arith, less, few), ascend_without place ring.items is.2)
