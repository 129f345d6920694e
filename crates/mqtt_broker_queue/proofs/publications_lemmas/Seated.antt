-- Lines give their sessions seats, the last line first.
use Rattle.std.proofs.Common.{◌≡◌, ◌≢◌, ℕ, zero, suc, ◌-◌, ◌<◌, ◌≤◌, Bool, true, false, cond, List, [], ◌∷◌, length, take, drop, nat_eq, refl, ap, sym, subst, ◌∙◌, arith, drop-cons, inl, inr}
use Rattle.std.specs.Prelude.{Option, Some, None, find, get_or, slice_set}
use Rattle.std.proofs.lemmas.Bool.{cases_Bool, eqb-true}
use Rattle.std.proofs.lemmas.Cmp.{nat_eq_equiv}
use Rattle.std.proofs.lemmas.List.{get_or-set_same, get_or-set_other, drop_all}
use Rattle.mqtt_records.specs.lists.Order.{IsAscending, row_at}
use Rattle.mqtt_rules.specs.step.State.{Line, is_of}
use Rattle.mqtt_rules.proofs.step_lemmas.acts.Leads.{found_among}
use Rattle.mqtt_rules.proofs.step_lemmas.fit.FitLaw.{all_among}
use Rattle.mqtt_rules.proofs.step_lemmas.flight.FlightRows.{all_found}
use Rattle.mqtt_broker_step.specs.Lines.{line_number}
use Rattle.mqtt_broker_step.proofs.Sendings.{line_found}
use Rattle.mqtt_broker_queue.specs.publications.Seats.{AreSeatsOf, seat_of, seated}

-- ---- what is sought behind a place

found_step : {X : Type 0} (t : Bool) (x : X) (front back whole : Option X) → (front ≡ None → back ≡ whole) → cond t (Some x) front ≡ None → back ≡ cond t (Some x) whole
found_step true x front back whole h none = absurd cc
found_step false x front back whole h none = h none

-- what isn't found before a place is found from there on, if anywhere
pub found_behind : {X : Type 0} (test : X → Bool) (at : ℕ) (xs : List X) → find test (take at xs) ≡ None → find test (drop at xs) ≡ find test xs
found_behind test zero xs none = refl
found_behind test (suc at) [] none = refl
found_behind test (suc at) (x ∷ xs) none = found_step (test x) x (find test (take at xs)) (find test (drop at xs)) (find test xs) (found_behind test at xs) none

nowhere : {X : Type 0} (test : X → Bool) (count : ℕ) → find test (take count []) ≡ None
nowhere test zero = refl
nowhere test (suc count) = refl

one_more_by : {X : Type 0} (test : X → Bool) (more less : ℕ) (x : X) (xs : List X) → test x ≡ false → less ≡ more - 1 → find test (take less xs) ≡ None → find test (take more (x ∷ xs)) ≡ None
one_more_by test zero less x xs other_one is none = refl
one_more_by test (suc more) less x xs other_one is none =
    let same : less ≡ more = omega (arith, is) in
    ap (λ t. cond t (Some x) (find test (take more xs))) other_one ∙ (ap (λ n. find test (take n xs)) (sym same) ∙ none)

-- one more in front, where it isn't
one_more : {X : Type 0} (test : X → Bool) (n at : ℕ) (x : X) (xs : List X) → test x ≡ false → find test (take (n - suc at) xs) ≡ None → find test (take (n - at) (x ∷ xs)) ≡ None
one_more test n at x xs other_one none = one_more_by test (n - at) (n - suc at) x xs other_one (omega arith) none

-- a line that a search finds is found by its number, since lines are in the order of their numbers
pub found_number : (test : Line → Bool) (l : Line) (lines : List Line) → IsAscending line_number lines → find test lines ≡ Some l → find (λ k. nat_eq k.number l.number) lines ≡ Some l
found_number test l lines up found =
    sym (line_found l.number lines)
    ∙ all_among (λ (k : Line). row_at line_number k.number lines ≡ Some k) l lines (all_found line_number lines up) (found_among test l lines found)

-- ---- seats

-- from the line at an index on no session is connected on a line before its seat
abbrev pub AreSeatsFrom : ℕ → List ℕ → List Line → Type 0
AreSeatsFrom at seats lines = (birth : ℕ) → find (λ l. is_of l.session birth) (take (get_or seats (seat_of birth) 0 - at) (drop at lines)) ≡ None

-- behind the last line there is none
pub seats_first : (at : ℕ) (seats : List ℕ) (lines : List Line) → length lines ≤ at → AreSeatsFrom at seats lines
seats_first at seats lines all = λ birth.
    ap (λ (ls : List Line). find (λ l. is_of l.session birth) (take (get_or seats (seat_of birth) 0 - at) ls)) (drop_all at lines all)
    ∙ nowhere (λ (l : Line). is_of l.session birth) (get_or seats (seat_of birth) 0 - at)

-- from the first line on that is all
pub seats_last : (seats : List ℕ) (lines : List Line) → AreSeatsFrom 0 seats lines → AreSeatsOf seats lines
seats_last seats lines from = λ birth.
    let same : get_or seats (seat_of birth) 0 ≡ get_or seats (seat_of birth) 0 - 0 = omega arith in
    ap (λ n. find (λ (l : Line). is_of l.session birth) (take n lines)) same ∙ from birth

module _ (at : ℕ) (l : Line) (rest lines : List Line) (seats : List ℕ) (here : drop at lines ≡ l ∷ rest) (behind : drop (suc at) lines ≡ rest) (birth : ℕ) where
  abbrev test : Line → Bool
  test k = is_of k.session birth

  -- a seat that stays
  stays : (seat : ℕ) → is_of l.session birth ≡ false → find test (take (seat - suc at) (drop (suc at) lines)) ≡ None → find test (take (seat - at) (drop at lines)) ≡ None
  stays seat other_one none =
      ap (λ (ls : List Line). find test (take (seat - at) ls)) here
      ∙ one_more test seat at l rest other_one (ap (λ (ls : List Line). find test (take (seat - suc at) ls)) (sym behind) ∙ none)

  -- a seat that is the line's own index
  own : (seat : ℕ) → seat ≡ at → find test (take (seat - at) (drop at lines)) ≡ None
  own seat is =
      let none : seat - at ≡ 0 = omega (arith, is) in
      ap (λ n. find test (take n (drop at lines))) none

  by_session : (o : Option ℕ) → l.session ≡ o → length seats ≡ 1024 → seat_of birth < 1024 → find test (take (get_or seats (seat_of birth) 0 - suc at) (drop (suc at) lines)) ≡ None
      → find test (take (get_or (seated o at seats) (seat_of birth) 0 - at) (drop at lines)) ≡ None
  by_session None is many low none = stays (get_or seats (seat_of birth) 0) (ap (λ o. is_of o birth) is) none
  by_session (Some other) is many low none = elim (cases_Bool (nat_eq (seat_of other) (seat_of birth))) [
    | inl same ↦
        let one : seat_of other ≡ seat_of birth = eqb-true (seat_of other) (seat_of birth) same in
        let within : seat_of other < length seats = omega (arith, one, many, low) in
        let is_at : get_or (slice_set seats (seat_of other) at) (seat_of birth) 0 ≡ at =
        ap (λ n. get_or (slice_set seats (seat_of other) at) n 0) (sym one) ∙ get_or-set_same seats (seat_of other) at 0 within in
        own (get_or (slice_set seats (seat_of other) at) (seat_of birth) 0) is_at
    | inr differ ↦
        let apart : seat_of birth ≢ seat_of other = λ e. let clash : true ≡ false = sym (nat_eq_equiv.refl (seat_of other)) ∙ (ap (λ n. nat_eq (seat_of other) n) (sym e) ∙ differ) in absurd cc in
        let kept : get_or (slice_set seats (seat_of other) at) (seat_of birth) 0 ≡ get_or seats (seat_of birth) 0 = get_or-set_other seats (seat_of other) (seat_of birth) at 0 apart in
        let not_own : nat_eq other birth ≡ false = elim (cases_Bool (nat_eq other birth)) [
          | inl own_birth ↦ let same_seat : seat_of birth ≡ seat_of other = ap seat_of (sym (eqb-true other birth own_birth)) in absurd (apart same_seat)
          | inr so ↦ so
        ] in
        ap (λ n. find test (take (n - at) (drop at lines))) kept
        ∙ stays (get_or seats (seat_of birth) 0) (ap (λ o. is_of o birth) is ∙ not_own) none
  ]

-- the line at an index gives its session's seat the index
pub seats_next : (at : ℕ) (l : Line) (rest lines : List Line) (seats : List ℕ) → drop at lines ≡ l ∷ rest → drop (suc at) lines ≡ rest → length seats ≡ 1024
    → AreSeatsFrom (suc at) seats lines → AreSeatsFrom at (seated l.session at seats) lines
seats_next at l rest lines seats here behind many from = λ birth.
    by_session at l rest lines seats here behind birth l.session refl many (omega arith) (from birth)

-- the same by the line that is read at the index
pub seats_more : (at behind : ℕ) (l : Line) (lines : List Line) (seats new : List ℕ) (session : Option ℕ) → behind ≡ suc at → behind ≤ length lines → l ≡ get_or lines at l → session ≡ l.session
    → new ≡ seated session at seats → length seats ≡ 1024 → AreSeatsFrom behind seats lines → AreSeatsFrom at new lines
seats_more at behind l lines seats new session is within here session_is new_is many from =
    let some : at < length lines = omega (arith, is, within) in
    let begins : drop at lines ≡ l ∷ drop (suc at) lines = drop-cons lines at l some ∙ ap (λ k. k ∷ drop (suc at) lines) (sym here) in
    let after : AreSeatsFrom (suc at) seats lines = subst (λ n. AreSeatsFrom n seats lines) is from in
    subst (λ (s : List ℕ). AreSeatsFrom at s lines) (sym (new_is ∙ ap (λ o. seated o at seats) session_is))
    (seats_next at l (drop (suc at) lines) lines seats begins refl many after)
