-- Sessions as records have them, and as routing has them, when one changes, begins or ends.
use Rattle.std.proofs.Common.{◌≡◌, ℕ, ◌<◌, Bool, true, false, cond, ◌||◌, List, [], ◌∷◌, length, map, Some, None, nat_eq, nat_lt, refl, ap, sym, subst, ◌∙◌, inl, inr, arith}
use Rattle.std.specs.List.{AllByRecursion}
use Rattle.std.proofs.lemmas.Bool.{cases_Bool, eqb-true, eq-eqb, lt-ltb, le-ltb, ltb-true, ltb-false}
use Rattle.mqtt_base.specs.declared.limits.TheConstants.{SESSION_LIMIT}
use Rattle.mqtt_records.specs.declared.state.session.Columns.{Columns}
use Rattle.mqtt_records.specs.declared.state.session.Session.{Session}
use Rattle.mqtt_records.specs.state.Session.{birth_of, fresh, without_subscription}
use Rattle.mqtt_routes.specs.routing.Subscriptions.{Subscriber, subscriber, AreAfter, AreInOrder, beside, subs_of, with_subs, with_some, without, unsubscribed, without_session}
use Rattle.mqtt_records.specs.lists.Order.{IsAbove, IsAscending, row_at, has_row, insert_row, put_row, remove_row, change_row}
use Rattle.mqtt_records.proofs.lists_lemmas.OrderLemmas.{apart, above_less, above_none, remove-none, change-none}
use Rattle.mqtt_rules.specs.step.Routing.{subscriber_of}
use Rattle.mqtt_rules.proofs.step_lemmas.flight.FlightRows.{above_found}
use Rattle.mqtt_broker_step.specs.Subscribing.{HasEachFilterOnce}
use Rattle.mqtt_broker_queue.proofs.subscribers_lemmas.Granting.{routed_all, same_without}

-- sessions as routing has them
abbrev pub subscribers_of : List Session → List Subscriber
subscribers_of ss = map subscriber_of ss

-- ---- order

-- later births are later in routing too
pub births_after : (n : ℕ) (ss : List Session) → IsAbove birth_of n ss → AreAfter n (subscribers_of ss)
births_after n [] up = tt
births_after n (s ∷ ss) up = (up.0, births_after n ss up.1)

-- and births in order are in order
pub births_in_order : (ss : List Session) → IsAscending birth_of ss → AreInOrder (subscribers_of ss)
births_in_order [] up = tt
births_in_order (s ∷ ss) up = (births_after s.birth ss up.0, births_in_order ss up.1)

-- no later session has a birth before the first's
none_above : (k n : ℕ) (ss : List Session) → k < n → IsAbove birth_of n ss → row_at birth_of k ss ≡ None
none_above k n ss less up = above_none birth_of k ss (above_less birth_of k n ss less up)

none_same : (k n : ℕ) (ss : List Session) → n ≡ k → IsAbove birth_of n ss → row_at birth_of k ss ≡ None
none_same k n ss same up = above_none birth_of k ss (subst (λ (m : ℕ). IsAbove birth_of m ss) same up)

below_of : (k n : ℕ) → nat_lt n k ≡ false → nat_eq n k ≡ false → k < n
below_of k n not_less differs =
    let le = ltb-false n k not_less in
    elim (cases_Bool (nat_lt k n)) [
      | inl less ↦ ltb-true k n less
      | inr more ↦
          let ge = ltb-false k n more in
          let no : nat_eq n k ≡ true = eq-eqb n k (omega (arith, le, ge)) in
          absurd cc
    ]

-- ---- a session changes, and its subscriptions don't

-- routing doesn't see a change that leaves a session's subscriptions
pub same_in : (birth : ℕ) (f : Session → Session) (ss : List Session) → ((s : Session) → subscriber_of (f s) ≡ subscriber_of s) → subscribers_of (change_row birth_of birth f ss) ≡ subscribers_of ss
same_in birth f [] same = refl
same_in birth f (s ∷ ss) same = elim (cases_Bool (nat_eq s.birth birth)) [
  | inl here ↦ rw here (ap (λ x. x ∷ subscribers_of ss) (same s))
  | inr other ↦ rw other (ap (λ (xs : List Subscriber). subscriber_of s ∷ xs) (same_in birth f ss same))
]

-- ---- a session begins

begun_insert : (row : Columns) (ss : List Session) → row_at birth_of row.birth ss ≡ None → with_some (subscribers_of (insert_row birth_of (fresh row) ss)) ≡ with_some (subscribers_of ss)
begun_insert row [] new = refl
begun_insert row (s ∷ ss) new = elim (cases_Bool (nat_eq s.birth row.birth)) [
  | inl here ↦ let no : Some s ≡ None = rw here at new in absurd cc
  | inr other ↦
      let differs : nat_eq row.birth s.birth ≡ false = apart row.birth s.birth (λ e. never e other) in
      elim (cases_Bool (nat_lt row.birth s.birth)) [
        | inl before ↦ rw before refl
        | inr after ↦ rw (after, differs) (ap (λ xs. beside (routed_all s.subscriptions) (subscriber_of s) xs) (begun_insert row ss (rw other at new)))
      ]
]
  where
    never : row.birth ≡ s.birth → nat_eq s.birth row.birth ≡ false → ⊥
    never e isnt = let yes : nat_eq s.birth row.birth ≡ true = eq-eqb s.birth row.birth (sym e) in absurd cc

begun_if : (t : Bool) (row : Columns) (ss : List Session) → row_at birth_of row.birth ss ≡ None
    → with_some (subscribers_of (cond t (insert_row birth_of (fresh row) ss) ss)) ≡ with_some (subscribers_of ss)
begun_if true row ss new = begun_insert row ss new
begun_if false row ss new = refl

-- nor a session that begins, since it has none
pub same_begun : (row : Columns) (ss : List Session) → row_at birth_of row.birth ss ≡ None → with_some (subscribers_of (put_row birth_of SESSION_LIMIT (fresh row) ss)) ≡ with_some (subscribers_of ss)
same_begun row ss new = begun_if (has_row birth_of row.birth ss || nat_lt (length ss) SESSION_LIMIT) row ss new

-- ---- a session ends

-- a session that ends in the records ends in routing
pub same_ended : (birth : ℕ) (ss : List Session) → IsAscending birth_of ss → subscribers_of (remove_row birth_of birth ss) ≡ without_session birth (subscribers_of ss)
same_ended birth [] up = refl
same_ended birth (s ∷ ss) up = elim (cases_Bool (nat_eq s.birth birth)) [
  | inl here ↦
      let same = eqb-true s.birth birth here in
      let level : nat_lt s.birth birth ≡ false = le-ltb s.birth birth (omega (arith, same)) in
      rw (here, level) (ap subscribers_of (remove-none birth_of birth ss (none_same birth s.birth ss same up.0)))
  | inr other ↦ elim (cases_Bool (nat_lt s.birth birth)) [
    | inl before ↦ rw (other, before) (ap (λ (xs : List Subscriber). subscriber_of s ∷ xs) (same_ended birth ss up.1))
    | inr after ↦
        rw (other, after) (ap (λ (ts : List Session). subscribers_of (s ∷ ts)) (remove-none birth_of birth ss (none_above birth s.birth ss (below_of birth s.birth after other) up.0)))
  ]
]

-- ---- a session that stands has other subscriptions

found_here : (birth : ℕ) (s t : Session) (ss : List Session) → nat_eq t.birth birth ≡ true → row_at birth_of birth (t ∷ ss) ≡ Some s → t ≡ s
found_here birth s t ss here found = let it : Some t ≡ Some s = rw here at found in cc

-- a session that stands has the same subscriptions in both
pub found_subs : (birth : ℕ) (s : Session) (ss : List Session) → IsAscending birth_of ss → row_at birth_of birth ss ≡ Some s → subs_of birth (subscribers_of ss) ≡ routed_all s.subscriptions
found_subs birth s [] up found = absurd cc
found_subs birth s (t ∷ ss) up found = elim (cases_Bool (nat_eq t.birth birth)) [
  | inl here ↦
      let same = eqb-true t.birth birth here in
      let level : nat_lt t.birth birth ≡ false = le-ltb t.birth birth (omega (arith, same)) in
      rw (level, here) (ap (λ (x : Session). routed_all x.subscriptions) (found_here birth s t ss here found))
  | inr other ↦
      let later : row_at birth_of birth ss ≡ Some s = rw other at found in
      let before : nat_lt t.birth birth ≡ true = lt-ltb t.birth birth (above_found birth_of t.birth birth s ss up.0 later) in
      rw before (found_subs birth s ss up.1 later)
]

-- and when they change has the new ones in both
pub found_changed : (birth : ℕ) (f : Session → Session) (s : Session) (ss : List Session) → ((t : Session) → birth_of (f t) ≡ birth_of t) → IsAscending birth_of ss → row_at birth_of birth ss ≡ Some s
    → subscribers_of (change_row birth_of birth f ss) ≡ with_subs birth (routed_all (f s).subscriptions) (subscribers_of ss)
found_changed birth f s [] keeps up found = absurd cc
found_changed birth f s (t ∷ ss) keeps up found = elim (cases_Bool (nat_eq t.birth birth)) [
  | inl here ↦
      let same : t.birth ≡ birth = eqb-true t.birth birth here in
      let level : nat_lt t.birth birth ≡ false = le-ltb t.birth birth (omega (arith, same)) in
      let first : subscriber_of (f t) ≡ subscriber birth (routed_all (f s).subscriptions) =
      ap (λ (n : ℕ). subscriber n (routed_all (f t).subscriptions)) (keeps t ∙ same)
      ∙ ap (λ (x : Session). subscriber birth (routed_all (f x).subscriptions)) (found_here birth s t ss here found) in
      rw (here, level) (ap (λ x. x ∷ subscribers_of ss) first)
  | inr other ↦
      let later : row_at birth_of birth ss ≡ Some s = rw other at found in
      let before : nat_lt t.birth birth ≡ true = lt-ltb t.birth birth (above_found birth_of t.birth birth s ss up.0 later) in
      rw (other, before) (ap (λ (xs : List Subscriber). subscriber_of t ∷ xs) (found_changed birth f s ss keeps up.1 later))
]

-- ---- a session loses a subscription, if it stands

-- a filter that goes of a session in the records goes in routing
pub same_lost : (birth : ℕ) (text : List ℕ) (ss : List Session) → IsAscending birth_of ss → AllByRecursion HasEachFilterOnce ss
    → subscribers_of (change_row birth_of birth (without_subscription text) ss) ≡ unsubscribed birth text (subscribers_of ss)
same_lost birth text [] up once = refl
same_lost birth text (s ∷ ss) up once = elim (cases_Bool (nat_eq s.birth birth)) [
  | inl here ↦
      let same : s.birth ≡ birth = eqb-true s.birth birth here in
      let level : nat_lt s.birth birth ≡ false = le-ltb s.birth birth (omega (arith, same)) in
      let first : subscriber_of (without_subscription text s) ≡ subscriber birth (without text (routed_all s.subscriptions)) =
      ap (λ (n : ℕ). subscriber n (routed_all (without_subscription text s).subscriptions)) same
      ∙ ap (λ xs. subscriber birth xs) (same_without text s.subscriptions once.0.differ) in
      rw (here, level) (ap (λ x. x ∷ subscribers_of ss) first)
  | inr other ↦ elim (cases_Bool (nat_lt s.birth birth)) [
    | inl before ↦ rw (other, before) (ap (λ (xs : List Subscriber). subscriber_of s ∷ xs) (same_lost birth text ss up.1 once.1))
    | inr after ↦
        rw (other, after) (ap (λ (ts : List Session). subscribers_of (s ∷ ts)) (change-none birth_of birth (without_subscription text) ss (none_above birth s.birth ss (below_of birth s.birth after other) up.0)))
  ]
]
