-- What putting a message into the table of retained messages, and taking one out, makes of those for which a test holds.
use Rattle.std.proofs.Common.{◌≡◌, ◌⊎◌, ℕ, ◌≤◌, ◌<◌, Bool, true, false, cond, not, List, [], ◌∷◌, filter, nat_eq, Option, Some, None, refl, sym, ap, subst, ◌∙◌, inl, inr, arith}
use Rattle.std.specs.Prelude.{find, nat_lt}
use Rattle.std.specs.List.{AllByRecursion}
use Rattle.std.proofs.lemmas.Bool.{cases_Bool, ltb-true}
use Rattle.std.proofs.lemmas.Cmp.{nat_eq_equiv}
use Rattle.mqtt_records.specs.declared.messages.message.RetainedMessage.{RetainedMessage}
use Rattle.mqtt_records.specs.lists.Order.{IsAbove, IsAscending, insert_row, remove_row}
use Rattle.mqtt_records.specs.state.Records.{kept_place}
use Rattle.mqtt_records.proofs.lists_lemmas.OrderLemmas.{apart}
use Rattle.mqtt_rules.specs.step.Laws.{IsAmong}
use Rattle.mqtt_rules.specs.step.Routing.{place_of_kept}
use Rattle.mqtt_rules.proofs.step_lemmas.acts.Leads.{found_among, found_passes}

-- ---- numbers

not_less : (m n : ℕ) → n ≤ m → nat_lt m n ≡ false
not_less m n le = elim (cases_Bool (nat_lt m n)) [
  | inl so ↦ absurd (let lt = ltb-true m n so in omega (arith, lt, le))
  | inr is_not ↦ is_not
]

-- a number is the same as one that it equals
pub same_number : (m n : ℕ) → m ≡ n → nat_eq m n ≡ true
same_number m n is = subst (λ (k : ℕ). nat_eq m k ≡ true) is (nat_eq_equiv.refl m)

-- ---- messages among others

-- what is above a number, if all are
pub above_one : (n : ℕ) (k : RetainedMessage) (ks : List RetainedMessage) → IsAmong k ks → IsAbove kept_place n ks → n < k.place
above_one n k [] among h = absurd among
above_one n k (x ∷ xs) among h = elim among [
  | inl it ↦ subst (λ (y : RetainedMessage). n < y.place) it h.0
  | inr more ↦ above_one n k xs more h.1
]

-- at each place there is one message
pub same_place : (j k : RetainedMessage) (ks : List RetainedMessage) → IsAscending kept_place ks → IsAmong j ks → IsAmong k ks → j.place ≡ k.place → j ≡ k
same_place j k [] up a b is = absurd a
same_place j k (x ∷ xs) up a b is = elim a [
  | inl it ↦ elim b [
    | inl its ↦ sym it ∙ its
    | inr more ↦
        let less = above_one x.place k xs more up.0 in
        let here : x.place ≡ j.place = ap (λ (y : RetainedMessage). y.place) it in
        absurd (omega (arith, less, here, is))
  ]
  | inr more ↦ elim b [
    | inl its ↦
        let less = above_one x.place j xs more up.0 in
        let here : x.place ≡ k.place = ap (λ (y : RetainedMessage). y.place) its in
        absurd (omega (arith, less, here, is))
    | inr rest ↦ same_place j k xs up.1 more rest is
  ]
]

-- what holds of whatever is among some holds of all of them
pub all_of : (Q : RetainedMessage → Type 0) (ks : List RetainedMessage) → ((k : RetainedMessage) → IsAmong k ks → Q k) → AllByRecursion Q ks
all_of Q [] f = tt
all_of Q (x ∷ xs) f = (f x (inl refl), all_of Q xs (λ k among. f k (inr among)))

in_one : (x k : RetainedMessage) → IsAmong k (x ∷ []) → x ≡ k
in_one x k among = elim among [ inl it ↦ it | inr more ↦ absurd more ]

-- one at most
abbrev pub AtMostOne : List RetainedMessage → Type 0
AtMostOne ks = (ks ≡ []) ⊎ ((k : RetainedMessage) × (ks ≡ k ∷ []))

-- ---- those for which a test holds

module _ (P : RetainedMessage → Bool) where
  -- there are none if it fails of all
  pub none_pass : (ks : List RetainedMessage) → AllByRecursion (λ (k : RetainedMessage). P k ≡ false) ks → filter P ks ≡ []
  none_pass [] h = refl
  none_pass (k ∷ ks) h = let fails = h.0 in rw fails (none_pass ks h.1)

  -- so it is if none is found
  pub none_found : (ks : List RetainedMessage) → find P ks ≡ None → AllByRecursion (λ (k : RetainedMessage). P k ≡ false) ks
  none_found [] is = tt
  none_found (x ∷ xs) is = elim (cases_Bool (P x)) [
    | inl here ↦ let is_not : Some x ≡ None = rw here at is in absurd cc
    | inr fails ↦ (fails, none_found xs (rw fails at is))
  ]

  first_among : (ks rest : List RetainedMessage) (k : RetainedMessage) → filter P ks ≡ k ∷ rest → IsAmong k ks
  first_among [] rest k is = absurd cc
  first_among (x ∷ xs) rest k is = elim (cases_Bool (P x)) [
    | inl here ↦ let both : x ∷ filter P xs ≡ k ∷ rest = rw here at is in let it : x ≡ k = cc in inl it
    | inr fails ↦ inr (first_among xs rest k (rw fails at is))
  ]

  -- one that is among them, if it holds of that
  pub among_passing : (k : RetainedMessage) (ks : List RetainedMessage) → IsAmong k ks → P k ≡ true → IsAmong k (filter P ks)
  among_passing k [] among is = absurd among
  among_passing k (x ∷ xs) among is = elim among [
    | inl it ↦ let here : P x ≡ true = ap P it ∙ is in rw here (inl it)
    | inr more ↦
        let rest = among_passing k xs more is in
        elim (cases_Bool (P x)) [
          | inl here ↦ rw here (inr rest)
          | inr fails ↦ rw fails rest
        ]
  ]

  -- it is the only one, if there is at most one
  pub the_one : (k : RetainedMessage) (ks : List RetainedMessage) → AtMostOne (filter P ks) → IsAmong k ks → P k ≡ true → filter P ks ≡ k ∷ []
  the_one k ks one among is =
      let there = among_passing k ks among is in
      elim one [
        | inl none ↦ absurd (subst (λ (xs : List RetainedMessage). IsAmong k xs) none there)
        | inr x ↦ x.1 ∙ ap (λ (y : RetainedMessage). y ∷ []) (in_one x.0 k (subst (λ (xs : List RetainedMessage). IsAmong k xs) x.1 there))
      ]

  -- ---- a message is put there

  -- of which it fails
  pub put_other : (row : RetainedMessage) (ks : List RetainedMessage) → P row ≡ false
      → AllByRecursion (λ (k : RetainedMessage). nat_eq row.place k.place ≡ true → P k ≡ false) ks → filter P (insert_row kept_place row ks) ≡ filter P ks
  put_other row [] is_not h = rw is_not refl
  put_other row (x ∷ xs) is_not h =
      let more = put_other row xs is_not h.1 in
      elim (cases_Bool (nat_lt row.place x.place)) [
        | inl below ↦ rw below (rw is_not refl)
        | inr beyond ↦ elim (cases_Bool (nat_eq row.place x.place)) [
          | inl same ↦ let gone = h.0 same in rw (beyond, same) (rw (is_not, gone) refl)
          | inr other ↦ rw (beyond, other) (ap (λ (ys : List RetainedMessage). cond (P x) (x ∷ ys) ys) more)
        ]
      ]

  -- of which it holds, where it held of none
  pub put_new : (row : RetainedMessage) (ks : List RetainedMessage) → P row ≡ true → AllByRecursion (λ (k : RetainedMessage). P k ≡ false) ks
      → filter P (insert_row kept_place row ks) ≡ row ∷ []
  put_new row [] so h = rw so refl
  put_new row (x ∷ xs) so h =
      let gone = h.0 in
      let rest = ap (λ (ys : List RetainedMessage). row ∷ ys) (none_pass xs h.1) in
      let more = put_new row xs so h.1 in
      elim (cases_Bool (nat_lt row.place x.place)) [
        | inl below ↦ rw below (rw (so, gone) rest)
        | inr beyond ↦ elim (cases_Bool (nat_eq row.place x.place)) [
          | inl same ↦ rw (beyond, same) (rw so rest)
          | inr other ↦ rw (beyond, other) (rw gone more)
        ]
      ]

  put_over : (row k : RetainedMessage) (ks : List RetainedMessage) → IsAscending kept_place ks → filter P ks ≡ k ∷ [] → row.place ≡ k.place → P row ≡ true
      → filter P (insert_row kept_place row ks) ≡ row ∷ []
  put_over row k [] up one here so = absurd cc
  put_over row k (x ∷ xs) up one here so = elim (cases_Bool (P x)) [
    | inl is ↦
        let both : x ∷ filter P xs ≡ k ∷ [] = rw is at one in
        let it : x ≡ k = cc in
        let none : filter P xs ≡ [] = cc in
        let equal : row.place ≡ x.place = here ∙ ap (λ (y : RetainedMessage). y.place) (sym it) in
        let beyond : nat_lt row.place x.place ≡ false = not_less row.place x.place (omega (arith, equal)) in
        let same : nat_eq row.place x.place ≡ true = same_number row.place x.place equal in
        rw (beyond, same) (rw so (ap (λ (ys : List RetainedMessage). row ∷ ys) none))
    | inr fails ↦
        let rest : filter P xs ≡ k ∷ [] = rw fails at one in
        let less = above_one x.place k xs (first_among xs [] k rest) up.0 in
        let beyond : nat_lt row.place x.place ≡ false = not_less row.place x.place (omega (arith, here, less)) in
        let other : nat_eq row.place x.place ≡ false = apart row.place x.place (λ is. omega (arith, is, here, less)) in
        rw (beyond, other) (rw fails (put_over row k xs up.1 rest here so))
  ]

  -- in the place of the one of which it held, if there was one
  pub put_its : (row : RetainedMessage) (ks : List RetainedMessage) (o : Option RetainedMessage) → find P ks ≡ o → IsAscending kept_place ks
      → AtMostOne (filter P ks)
      → row.place ≡ place_of_kept o ks → P row ≡ true → filter P (insert_row kept_place row ks) ≡ row ∷ []
  put_its row ks None found up one here so = put_new row ks so (none_found ks found)
  put_its row ks (Some k) found up one here so =
      put_over row k ks up (the_one k ks one (found_among P k ks found) (found_passes P k ks found)) here so

  -- ---- a message is taken out

  -- two tests, in either order
  pub swap : (Q : RetainedMessage → Bool) (ks : List RetainedMessage) → filter P (filter Q ks) ≡ filter Q (filter P ks)
  swap Q [] = refl
  swap Q (x ∷ xs) =
      let more = swap Q xs in
      elim (cases_Bool (Q x)) [
        | inl q ↦ elim (cases_Bool (P x)) [
          | inl p ↦ rw q (rw p (rw q (ap (λ (ys : List RetainedMessage). x ∷ ys) more)))
          | inr p ↦ rw q (rw p more)
        ]
        | inr q ↦ elim (cases_Bool (P x)) [
          | inl p ↦ rw q (rw p (rw q more))
          | inr p ↦ rw q (rw p more)
        ]
      ]

  abbrev elsewhere : ℕ → RetainedMessage → Bool
  elsewhere place k = not (nat_eq (kept_place k) place)

  -- the one of which it held
  pub take_its : (k : RetainedMessage) (ks : List RetainedMessage) → filter P ks ≡ k ∷ [] → filter P (remove_row kept_place k.place ks) ≡ []
  take_its k ks is =
      let here : nat_eq k.place k.place ≡ true = nat_eq_equiv.refl k.place in
      let last : filter (elsewhere k.place) (k ∷ []) ≡ [] = rw here refl in
      swap (elsewhere k.place) ks ∙ ap (filter (elsewhere k.place)) is ∙ last

  -- another
  pub take_other : (k : RetainedMessage) (ks : List RetainedMessage) → IsAscending kept_place ks → IsAmong k ks → P k ≡ false → AtMostOne (filter P ks)
      → filter P (remove_row kept_place k.place ks) ≡ filter P ks
  take_other k ks up among fails one = elim one [
    | inl none ↦ swap (elsewhere k.place) ks ∙ ap (filter (elsewhere k.place)) none ∙ sym none
    | inr x ↦
        let j = x.0 in
        let there = first_among ks [] j x.1 in
        let holds : P j ≡ true = first_passes ks [] j x.1 in
        let other : nat_eq j.place k.place ≡ false = apart j.place k.place (λ same. let it : j ≡ k = same_place j k ks up there among same in
        let both : true ≡ false = sym holds ∙ ap P it ∙ fails in absurd cc) in
        let stays : filter (elsewhere k.place) (j ∷ []) ≡ j ∷ [] = rw other refl in
        swap (elsewhere k.place) ks ∙ ap (filter (elsewhere k.place)) x.1 ∙ stays ∙ sym x.1
  ]
    where
      first_passes : (xs rest : List RetainedMessage) (y : RetainedMessage) → filter P xs ≡ y ∷ rest → P y ≡ true
      first_passes [] rest y is = absurd cc
      first_passes (z ∷ zs) rest y is = elim (cases_Bool (P z)) [
        | inl here ↦ let both : z ∷ filter P zs ≡ y ∷ rest = rw here at is in let it : z ≡ y = cc in ap P (sym it) ∙ here
        | inr not_so ↦ first_passes zs rest y (rw not_so at is)
      ]
