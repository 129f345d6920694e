-- Members of lists in the order of their keys, after an edit.
use Rattle.std.proofs.Common.{◌≡◌, ◌≢◌, ◌⊎◌, ℕ, ◌<◌, true, false, List, [], ◌∷◌, nat_eq, nat_lt, refl, sym, ap, subst, ◌∙◌, arith, inl, inr}
use Rattle.std.specs.List.{AllByRecursion}
use Rattle.std.proofs.lemmas.Bool.{eqb-true, eq-eqb, cases_Bool, cases_order, lt-ltb, le-ltb}
use Rattle.mqtt_records.specs.declared.state.session.Session.{Session}
use Rattle.mqtt_records.specs.lists.Order.{IsAbove, IsAscending, row_at, insert_row, remove_row, change_row}
use Rattle.mqtt_records.specs.state.Session.{birth_of}
use Rattle.mqtt_records.specs.state.Records.{HasSome}
use Rattle.mqtt_records.specs.state.Members.{Has, InPart}

-- what holds of all members holds of each
pub has_all : {X : Type 0} (P : X → Type 0) (xs : List X) (x : X) → AllByRecursion P xs → Has xs x → P x
has_all P [] x all h = absurd h
has_all P (y ∷ ys) x all (inl same) = subst P (sym same) all.0
has_all P (y ∷ ys) x all (inr h) = has_all P ys x all.1 h

module _ {X : Type 0} (key : X → ℕ) where
  differs : (m n : ℕ) → nat_eq m n ≡ false → m ≢ n
  differs m n isnt same = let yes : nat_eq m n ≡ true = eq-eqb m n same in let both : true ≡ false = sym yes ∙ isnt in absurd cc

  -- if all keys are above a number, so is each member's
  pub has_above : (n : ℕ) (xs : List X) (x : X) → IsAbove key n xs → Has xs x → n < key x
  has_above n [] x up h = absurd h
  has_above n (y ∷ ys) x up (inl same) = subst (λ z. n < key z) (sym same) up.0
  has_above n (y ∷ ys) x up (inr h) = has_above n ys x up.1 h

  -- ---- the row with a key changed

  -- after a row is changed, a member is that one changed, or another that stood before
  pub changed_new : (k : ℕ) (f : X → X) (xs : List X) (x : X) → IsAscending key xs → Has (change_row key k f xs) x
      → ((y : X) × Has xs y × (key y ≡ k) × (x ≡ f y)) ⊎ (Has xs x × (key x ≢ k))
  changed_new k f [] x up h = absurd h
  changed_new k f (y ∷ ys) x up h = elim (cases_Bool (nat_eq (key y) k)) [
    | inl is ↦
        let same : key y ≡ k = eqb-true (key y) k is in
        let there : Has (f y ∷ ys) x = rw is at h in
        elim there [
          | inl here ↦ inl (y, inl refl, same, here)
          | inr later ↦ let more = has_above (key y) ys x up.0 later in inr (inr later, λ e. omega (arith, e, same, more))
        ]
    | inr isnt ↦
        let there : Has (y ∷ change_row key k f ys) x = rw isnt at h in
        elim there [
          | inl here ↦ inr (inl here, subst (λ z. key z ≢ k) (sym here) (differs (key y) k isnt))
          | inr later ↦ elim (changed_new k f ys x up.1 later) [
            | inl it ↦ inl (it.0, inr it.1, it.2, it.3)
            | inr it ↦ inr (inr it.0, it.1)
          ]
        ]
  ]

  -- after a row is changed, that one stands changed and the others do as before
  pub changed_old : (k : ℕ) (f : X → X) (xs : List X) (x : X) → IsAscending key xs
      → ((y : X) × Has xs y × (key y ≡ k) × (x ≡ f y)) ⊎ (Has xs x × (key x ≢ k)) → Has (change_row key k f xs) x
  changed_old k f [] x up (inl it) = absurd it.1
  changed_old k f [] x up (inr it) = absurd it.0
  changed_old k f (y ∷ ys) x up it = elim (cases_Bool (nat_eq (key y) k)) [
    | inl is ↦
        let same : key y ≡ k = eqb-true (key y) k is in
        let there : Has (f y ∷ ys) x = elim it [
          | inl set ↦ elim set.1 [
            | inl here ↦ inl (set.3 ∙ ap f here)
            | inr later ↦ let more = has_above (key y) ys set.0 up.0 later in let at_k = set.2 in absurd (omega (arith, at_k, same, more))
          ]
          | inr stays ↦ elim stays.0 [
            | inl here ↦ absurd (stays.1 (ap key here ∙ same))
            | inr later ↦ inr later
          ]
        ] in
        rw is there
    | inr isnt ↦
        let there : Has (y ∷ change_row key k f ys) x = elim it [
          | inl set ↦ elim set.1 [
            | inl here ↦ absurd (differs (key y) k isnt (sym (ap key here) ∙ set.2))
            | inr later ↦ inr (changed_old k f ys x up.1 (inl (set.0, later, set.2, set.3)))
          ]
          | inr stays ↦ elim stays.0 [
            | inl here ↦ inl here
            | inr later ↦ inr (changed_old k f ys x up.1 (inr (later, stays.1)))
          ]
        ] in
        rw isnt there
  ]

  -- ---- a row put

  -- after a row is put, a member is that one, or another with another key
  pub inserted_new : (row : X) (xs : List X) (x : X) → IsAscending key xs → Has (insert_row key row xs) x → (x ≡ row) ⊎ (Has xs x × (key x ≢ key row))
  inserted_new row [] x up (inl here) = inl here
  inserted_new row [] x up (inr h) = absurd h
  inserted_new row (y ∷ ys) x up h = elim (cases_Bool (nat_lt (key row) (key y))) [
    | inl before ↦
        let less : key row < key y = Rattle.std.proofs.lemmas.Bool.ltb-true (key row) (key y) before in
        let there : Has (row ∷ y ∷ ys) x = rw before at h in
        elim there [
          | inl here ↦ inl here
          | inr later ↦ elim later [
            | inl is ↦ inr (inl is, λ e. let k : key x ≡ key y = ap key is in omega (arith, e, k, less))
            | inr on ↦ let more = has_above (key y) ys x up.0 on in inr (inr on, λ e. omega (arith, e, more, less))
          ]
        ]
    | inr late ↦ elim (cases_Bool (nat_eq (key row) (key y))) [
      | inl is ↦
          let same : key row ≡ key y = eqb-true (key row) (key y) is in
          let there : Has (row ∷ ys) x = rw (late, is) at h in
          elim there [
            | inl here ↦ inl here
            | inr on ↦ let more = has_above (key y) ys x up.0 on in inr (inr on, λ e. omega (arith, e, more, same))
          ]
      | inr isnt ↦
          let there : Has (y ∷ insert_row key row ys) x = rw (late, isnt) at h in
          elim there [
            | inl here ↦ inr (inl here, λ e. differs (key row) (key y) isnt (sym e ∙ ap key here))
            | inr on ↦ elim (inserted_new row ys x up.1 on) [
              | inl it ↦ inl it
              | inr it ↦ inr (inr it.0, it.1)
            ]
          ]
    ]
  ]

  -- after a row is put, that one stands and those with other keys do
  pub inserted_old : (row : X) (xs : List X) (x : X) → (x ≡ row) ⊎ (Has xs x × (key x ≢ key row)) → Has (insert_row key row xs) x
  inserted_old row [] x (inl here) = inl here
  inserted_old row [] x (inr it) = absurd it.0
  inserted_old row (y ∷ ys) x it = elim (cases_Bool (nat_lt (key row) (key y))) [
    | inl before ↦ rw before (elim it [ inl here ↦ inl here | inr old ↦ inr old.0 ])
    | inr late ↦ elim (cases_Bool (nat_eq (key row) (key y))) [
      | inl is ↦
          let same : key row ≡ key y = eqb-true (key row) (key y) is in
          let there : Has (row ∷ ys) x = elim it [
            | inl here ↦ inl here
            | inr old ↦ elim old.0 [
              | inl at_y ↦ absurd (old.1 (ap key at_y ∙ sym same))
              | inr on ↦ inr on
            ]
          ] in
          rw (late, is) there
      | inr isnt ↦
          let there : Has (y ∷ insert_row key row ys) x = elim it [
            | inl here ↦ inr (inserted_old row ys x (inl here))
            | inr old ↦ elim old.0 [
              | inl at_y ↦ inl at_y
              | inr on ↦ inr (inserted_old row ys x (inr (on, old.1)))
            ]
          ] in
          rw (late, isnt) there
    ]
  ]

  -- ---- a row removed

  -- after a row is removed, a member stood before and has another key
  pub removed_new : (k : ℕ) (xs : List X) (x : X) → Has (remove_row key k xs) x → Has xs x × (key x ≢ k)
  removed_new k [] x h = absurd h
  removed_new k (y ∷ ys) x h = elim (cases_Bool (nat_eq (key y) k)) [
    | inl is ↦ let there : Has (remove_row key k ys) x = rw is at h in let it = removed_new k ys x there in (inr it.0, it.1)
    | inr isnt ↦
        let there : Has (y ∷ remove_row key k ys) x = rw isnt at h in
        elim there [
          | inl here ↦ (inl here, subst (λ z. key z ≢ k) (sym here) (differs (key y) k isnt))
          | inr on ↦ let it = removed_new k ys x on in (inr it.0, it.1)
        ]
  ]

  -- after a row is removed, those with other keys stand
  pub removed_old : (k : ℕ) (xs : List X) (x : X) → Has xs x → key x ≢ k → Has (remove_row key k xs) x
  removed_old k [] x h other = absurd h
  removed_old k (y ∷ ys) x h other = elim (cases_Bool (nat_eq (key y) k)) [
    | inl is ↦
        let same : key y ≡ k = eqb-true (key y) k is in
        rw is (elim h [ inl here ↦ absurd (other (ap key here ∙ same)) | inr on ↦ removed_old k ys x on other ])
    | inr isnt ↦
        let there : Has (y ∷ remove_row key k ys) x = elim h [ inl here ↦ inl here | inr on ↦ inr (removed_old k ys x on other) ] in
        rw isnt there
  ]

-- a row that is found stands in the list
pub found_has : {X : Type 0} (key : X → ℕ) (k : ℕ) (xs : List X) (P : X → Type 0) → HasSome (row_at key k xs) P → (x : X) × Has xs x × (key x ≡ k) × P x
found_has key k [] P h = absurd h
found_has key k (y ∷ ys) P h = elim (cases_Bool (nat_eq (key y) k)) [
  | inl is ↦ let here : P y = rw is at h in (y, inl refl, eqb-true (key y) k is, here)
  | inr isnt ↦ let there : HasSome (row_at key k ys) P = rw isnt at h in let it = found_has key k ys P there in (it.0, inr it.1, it.2, it.3)
]

-- ---- a list of one session edited

module _ {X : Type 0} (part : Session → List X) (birth : ℕ) (f : Session → Session) (sessions : List Session) (up : IsAscending birth_of sessions) (keeps : (s : Session) → (f s).birth ≡ s.birth) where
  -- what the edited list of the session has, and what all others have
  pub edited_new : (New Old : X → Type 0) → ((s : Session) (x : X) → Has sessions s → s.birth ≡ birth → Has (part (f s)) x → New x ⊎ (Has (part s) x × Old x))
      → (b : ℕ) (x : X) → InPart part (change_row birth_of birth f sessions) b x → ((b ≡ birth) × New x) ⊎ (InPart part sessions b x × (b ≡ birth → Old x))
  edited_new New Old each b x it = elim (changed_new birth_of birth f sessions it.0 up it.1) [
    | inl set ↦
        let at_b : b ≡ birth = sym it.2 ∙ (ap birth_of set.3 ∙ (keeps set.0 ∙ set.2)) in
        let there : Has (part (f set.0)) x = subst (λ (s : Session). Has (part s) x) set.3 it.3 in
        elim (each set.0 x set.1 set.2 there) [
          | inl new ↦ inl (at_b, new)
          | inr old ↦ inr ((set.0, set.1, set.2 ∙ sym at_b, old.0), λ _. old.1)
        ]
    | inr stays ↦ inr ((it.0, stays.0, it.2, it.3), λ e. absurd (stays.1 (it.2 ∙ e)))
  ]

  -- after one session's list is edited, what is new stands there, and what was to stay stands, as in all others
  pub edited_old : (New Old : X → Type 0) → ((s : Session) (x : X) → Has sessions s → s.birth ≡ birth → New x ⊎ (Has (part s) x × Old x) → Has (part (f s)) x)
      → ((x : X) → New x → (s : Session) × Has sessions s × (s.birth ≡ birth))
      → (b : ℕ) (x : X) → ((b ≡ birth) × New x) ⊎ (InPart part sessions b x × (b ≡ birth → Old x)) → InPart part (change_row birth_of birth f sessions) b x
  edited_old New Old each some b x (inl new) =
      let one = some x new.1 in
      (f one.0, changed_old birth_of birth f sessions (f one.0) up (inl (one.0, one.1, one.2, refl)), keeps one.0 ∙ (one.2 ∙ sym new.0), each one.0 x one.1 one.2 (inl new.1))
  edited_old New Old each some b x (inr old) = let it = old.0 in elim (cases_Bool (nat_eq b birth)) [
    | inl is ↦
        let same : b ≡ birth = eqb-true b birth is in
        (f it.0, changed_old birth_of birth f sessions (f it.0) up (inl (it.0, it.1, it.2 ∙ same, refl)), keeps it.0 ∙ it.2, each it.0 x it.1 (it.2 ∙ same) (inr (it.3, old.1 same)))
    | inr isnt ↦ (it.0, changed_old birth_of birth f sessions it.0 up (inr (it.1, λ e. differs birth_of b birth isnt (sym it.2 ∙ e))), it.2, it.3)
  ]
