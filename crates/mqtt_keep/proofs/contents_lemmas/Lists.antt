-- What lists of rows have after a row is put, changed or removed, whatever their order.
use Rattle.std.proofs.Common.{◌≡◌, ◌⊎◌, ℕ, Bool, true, false, cond, ◌||◌, nat_eq, nat_lt, not, List, [], ◌∷◌, filter, length, inl, inr, refl}
use Rattle.std.proofs.lemmas.Bool.{cases_Bool}
use Rattle.mqtt_records.specs.lists.Order.{has_row, insert_row, put_row, remove_row, change_row}
use Rattle.mqtt_records.specs.state.Members.{Has}

-- what passes a test is one of those that were tried
pub passed_has : {X : Type 0} (p : X → Bool) (xs : List X) (x : X) → Has (filter p xs) x → Has xs x
passed_has p [] x h = absurd h
passed_has p (y ∷ ys) x h = elim (cases_Bool (p y)) [
  | inl stays ↦ let there : Has (y ∷ filter p ys) x = rw stays at h in elim there [ inl here ↦ inl here | inr later ↦ inr (passed_has p ys x later) ]
  | inr goes ↦ let there : Has (filter p ys) x = rw goes at h in inr (passed_has p ys x there)
]

-- what is in one of two lists, whichever it is, is in the first or in the second
pub either_has : {X : Type 0} (b : Bool) (xs ys : List X) (x : X) → Has (cond b xs ys) x → Has xs x ⊎ Has ys x
either_has true xs ys x h = inl h
either_has false xs ys x h = inr h

module _ {X : Type 0} (key : X → ℕ) where
  inserted_has : (row : X) (xs : List X) (x : X) → Has (insert_row key row xs) x → (x ≡ row) ⊎ Has xs x
  inserted_has row [] x (inl here) = inl here
  inserted_has row [] x (inr none) = absurd none
  inserted_has row (y ∷ ys) x h = elim (cases_Bool (nat_lt (key row) (key y))) [
    | inl before ↦ let there : Has (row ∷ y ∷ ys) x = rw before at h in there
    | inr late ↦ elim (cases_Bool (nat_eq (key row) (key y))) [
      | inl is ↦ let there : Has (row ∷ ys) x = rw (late, is) at h in elim there [ inl here ↦ inl here | inr later ↦ inr (inr later) ]
      | inr isnt ↦
          let there : Has (y ∷ insert_row key row ys) x = rw (late, isnt) at h in
          elim there [
            | inl here ↦ inr (inl here)
            | inr later ↦ elim (inserted_has row ys x later) [ inl it ↦ inl it | inr it ↦ inr (inr it) ]
          ]
    ]
  ]

  -- after a row is put, each is that one or was there before
  pub put_has : (limit : ℕ) (row : X) (xs : List X) (x : X) → Has (put_row key limit row xs) x → (x ≡ row) ⊎ Has xs x
  put_has limit row xs x h = elim (either_has (has_row key (key row) xs || nat_lt (length xs) limit) (insert_row key row xs) xs x h) [
    | inl there ↦ inserted_has row xs x there
    | inr there ↦ inr there
  ]

  -- after a row is changed, each was there before, or is what became of one
  pub changed_has : (k : ℕ) (f : X → X) (xs : List X) (x : X) → Has (change_row key k f xs) x → Has xs x ⊎ ((y : X) × Has xs y × (x ≡ f y))
  changed_has k f [] x h = absurd h
  changed_has k f (y ∷ ys) x h = elim (cases_Bool (nat_eq (key y) k)) [
    | inl is ↦
        let there : Has (f y ∷ ys) x = rw is at h in
        elim there [ inl here ↦ inr (y, inl refl, here) | inr later ↦ inl (inr later) ]
    | inr isnt ↦
        let there : Has (y ∷ change_row key k f ys) x = rw isnt at h in
        elim there [
          | inl here ↦ inl (inl here)
          | inr later ↦ elim (changed_has k f ys x later) [ inl it ↦ inl (inr it) | inr it ↦ inr (it.0, inr it.1, it.2) ]
        ]
  ]

  -- after a row is removed, each was there before
  pub removed_has : (k : ℕ) (xs : List X) (x : X) → Has (remove_row key k xs) x → Has xs x
  removed_has k xs x h = passed_has (λ x. not (nat_eq (key x) k)) xs x h
