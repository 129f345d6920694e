-- What sessions have, if a change leaves it alone or takes the session away.
use Rattle.std.proofs.Common.{◌≡◌, ◌≢◌, ℕ, nat_eq, Bool, true, false, ◌||◌, List, [], ◌∷◌, ap, refl, sym, subst, ◌∙◌, inl, inr, true≢false}
use Rattle.std.proofs.lemmas.Bool.{cases_Bool, eq-eqb, eqb-true}
use Rattle.mqtt_base.specs.declared.limits.TheConstants.{SESSION_LIMIT}
use Rattle.mqtt_records.specs.declared.state.session.Session.{Session}
use Rattle.mqtt_records.specs.declared.state.session.Columns.{Columns}
use Rattle.mqtt_records.specs.lists.Order.{IsAscending, HasRoomFor, has_row, insert_row, remove_row, change_row}
use Rattle.mqtt_records.specs.state.Session.{birth_of, columns_of, with_columns, fresh}
use Rattle.mqtt_records.specs.state.Records.{put_session}
use Rattle.mqtt_records.specs.state.Members.{Has, InPart}
use Rattle.mqtt_store_database.proofs.item_laws_lemmas.records.Members.{changed_new, changed_old, inserted_new, inserted_old, removed_new, removed_old, edited_new, edited_old}

-- a row that stands is found
has_found : {X : Type 0} (key : X → ℕ) (k : ℕ) (xs : List X) (x : X) → Has xs x → key x ≡ k → has_row key k xs ≡ true
has_found key k [] x h same = absurd h
has_found key k (y ∷ ys) x h same = elim (cases_Bool (nat_eq (key y) k)) [
  | inl is ↦ rw is refl
  | inr isnt ↦ elim h [
    | inl here ↦ absurd (true≢false (sym (eq-eqb (key y) k (sym (ap key here) ∙ same)) ∙ isnt))
    | inr later ↦ rw isnt (has_found key k ys x later same)
  ]
]

-- the session's own rows, as lists of sessions have them
abbrev pub OwnRow : List Session → Columns → Type 0
OwnRow sessions c = (s : Session) × Has sessions s × (columns_of s ≡ c)

-- ---- a session edited, but not that part

module _ (birth : ℕ) (f : Session → Session) (sessions : List Session) (up : IsAscending birth_of sessions) (keeps : (s : Session) → (f s).birth ≡ s.birth) where
  module _ {X : Type 0} (part : Session → List X) (same : (s : Session) → part (f s) ≡ part s) where
    -- what a session has of a part that the change leaves alone it had before
    pub part_new : (b : ℕ) (x : X) → InPart part (change_row birth_of birth f sessions) b x → InPart part sessions b x
    part_new b x it = elim (edited_new part birth f sessions up keeps (λ _. ⊥) (λ _. Unit {0})
        (λ s x h at there. inr (subst (λ (l : List X). Has l x) (same s) there, tt)) b x it) [
          | inl none ↦ absurd none.1
          | inr old ↦ old.0
        ]

    -- what a session had of a part that the change leaves alone it has still
    pub part_old : (b : ℕ) (x : X) → InPart part sessions b x → InPart part (change_row birth_of birth f sessions) b x
    part_old b x it = edited_old part birth f sessions up keeps (λ _. ⊥) (λ _. Unit {0})
        (λ s x h at it. elim it [ inl none ↦ absurd none | inr old ↦ subst (λ (l : List X). Has l x) (sym (same s)) old.0 ])
        (λ x none. absurd none) b x (inr (it, λ _. tt))

  module _ (same : (s : Session) → columns_of (f s) ≡ columns_of s) where
    -- if the change leaves own rows alone, one that stands stood before
    pub own_new : (c : Columns) → OwnRow (change_row birth_of birth f sessions) c → OwnRow sessions c
    own_new c it = elim (changed_new birth_of birth f sessions it.0 up it.1) [
      | inl set ↦ (set.0, set.1, sym (same set.0) ∙ (sym (ap columns_of set.3) ∙ it.2))
      | inr stays ↦ (it.0, stays.0, it.2)
    ]

    -- if the change leaves own rows alone, one that stood stands
    pub own_old : (c : Columns) → OwnRow sessions c → OwnRow (change_row birth_of birth f sessions) c
    own_old c it = elim (cases_Bool (nat_eq it.0.birth birth)) [
      | inl is ↦ (f it.0, changed_old birth_of birth f sessions (f it.0) up (inl (it.0, it.1, eqb-true it.0.birth birth is, refl)), same it.0 ∙ it.2)
      | inr isnt ↦ (it.0, changed_old birth_of birth f sessions it.0 up (inr (it.1, λ e. true≢false (sym (eq-eqb it.0.birth birth e) ∙ isnt))), it.2)
    ]

-- ---- a session's own row put

or_right_true : (a b : Bool) → a ≡ false → (a || b) ≡ true → (false || b) ≡ true
or_right_true true b e h = absurd (true≢false e)
or_right_true false b e h = h

module _ (row : Columns) (sessions : List Session) (up : IsAscending birth_of sessions) (room : HasRoomFor birth_of SESSION_LIMIT row.birth sessions) where
  module _ {X : Type 0} (part : Session → List X) (same : (s : Session) → part (with_columns row s) ≡ part s) (none : part (fresh row) ≡ []) where
    -- after a session's own row is put, what sessions have of a part they had before
    pub put_part_new : (b : ℕ) (x : X) → InPart part (put_session row sessions) b x → InPart part sessions b x
    put_part_new b x it = elim (cases_Bool (has_row birth_of row.birth sessions)) [
      | inl stands ↦
          let there : Has (change_row birth_of row.birth (with_columns row) sessions) it.0 = rw stands at it.1 in
          part_new row.birth (with_columns row) sessions up (λ s. refl) part same b x (it.0, there, it.2, it.3)
      | inr isnt ↦
          let free = or_right_true _ _ isnt room in
          let there : Has (insert_row birth_of (fresh row) sessions) it.0 = rw (isnt, free) at it.1 in
          elim (inserted_new birth_of (fresh row) sessions it.0 up there) [
            | inl new ↦ absurd (subst (λ (l : List X). Has l x) (ap part new ∙ none) it.3)
            | inr old ↦ (it.0, old.0, it.2, it.3)
          ]
    ]

    -- after a session's own row is put, what sessions had of a part they have still
    pub put_part_old : (b : ℕ) (x : X) → InPart part sessions b x → InPart part (put_session row sessions) b x
    put_part_old b x it = elim (cases_Bool (has_row birth_of row.birth sessions)) [
      | inl stands ↦
          let set = part_old row.birth (with_columns row) sessions up (λ s. refl) part same b x it in
          (set.0, rw stands set.1, set.2, set.3)
      | inr isnt ↦
          let free = or_right_true _ _ isnt room in
          let other : it.0.birth ≢ row.birth = λ e. true≢false (sym (has_found birth_of row.birth sessions it.0 it.1 e) ∙ isnt) in
          (it.0, rw (isnt, free) (inserted_old birth_of (fresh row) sessions it.0 (inr (it.1, other))), it.2, it.3)
    ]

-- ---- a session removed

module _ {X : Type 0} (part : Session → List X) (birth : ℕ) (sessions : List Session) where
  -- after a session is removed, what sessions have of a part another session had
  pub left_new : (b : ℕ) (x : X) → InPart part (remove_row birth_of birth sessions) b x → InPart part sessions b x × b ≢ birth
  left_new b x it = let there = removed_new birth_of birth sessions it.0 it.1 in ((it.0, there.0, it.2, it.3), λ e. there.1 (it.2 ∙ e))

  -- after a session is removed, what other sessions had of a part they have
  pub left_old : (b : ℕ) (x : X) → InPart part sessions b x × b ≢ birth → InPart part (remove_row birth_of birth sessions) b x
  left_old b x it = let home = it.0 in (home.0, removed_old birth_of birth sessions home.0 home.1 (λ e. it.1 (sym home.2 ∙ e)), home.2, home.3)
