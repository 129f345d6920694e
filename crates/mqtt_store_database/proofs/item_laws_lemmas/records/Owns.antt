-- The sessions' own rows and the retained messages after a change.
use Rattle.std.proofs.Common.{◌≡◌, ◌≢◌, ◌⊎◌, ℕ, Bool, true, false, ◌||◌, List, ap, refl, sym, ◌∙◌, inl, inr, true≢false}
use Rattle.std.specs.Prelude.{Option, Some, None, is_some}
use Rattle.std.proofs.lemmas.Bool.{cases_Bool}
use Rattle.mqtt_base.specs.declared.limits.TheConstants.{SESSION_LIMIT, RETAINED_LIMIT}
use Rattle.mqtt_records.specs.declared.messages.message.RetainedMessage.{RetainedMessage}
use Rattle.mqtt_records.specs.declared.state.session.Session.{Session}
use Rattle.mqtt_records.specs.declared.state.session.Columns.{Columns}
use Rattle.mqtt_records.specs.declared.state.records.Records.{Records}
use Rattle.mqtt_records.specs.declared.state.change.Change.TheVariants.{PutSession, SetSession, RemoveSession, PutRetained, RemoveRetained}
use Rattle.mqtt_records.specs.lists.Order.{IsAscending, HasRoomFor, row_at, has_row, insert_row, change_row}
use Rattle.mqtt_records.specs.state.Session.{birth_of, columns_of, with_columns, fresh}
use Rattle.mqtt_records.specs.state.Records.{changed, HasSome, kept_place}
use Rattle.mqtt_records.specs.state.Members.{Has}
use Rattle.mqtt_store_database.specs.item_laws.Members.{HasColumns}
use Rattle.mqtt_store_database.proofs.item_laws_lemmas.records.Members.{changed_new, changed_old, inserted_new, inserted_old, removed_new, removed_old, found_has}

-- a row that stands is found
pub some_row : {X : Type 0} (key : X → ℕ) (k : ℕ) (xs : List X) → has_row key k xs ≡ true → HasSome (row_at key k xs) (λ _. Unit {0})
some_row key k xs h = go (row_at key k xs) h
  where
    go : {X : Type 0} (o : Option X) → is_some o ≡ true → HasSome o (λ _. Unit {0})
    go None h = absurd (true≢false (sym h))
    go (Some x) h = tt

-- what is found with a property is found
pub any_some : {X : Type 0} (o : Option X) (P : X → Type 0) → HasSome o P → HasSome o (λ _. Unit {0})
any_some None P h = h
any_some (Some x) P h = tt

or_right_true : (a b : Bool) → a ≡ false → (a || b) ≡ true → (false || b) ≡ true
or_right_true true b e h = absurd (true≢false e)
or_right_true false b e h = h

abbrev columns_with : Columns → ℕ → Columns
columns_with row birth = record { birth = birth; client = row.client; expiry = row.expiry; closed = row.closed }

module _ (row : Columns) (sessions : List Session) (up : IsAscending birth_of sessions) where
  -- a session's own row, if the session stands
  set_new : (s : Session) → Has (change_row birth_of row.birth (with_columns row) sessions) s → (columns_of s ≡ row) ⊎ (Has sessions s × s.birth ≢ row.birth)
  set_new s h = elim (changed_new birth_of row.birth (with_columns row) sessions s up h) [
    | inl set ↦ inl (ap columns_of set.3 ∙ ap (columns_with row) set.2)
    | inr stays ↦ inr stays
  ]

  set_old : HasSome (row_at birth_of row.birth sessions) (λ _. Unit {0}) → (c : Columns)
      → (c ≡ row) ⊎ ((s : Session) × Has sessions s × (columns_of s ≡ c) × s.birth ≢ row.birth) → (s : Session) × Has (change_row birth_of row.birth (with_columns row) sessions) s × (columns_of s ≡ c)
  set_old some c (inl same) =
      let it = found_has birth_of row.birth sessions (λ _. Unit {0}) some in
      (with_columns row it.0, changed_old birth_of row.birth (with_columns row) sessions (with_columns row it.0) up (inl (it.0, it.1, it.2, refl)), ap (columns_with row) it.2 ∙ sym same)
  set_old some c (inr old) = (old.0, changed_old birth_of row.birth (with_columns row) sessions old.0 up (inr (old.1, old.3)), old.2)

abbrev OldColumns : Records → Columns → ℕ → Type 0
OldColumns r c birth = HasColumns r c × (c.birth ≡ birth → ⊥)

module _ (row : Columns) (r : Records) (up : IsAscending birth_of r.sessions) where
  old_from : (s : Session) (c : Columns) → columns_of s ≡ c → Has r.sessions s → s.birth ≢ row.birth → OldColumns r c row.birth
  old_from s c is h other = ((s, h, is), λ e. other (ap (λ (c : Columns). c.birth) is ∙ e))

  from_old : (c : Columns) → OldColumns r c row.birth → (s : Session) × Has r.sessions s × (columns_of s ≡ c) × s.birth ≢ row.birth
  from_old c old = let it = old.0 in (it.0, it.1, it.2, λ e. old.1 (sym (ap (λ (c : Columns). c.birth) it.2) ∙ e))

  -- after a session's own row is set, an own row is that one, or of another session
  pub columns_set_new : (c : Columns) → HasColumns (changed (SetSession row) r) c → (c ≡ row) ⊎ OldColumns r c row.birth
  columns_set_new c it = elim (set_new row r.sessions up it.0 it.1) [
    | inl new ↦ inl (sym it.2 ∙ new)
    | inr old ↦ inr (old_from it.0 c it.2 old.0 old.1)
  ]

  -- after a session's own row is set, that one stands and those of other sessions do
  pub columns_set_old : HasSome (row_at birth_of row.birth r.sessions) (λ _. Unit {0}) → (c : Columns) → (c ≡ row) ⊎ OldColumns r c row.birth → HasColumns (changed (SetSession row) r) c
  columns_set_old some c (inl new) = set_old row r.sessions up some c (inl new)
  columns_set_old some c (inr old) = set_old row r.sessions up some c (inr (from_old c old))

  module _ (fits : HasRoomFor birth_of SESSION_LIMIT row.birth r.sessions) where
    -- after a session's own row is put, an own row is that one, or of another session
    pub columns_put_new : (c : Columns) → HasColumns (changed (PutSession row) r) c → (c ≡ row) ⊎ OldColumns r c row.birth
    columns_put_new c it = elim (cases_Bool (has_row birth_of row.birth r.sessions)) [
      | inl stands ↦ let there : Has (change_row birth_of row.birth (with_columns row) r.sessions) it.0 = rw stands at it.1 in columns_set_new c (it.0, there, it.2)
      | inr isnt ↦
          let room = or_right_true _ _ isnt fits in
          let there : Has (insert_row birth_of (fresh row) r.sessions) it.0 = rw (isnt, room) at it.1 in
          elim (inserted_new birth_of (fresh row) r.sessions it.0 up there) [
            | inl new ↦ inl (sym it.2 ∙ ap columns_of new)
            | inr old ↦ inr (old_from it.0 c it.2 old.0 old.1)
          ]
    ]

    -- after a session's own row is put, that one stands and those of other sessions do
    pub columns_put_old : (c : Columns) → (c ≡ row) ⊎ OldColumns r c row.birth → HasColumns (changed (PutSession row) r) c
    columns_put_old c it = elim (cases_Bool (has_row birth_of row.birth r.sessions)) [
      | inl stands ↦ let set = columns_set_old (some_row birth_of row.birth r.sessions stands) c it in (set.0, rw stands set.1, set.2)
      | inr isnt ↦
          let room = or_right_true _ _ isnt fits in
          elim it [
            | inl new ↦ (fresh row, rw (isnt, room) (inserted_old birth_of (fresh row) r.sessions (fresh row) (inl refl)), sym new)
            | inr old ↦ let was = from_old c old in (was.0, rw (isnt, room) (inserted_old birth_of (fresh row) r.sessions was.0 (inr (was.1, was.3))), was.2)
          ]
    ]

-- after a session is removed, an own row is of another session
pub columns_out_new : (birth : ℕ) (r : Records) (c : Columns) → HasColumns (changed (RemoveSession birth) r) c → OldColumns r c birth
columns_out_new birth r c it =
    let there = removed_new birth_of birth r.sessions it.0 it.1 in
    ((it.0, there.0, it.2), λ e. there.1 (ap (λ (c : Columns). c.birth) it.2 ∙ e))

-- after a session is removed, the own rows of the others stand
pub columns_out_old : (birth : ℕ) (r : Records) (c : Columns) → OldColumns r c birth → HasColumns (changed (RemoveSession birth) r) c
columns_out_old birth r c old =
    let it = old.0 in
    (it.0, removed_old birth_of birth r.sessions it.0 it.1 (λ e. old.1 (sym (ap (λ (c : Columns). c.birth) it.2) ∙ e)), it.2)

-- ---- retained messages

module _ (kept : RetainedMessage) (r : Records) (room : HasRoomFor kept_place RETAINED_LIMIT kept.place r.retained) (up : IsAscending kept_place r.retained) where
  -- after a message is retained, one that stands is that, or at another place
  pub retained_new : (x : RetainedMessage) → Has (changed (PutRetained kept) r).retained x → (x ≡ kept) ⊎ (Has r.retained x × x.place ≢ kept.place)
  retained_new x h = inserted_new kept_place kept r.retained x up (rw room at h)

  -- after a message is retained, that one stands and those at other places do
  pub retained_old : (x : RetainedMessage) → (x ≡ kept) ⊎ (Has r.retained x × x.place ≢ kept.place) → Has (changed (PutRetained kept) r).retained x
  retained_old x it = rw room (inserted_old kept_place kept r.retained x it)

-- after a retained message is removed, one that stands is at another place
pub retained_out_new : (place : ℕ) (r : Records) (x : RetainedMessage) → Has (changed (RemoveRetained place) r).retained x → Has r.retained x × x.place ≢ place
retained_out_new place r x h = removed_new kept_place place r.retained x h

-- after a retained message is removed, those at other places stand
pub retained_out_old : (place : ℕ) (r : Records) (x : RetainedMessage) → Has r.retained x × x.place ≢ place → Has (changed (RemoveRetained place) r).retained x
retained_out_old place r x it = removed_old kept_place place r.retained x it.0 it.1
