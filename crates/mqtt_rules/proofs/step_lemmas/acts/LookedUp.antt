-- What is found by its birth after a change: a field of a session, and its client identifier.
use Rattle.std.proofs.Common.{◌≡◌, ℕ, Bool, true, false, cond, List, [], ◌∷◌, Option, Some, None, nat_eq, refl, sym, ap, subst, ◌∙◌, inl, inr}
use Rattle.std.specs.Prelude.{option_map, is_some}
use Rattle.std.proofs.lemmas.Bool.{eqb-true, cases_Bool}
use Rattle.std.proofs.lemmas.Cmp.{nat_eq_equiv}
use Rattle.mqtt_records.specs.declared.messages.message.Will.{Will}
use Rattle.mqtt_records.specs.declared.state.session.Session.{Session}
use Rattle.mqtt_records.specs.declared.state.session.Columns.{Columns}
use Rattle.mqtt_records.specs.declared.state.records.Records.{Records}
use Rattle.mqtt_records.specs.declared.state.change.Change.TheVariants.{PutSession, SetSession}
use Rattle.mqtt_base.specs.declared.limits.TheConstants.{SESSION_LIMIT}
use Rattle.mqtt_records.specs.lists.Order.{HasRoomFor, row_at, has_row, put_row, change_row}
use Rattle.mqtt_records.proofs.lists_lemmas.LookUps.{row_at-put_row, row_at-remove_row}
use Rattle.mqtt_records.specs.state.Session.{birth_of, fresh, with_columns, with_will, with_subscription, without_subscription, with_open, without_open, with_copy, with_phase, without_copy}
use Rattle.mqtt_records.specs.state.Records.{put_session, in_session, changed, changed_all}
use Rattle.mqtt_rules.specs.step.State.{session_at}
use Rattle.mqtt_rules.specs.step.Deeds.{Whose, Part, Resume, Close, SetExpiry, DropWill, Subscribe, Unsubscribe, Open, Release, Enter, Mark, Leave, Begin, At, Finish, will_row, new_entry, part_rows, part_rows_of, stored_after}
use Rattle.mqtt_rules.specs.step.Laws.{client_at}
use Rattle.mqtt_rules.proofs.step_lemmas.flight.FlightRows.{found_key}

-- ---- rows

module _ {X : Type 0} (key : X → ℕ) where
  -- after a row changes it is found changed by its key, and every other as before
  pub row_at-change_row : (k j : ℕ) (f : X → X) (xs : List X) → ((x : X) → key (f x) ≡ key x) → row_at key k (change_row key j f xs) ≡ cond (nat_eq j k) (option_map f (row_at key k xs)) (row_at key k xs)
  row_at-change_row k j f [] kept = elim (cases_Bool (nat_eq j k)) [ inl asked ↦ rw asked refl | inr other ↦ rw other refl ]
  row_at-change_row k j f (x ∷ xs) kept = elim (cases_Bool (nat_eq (key x) j)) [
    | inl here ↦
        let is : key x ≡ j = eqb-true (key x) j here in
        let same : nat_eq (key x) k ≡ nat_eq j k = ap (λ n. nat_eq n k) is in
        let new : nat_eq (key (f x)) k ≡ nat_eq j k = ap (λ n. nat_eq n k) (kept x) ∙ same in
        elim (cases_Bool (nat_eq j k)) [
          | inl asked ↦ rw (here, new, same, asked) refl
          | inr other ↦ rw (here, new, same, other) refl
        ]
    | inr further ↦
        let rest = row_at-change_row k j f xs kept in
        elim (cases_Bool (nat_eq (key x) k)) [
          | inl asked ↦
              let is : key x ≡ k = eqb-true (key x) k asked in
              let not_j : nat_eq j k ≡ false = not_same (key x) j k is further in
              rw (further, asked, not_j) refl
          | inr other ↦ rw (further, other) rest
        ]
  ]
    where
      not_same : (m j k : ℕ) → m ≡ k → nat_eq m j ≡ false → nat_eq j k ≡ false
      not_same m j k is differ = elim (cases_Bool (nat_eq j k)) [
        | inl same ↦
            let jk : j ≡ k = eqb-true j k same in
            let both : nat_eq m j ≡ true = ap (nat_eq m) (jk ∙ sym is) ∙ nat_eq_equiv.refl m in
            let no : true ≡ false = sym both ∙ differ in
            absurd cc
        | inr other ↦ other
      ]

-- ---- a field of a session

module _ {Y : Type 0} (field : Session → Y) where
  abbrev pub field_at : ℕ → Records → Option Y
  field_at birth r = option_map field (session_at birth r)

  map_kept : (f : Session → Session) → ((s : Session) → field (f s) ≡ field s) → (o : Option Session) → option_map field (option_map f o) ≡ option_map field o
  map_kept f same None = refl
  map_kept f same (Some s) = ap Some (same s)

  -- if the session that changes keeps it
  pub field_changed : (birth k : ℕ) (f : Session → Session) (r : Records) → ((s : Session) → birth_of (f s) ≡ birth_of s) → option_map field (option_map f (session_at birth r)) ≡ field_at birth r
      → field_at k (in_session birth f r) ≡ field_at k r
  field_changed birth k f r kept same = elim (cases_Bool (nat_eq birth k)) [
    | inl asked ↦
        let is : birth ≡ k = eqb-true birth k asked in
        let here : session_at k (in_session birth f r) ≡ option_map f (session_at k r) = row_at-change_row birth_of k birth f r.sessions kept ∙ ap (λ (t : Bool). cond t (option_map f (session_at k r)) (session_at k r)) asked in
        ap (option_map field) here ∙ subst (λ (n : ℕ). option_map field (option_map f (session_at n r)) ≡ field_at n r) is same
    | inr other ↦
        ap (option_map field) (row_at-change_row birth_of k birth f r.sessions kept ∙ ap (λ (t : Bool). cond t (option_map f (session_at k r)) (session_at k r)) other)
  ]

  -- if all sessions do
  pub field_kept : (birth k : ℕ) (f : Session → Session) (r : Records) → ((s : Session) → birth_of (f s) ≡ birth_of s) → ((s : Session) → field (f s) ≡ field s)
      → field_at k (in_session birth f r) ≡ field_at k r
  field_kept birth k f r kept same = field_changed birth k f r kept (map_kept f same (session_at birth r))

-- ---- client identifiers

abbrev client_of : Session → List ℕ
client_of s = s.client

-- a session's columns, with its own client identifier
client_columns : (row : Columns) (s : Session) (k : ℕ) (r : Records) → session_at row.birth r ≡ Some s → row.client ≡ s.client → client_at k (changed (SetSession row) r) ≡ client_at k r
client_columns row s k r there same =
    field_changed client_of row.birth k (with_columns row) r (λ t. refl)
    (ap (λ (o : Option Session). option_map client_of (option_map (with_columns row) o)) there ∙ (ap Some same ∙ sym (ap (option_map client_of) there)))

client_will : (birth : ℕ) (will : Option Will) (k : ℕ) (r : Records) → client_at k (changed_all (will_row birth will ∷ []) r) ≡ client_at k r
client_will birth None k r = field_kept client_of birth k (with_will None) r (λ s. refl) (λ s. refl)
client_will birth (Some w) k r = field_kept client_of birth k (with_will (Some w)) r (λ s. refl) (λ s. refl)

client_part : (part : Part) (s : Session) (k : ℕ) (r : Records) → session_at s.birth r ≡ Some s → client_at k (changed_all (part_rows part s) r) ≡ client_at k r
client_part (Resume expiry will) s k r there =
    let row : Columns = record { birth = s.birth; client = s.client; expiry = expiry; closed = None } in
    client_will s.birth will k (changed (SetSession row) r) ∙ client_columns row s k r there refl
client_part (Close moment) s k r there = client_columns _ s k r there refl
client_part (SetExpiry expiry) s k r there = client_columns _ s k r there refl
client_part DropWill s k r there = field_kept client_of s.birth k (with_will None) r (λ t. refl) (λ t. refl)
client_part (Subscribe x) s k r there = field_kept client_of s.birth k (with_subscription x) r (λ t. refl) (λ t. refl)
client_part (Unsubscribe text) s k r there = field_kept client_of s.birth k (without_subscription text) r (λ t. refl) (λ t. refl)
client_part (Open id) s k r there = field_kept client_of s.birth k (with_open id) r (λ t. refl) (λ t. refl)
client_part (Release id) s k r there = field_kept client_of s.birth k (without_open id) r (λ t. refl) (λ t. refl)
client_part (Enter copy) s k r there = field_kept client_of s.birth k (with_copy (new_entry copy s.queue)) r (λ t. refl) (λ t. refl)
client_part (Mark place phase) s k r there = field_kept client_of s.birth k (with_phase place phase) r (λ t. refl) (λ t. refl)
client_part (Leave e ending) s k r there = field_kept client_of s.birth k (without_copy e.place) r (λ t. refl) (λ t. refl)

client_part_of : (birth : ℕ) (part : Part) (k : ℕ) (r : Records) (o : Option Session) → session_at birth r ≡ o → client_at k (changed_all (part_rows_of part o) r) ≡ client_at k r
client_part_of birth part k r None is = refl
client_part_of birth part k r (Some s) is = client_part part s k r (ap (λ (n : ℕ). session_at n r) (found_key birth_of birth s r.sessions is) ∙ is)

-- nothing that happens to a session changes a client identifier
pub client_at_part : (who : Whose) (part : Part) (k : ℕ) (r : Records) → client_at k (stored_after (At who part) r) ≡ client_at k r
client_at_part who part k r = client_part_of who.birth part k r (session_at who.birth r) refl

-- a session that begins has its own
client_put : (row : Columns) (k : ℕ) (r : Records) → session_at row.birth r ≡ None → HasRoomFor birth_of SESSION_LIMIT row.birth r.sessions
    → client_at k (changed (PutSession row) r) ≡ cond (nat_eq row.birth k) (Some row.client) (client_at k r)
client_put row k r new room =
    let not_there : has_row birth_of row.birth r.sessions ≡ false = ap is_some new in
    let is : put_session row r.sessions ≡ put_row birth_of SESSION_LIMIT (fresh row) r.sessions
    = ap (λ (t : Bool). cond t (change_row birth_of row.birth (with_columns row) r.sessions) (put_row birth_of SESSION_LIMIT (fresh row) r.sessions)) not_there
    in
    ap (λ (ss : List Session). option_map client_of (row_at birth_of k ss)) is
    ∙ ap (option_map client_of) (row_at-put_row birth_of SESSION_LIMIT k (fresh row) r.sessions room)
    ∙ mapped (nat_eq row.birth k)
  where
    mapped : (t : Bool) → option_map client_of (cond t (Some (fresh row)) (session_at k r)) ≡ cond t (Some row.client) (client_at k r)
    mapped true = refl
    mapped false = refl

-- beginning a session names that one alone
pub client_begun : (row : Columns) (will : Option Will) (k : ℕ) (r : Records) → session_at row.birth r ≡ None → HasRoomFor birth_of SESSION_LIMIT row.birth r.sessions
    → client_at k (stored_after (Begin row will) r) ≡ cond (nat_eq row.birth k) (Some row.client) (client_at k r)
client_begun row None k r new room = client_put row k r new room
client_begun row (Some w) k r new room =
    field_kept client_of row.birth k (with_will (Some w)) (changed (PutSession row) r) (λ s. refl) (λ s. refl) ∙ client_put row k r new room

-- finishing a session unnames that one alone
pub client_finished : (who : Whose) (k : ℕ) (r : Records) → client_at k (stored_after (Finish who) r) ≡ cond (nat_eq who.birth k) None (client_at k r)
client_finished who k r = ap (option_map client_of) (row_at-remove_row birth_of k who.birth r.sessions) ∙ mapped (nat_eq who.birth k)
  where
    mapped : (t : Bool) → option_map client_of (cond t None (session_at k r)) ≡ cond t None (client_at k r)
    mapped true = refl
    mapped false = refl
