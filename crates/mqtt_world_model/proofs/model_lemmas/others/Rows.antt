-- What the rows of a deed leave of one session: its columns, its Will and its open identifiers.
use Rattle.std.proofs.Common.{◌≡◌, ℕ, Bool, true, false, cond, List, [], ◌∷◌, length, Option, Some, None, nat_eq, nat_lt, refl, ap, ◌∙◌, inl, inr}
use Rattle.std.specs.Prelude.{⊤, option_map}
use Rattle.std.proofs.lemmas.Bool.{cases_Bool}
use Rattle.mqtt_records.specs.declared.messages.message.Will.{Will}
use Rattle.mqtt_records.specs.declared.state.session.Columns.{Columns}
use Rattle.mqtt_records.specs.declared.state.session.Session.{Session}
use Rattle.mqtt_base.specs.declared.limits.TheConstants.{SESSION_LIMIT}
use Rattle.mqtt_records.specs.declared.state.records.Records.{Records}
use Rattle.mqtt_records.specs.declared.state.change.Counter.{Counter}
use Rattle.mqtt_records.specs.declared.state.change.Counter.TheVariants.{Births, Publications, Subscribes, Autos, Moment}
use Rattle.mqtt_records.specs.declared.state.change.Change.{Change}
use Rattle.mqtt_records.specs.declared.state.change.Change.TheVariants.{SetCounter, PutSession, SetSession, RemoveSession, PutWill, RemoveWill, PutSubscription, RemoveSubscription, PutInbound, RemoveInbound, PutCopy, SetCopy, RemoveCopy, PutRetained, RemoveRetained}
use Rattle.mqtt_records.specs.lists.Order.{row_at, has_row, insert_row, remove_row, change_row}
use Rattle.mqtt_records.specs.state.Session.{birth_of, fresh, with_columns, with_will, with_subscription, without_subscription, with_open, without_open, with_copy, with_phase, without_copy}
use Rattle.mqtt_records.specs.state.Records.{with_counter, put_session, changed, changed_all}
use Rattle.mqtt_records.proofs.lists_lemmas.LookUps.{row_at-insert_row, row_at-remove_row}
use Rattle.mqtt_rules.specs.step.State.{session_at}
use Rattle.mqtt_rules.proofs.step_lemmas.flight.FlightRows.{change_row-other}

-- what is kept of a session but for its subscriptions and its queue
pub record Face : Type 0 where
  pub birth : ℕ
  pub client : List ℕ
  pub expiry : ℕ
  pub closed : Option ℕ
  pub will : Option Will
  pub inbound : List ℕ

abbrev pub face : Session → Face
face s = record { birth = s.birth; client = s.client; expiry = s.expiry; closed = s.closed; will = s.will; inbound = s.inbound }

abbrev pub face_at : ℕ → Records → Option Face
face_at birth r = option_map face (session_at birth r)

-- ---- rows changed, whichever they are, if what is looked at stays

module _ {X F : Type 0} (key : X → ℕ) (view : X → F) where
  view_first : (mine : Bool) (f : X → X) (y : X) (xs : List X) → view (f y) ≡ view y → (o : Option X)
      → option_map view (cond mine (Some (f y)) o) ≡ option_map view (cond mine (Some y) o)
  view_first true f y xs h o = ap Some h
  view_first false f y xs h o = refl

  view_rest : (mine : Bool) (y : X) (a b : Option X) → option_map view a ≡ option_map view b
      → option_map view (cond mine (Some y) a) ≡ option_map view (cond mine (Some y) b)
  view_rest true y a b h = refl
  view_rest false y a b h = h

  -- what is seen of a row by its key stays, if the change leaves it in each
  pub view-change_row : (birth k : ℕ) (f : X → X) (xs : List X) → ((x : X) → key (f x) ≡ key x) → ((x : X) → view (f x) ≡ view x)
      → option_map view (row_at key birth (change_row key k f xs)) ≡ option_map view (row_at key birth xs)
  view-change_row birth k f [] e h = refl
  view-change_row birth k f (y ∷ ys) e h = elim (cases_Bool (nat_eq (key y) k)) [
    | inl here ↦
        rw here
        (ap (λ (n : ℕ). option_map view (cond (nat_eq n birth) (Some (f y)) (row_at key birth ys))) (e y)
        ∙ view_first (nat_eq (key y) birth) f y ys (h y) (row_at key birth ys))
    | inr further ↦
        rw further (view_rest (nat_eq (key y) birth) y (row_at key birth (change_row key k f ys)) (row_at key birth ys) (view-change_row birth k f ys e h))
  ]

-- a session changed, or put, that isn't this one
pub other_put : (birth : ℕ) (row : Columns) (ss : List Session) → nat_eq row.birth birth ≡ false → row_at birth_of birth (put_session row ss) ≡ row_at birth_of birth ss
other_put birth row ss differ = elim (cases_Bool (has_row birth_of row.birth ss)) [
  | inl there ↦ rw there (change_row-other birth_of birth row.birth (with_columns row) ss (λ x. refl) differ)
  | inr new ↦ rw new (other_new (nat_lt (length ss) SESSION_LIMIT))
]
  where
    other_inserted : row_at birth_of birth (insert_row birth_of (fresh row) ss) ≡ row_at birth_of birth ss
    other_inserted = row_at-insert_row birth_of birth (fresh row) ss ∙ ap (λ (b : Bool). cond b (Some (fresh row)) (row_at birth_of birth ss)) differ

    other_new : (b : Bool) → row_at birth_of birth (cond b (insert_row birth_of (fresh row) ss) ss) ≡ row_at birth_of birth ss
    other_new true = other_inserted
    other_new false = refl

other_removed : (birth k : ℕ) (ss : List Session) → nat_eq k birth ≡ false → row_at birth_of birth (remove_row birth_of k ss) ≡ row_at birth_of birth ss
other_removed birth k ss differ = row_at-remove_row birth_of birth k ss ∙ ap (λ (b : Bool). cond b None (row_at birth_of birth ss)) differ

other_changed : (birth k : ℕ) (f : Session → Session) (ss : List Session) → ((x : Session) → birth_of (f x) ≡ birth_of x) → nat_eq k birth ≡ false
    → option_map face (row_at birth_of birth (change_row birth_of k f ss)) ≡ option_map face (row_at birth_of birth ss)
other_changed birth k f ss e differ = ap (option_map face) (change_row-other birth_of birth k f ss e differ)

-- ---- rows that are not about what this session shows

abbrev pub IsBeside : ℕ → Change → Type 0
IsBeside birth (SetCounter counter value) = ⊤
IsBeside birth (PutSession row) = nat_eq row.birth birth ≡ false
IsBeside birth (SetSession row) = nat_eq row.birth birth ≡ false
IsBeside birth (RemoveSession other) = nat_eq other birth ≡ false
IsBeside birth (PutWill other will) = nat_eq other birth ≡ false
IsBeside birth (RemoveWill other) = nat_eq other birth ≡ false
IsBeside birth (PutSubscription other sub) = ⊤
IsBeside birth (RemoveSubscription other text) = ⊤
IsBeside birth (PutInbound other id) = nat_eq other birth ≡ false
IsBeside birth (RemoveInbound other id) = nat_eq other birth ≡ false
IsBeside birth (PutCopy other e) = ⊤
IsBeside birth (SetCopy other place phase) = ⊤
IsBeside birth (RemoveCopy other place) = ⊤
IsBeside birth (PutRetained kept) = ⊤
IsBeside birth (RemoveRetained place) = ⊤

abbrev pub AreBeside : ℕ → List Change → Type 0
AreBeside birth [] = ⊤
AreBeside birth (c ∷ cs) = IsBeside birth c × AreBeside birth cs

counter_beside : (birth : ℕ) (counter : Counter) (value : ℕ) (r : Records) → face_at birth (with_counter counter value r) ≡ face_at birth r
counter_beside birth Births value r = refl
counter_beside birth Publications value r = refl
counter_beside birth Subscribes value r = refl
counter_beside birth Autos value r = refl
counter_beside birth Moment value r = refl

-- a change beside a session leaves what it shows
pub beside_change : (birth : ℕ) (c : Change) (r : Records) → IsBeside birth c → face_at birth (changed c r) ≡ face_at birth r
beside_change birth (SetCounter counter value) r q = counter_beside birth counter value r
beside_change birth (PutSession row) r q = ap (option_map face) (other_put birth row r.sessions q)
beside_change birth (SetSession row) r q = other_changed birth row.birth (with_columns row) r.sessions (λ x. refl) q
beside_change birth (RemoveSession k) r q = ap (option_map face) (other_removed birth k r.sessions q)
beside_change birth (PutWill k will) r q = other_changed birth k (with_will (Some will)) r.sessions (λ x. refl) q
beside_change birth (RemoveWill k) r q = other_changed birth k (with_will None) r.sessions (λ x. refl) q
beside_change birth (PutSubscription k sub) r q = view-change_row birth_of face birth k (with_subscription sub) r.sessions (λ x. refl) (λ x. refl)
beside_change birth (RemoveSubscription k text) r q = view-change_row birth_of face birth k (without_subscription text) r.sessions (λ x. refl) (λ x. refl)
beside_change birth (PutInbound k id) r q = other_changed birth k (with_open id) r.sessions (λ x. refl) q
beside_change birth (RemoveInbound k id) r q = other_changed birth k (without_open id) r.sessions (λ x. refl) q
beside_change birth (PutCopy k e) r q = view-change_row birth_of face birth k (with_copy e) r.sessions (λ x. refl) (λ x. refl)
beside_change birth (SetCopy k place phase) r q = view-change_row birth_of face birth k (with_phase place phase) r.sessions (λ x. refl) (λ x. refl)
beside_change birth (RemoveCopy k place) r q = view-change_row birth_of face birth k (without_copy place) r.sessions (λ x. refl) (λ x. refl)
beside_change birth (PutRetained kept) r q = refl
beside_change birth (RemoveRetained place) r q = refl

-- so do many
pub beside_changes : (birth : ℕ) (cs : List Change) (r : Records) → AreBeside birth cs → face_at birth (changed_all cs r) ≡ face_at birth r
beside_changes birth [] r q = refl
beside_changes birth (c ∷ cs) r q = beside_changes birth cs (changed c r) q.1 ∙ beside_change birth c r q.0
