-- What takes back a change of a session.
use Rattle.std.proofs.Common.{◌≡◌, ℕ, Bool, true, false, cond, nat_eq, List, [], ◌∷◌, refl, ap, sym, ◌∙◌, inl, inr}
use Rattle.std.specs.Prelude.{Option, Some, None, is_some, option_and_then}
use Rattle.std.proofs.lemmas.Bool.{cases_Bool, eqb-true}
use Rattle.mqtt_base.specs.declared.session.Phase.{Phase}
use Rattle.mqtt_base.specs.declared.limits.TheConstants.{OPEN_LIMIT, QUEUE_LIMIT}
use Rattle.mqtt_records.specs.messages.Queue.{CopyRow}
use Rattle.mqtt_records.specs.lists.Order.{row_at, has_row}
use Rattle.mqtt_records.specs.declared.state.records.Records.{Records}
use Rattle.mqtt_records.specs.declared.state.session.Session.{Session}
use Rattle.mqtt_records.specs.declared.state.session.Columns.{Columns}
use Rattle.mqtt_records.specs.declared.messages.message.Will.{Will}
use Rattle.mqtt_records.specs.state.Records.{changed, in_session, copy_at}
use Rattle.mqtt_records.specs.state.Session.{birth_of, number_of, copy_place, with_open, without_open, with_copy, without_copy, with_phase, in_phase, columns_of, with_columns, with_will}
use Rattle.mqtt_rules.specs.step.State.{session_at}
use Rattle.mqtt_rules.specs.step.Deeds.{will_row}
use Rattle.mqtt_records.proofs.lists_lemmas.OrderLemmas.{remove-none, change-none}
use Rattle.mqtt_rules.specs.step.Laws.{HasTables}
use Rattle.mqtt_broker_step.proofs.Inverse.{change_back, change_same, put_back, put_same, removed_back}

-- a session changed, and changed back
pub session_back : (f g : Session → Session) (s : Session) (r : Records) → ((x : Session) → birth_of (f x) ≡ birth_of x) → g (f s) ≡ s
    → session_at s.birth r ≡ Some s → in_session s.birth g (in_session s.birth f r) ≡ r
session_back f g s r keeps back found =
    ap (λ (ss : List Session). record r { sessions = ss }) (change_back birth_of s.birth f g s r.sessions keeps found back)

-- an identifier that is new is opened, and closed
pub opened_back : (id : ℕ) (s : Session) → HasTables s → row_at number_of id s.inbound ≡ None → without_open id (with_open id s) ≡ s
opened_back id s has none =
    ap (λ (ids : List ℕ). record s { inbound = ids }) (put_back number_of OPEN_LIMIT id s.inbound has.inbound.ascending none)

-- one that is open is opened again
pub opened_same : (id : ℕ) (s : Session) → HasTables s → row_at number_of id s.inbound ≡ Some id → with_open id (with_open id s) ≡ s
opened_same id s has found =
    let same : with_open id s ≡ s = ap (λ (ids : List ℕ). record s { inbound = ids }) (put_same number_of OPEN_LIMIT id s.inbound has.inbound.ascending found) in
    ap (with_open id) same ∙ same

-- an identifier is closed, and opened
pub closed_back : (id : ℕ) (s : Session) → HasTables s → row_at number_of id s.inbound ≡ Some id → with_open id (without_open id s) ≡ s
closed_back id s has found =
    ap (λ (ids : List ℕ). record s { inbound = ids }) (removed_back number_of OPEN_LIMIT id id s.inbound has.inbound.ascending found has.inbound.within)

-- a copy enters at a new place, and is removed
pub entered_back : (row : CopyRow) (s : Session) → HasTables s → row_at copy_place row.place s.queue ≡ None → without_copy row.place (with_copy row s) ≡ s
entered_back row s has none =
    ap (λ (q : List CopyRow). record s { queue = q }) (put_back copy_place QUEUE_LIMIT row s.queue has.queue.ascending none)

-- a copy is marked, and marked as it was
pub marked_back : (place : ℕ) (phase : Phase) (row : CopyRow) (s : Session) → row_at copy_place place s.queue ≡ Some row
    → with_phase place row.phase (with_phase place phase s) ≡ s
marked_back place phase row s found =
    ap (λ (q : List CopyRow). record s { queue = q })
    (change_back copy_place place (in_phase phase) (in_phase row.phase) row s.queue (λ x. refl) found refl)

-- an identifier is its own key
pub open_found : (id : ℕ) (ids : List ℕ) → has_row number_of id ids ≡ true → row_at number_of id ids ≡ Some id
open_found id [] has = absurd cc
open_found id (n ∷ ns) has = elim (cases_Bool (nat_eq n id)) [
  | inl here ↦ rw here (ap (λ (k : ℕ). Some k) (eqb-true n id here))
  | inr later ↦
      let rest : has_row number_of id ns ≡ true = ap (λ (b : Bool). is_some (cond b (Some n) (row_at number_of id ns))) (sym later) ∙ has in
      rw later (open_found id ns rest)
]

-- an identifier that isn't open is not found
pub open_none : (id : ℕ) (ids : List ℕ) → has_row number_of id ids ≡ false → row_at number_of id ids ≡ None
open_none id ids has = by (row_at number_of id ids) has
  where
    by : (o : Option ℕ) → is_some o ≡ false → o ≡ None
    by None e = refl
    by (Some n) e = absurd cc

-- one that is not open is closed, and closed again
pub closed_same : (id : ℕ) (s : Session) → row_at number_of id s.inbound ≡ None → without_open id (without_open id s) ≡ s
closed_same id s none =
    let same : without_open id s ≡ s = ap (λ (ids : List ℕ). record s { inbound = ids }) (remove-none number_of id s.inbound none) in
    ap (without_open id) same ∙ same

-- if no copy stands, none is marked
pub marked_same : (place : ℕ) (phase : Phase) (s : Session) → row_at copy_place place s.queue ≡ None → with_phase place phase (with_phase place phase s) ≡ s
marked_same place phase s none =
    let same : with_phase place phase s ≡ s = ap (λ (q : List CopyRow). record s { queue = q }) (change-none copy_place place (in_phase phase) s.queue none) in
    ap (with_phase place phase) same ∙ same

-- a session's own row is set, and set as it was
pub columns_set_back : (row back : Columns) (s : Session) (r : Records) → row.birth ≡ s.birth → back ≡ columns_of s → session_at s.birth r ≡ Some s
    → in_session back.birth (with_columns back) (in_session row.birth (with_columns row) r) ≡ r
columns_set_back row back s r birth is found =
    ap (λ (b : Columns). in_session b.birth (with_columns b) (in_session row.birth (with_columns row) r)) is
    ∙ (ap (λ n. in_session s.birth (with_columns (columns_of s)) (in_session n (with_columns row) r)) birth
    ∙ session_back (with_columns row) (with_columns (columns_of s)) s r (λ x. refl) refl found)

-- a session has another Will, or none, and the one that it had
pub will_row_back : (other will : Option Will) (s : Session) (r : Records) → s.will ≡ will → session_at s.birth r ≡ Some s
    → in_session s.birth (with_will will) (changed (will_row s.birth other) r) ≡ r
will_row_back other will s r is found = by other
  where
    set_back : (o : Option Will) → in_session s.birth (with_will will) (in_session s.birth (with_will o) r) ≡ r
    set_back o = session_back (with_will o) (with_will will) s r (λ x. refl) (ap (λ (w : Option Will). record s { will = w }) (sym is)) found

    by : (o : Option Will) → in_session s.birth (with_will will) (changed (will_row s.birth o) r) ≡ r
    by None = set_back None
    by (Some w) = set_back (Some w)

-- if no session stands, none has a Will
pub no_will_back : (other : Option Will) (birth : ℕ) (r : Records) → session_at birth r ≡ None → in_session birth (with_will None) (changed (will_row birth other) r) ≡ r
no_will_back other birth r none = by other
  where
    same : (o : Option Will) → in_session birth (with_will o) r ≡ r
    same o = ap (λ (ss : List Session). record r { sessions = ss }) (change-none birth_of birth (with_will o) r.sessions none)

    by : (o : Option Will) → in_session birth (with_will None) (changed (will_row birth o) r) ≡ r
    by None = ap (in_session birth (with_will None)) (same None) ∙ same None
    by (Some w) = ap (in_session birth (with_will None)) (same (Some w)) ∙ same None

-- a copy that left is put back
pub left_back : (birth place : ℕ) (row : CopyRow) (r : Records) → ((s : Session) → session_at birth r ≡ Some s → HasTables s) → copy_at birth place r ≡ Some row
    → in_session birth (with_copy row) (in_session birth (without_copy place) r) ≡ r
left_back birth place row r tables is = by (session_at birth r) refl
  where
    by : (o : Option Session) → session_at birth r ≡ o → in_session birth (with_copy row) (in_session birth (without_copy place) r) ≡ r
    by None none =
        let never : None ≡ Some row = ap (option_and_then (λ (s : Session). row_at copy_place place s.queue)) (sym none) ∙ is in
        absurd cc
    by (Some s) found =
        let there : row_at copy_place place s.queue ≡ Some row = ap (option_and_then (λ (x : Session). row_at copy_place place x.queue)) (sym found) ∙ is in
        let has : HasTables s = tables s found in
        let back : with_copy row (without_copy place s) ≡ s =
        ap (λ (q : List CopyRow). record s { queue = q }) (removed_back copy_place QUEUE_LIMIT place row s.queue has.queue.ascending there has.queue.within) in
        ap (λ (ss : List Session). record r { sessions = ss }) (change_back birth_of birth (without_copy place) (with_copy row) s r.sessions (λ x. refl) found back)

-- if no copy stands, none leaves
pub left_none : (birth place : ℕ) (r : Records) → copy_at birth place r ≡ None → in_session birth (without_copy place) r ≡ r
left_none birth place r none = by (session_at birth r) refl
  where
    by : (o : Option Session) → session_at birth r ≡ o → in_session birth (without_copy place) r ≡ r
    by None nobody = ap (λ (ss : List Session). record r { sessions = ss }) (change-none birth_of birth (without_copy place) r.sessions nobody)
    by (Some s) found =
        let there : row_at copy_place place s.queue ≡ None = ap (option_and_then (λ (x : Session). row_at copy_place place x.queue)) (sym found) ∙ none in
        let same : without_copy place s ≡ s = ap (λ (q : List CopyRow). record s { queue = q }) (remove-none copy_place place s.queue there) in
        ap (λ (ss : List Session). record r { sessions = ss }) (change_same birth_of birth (without_copy place) s r.sessions found same)
