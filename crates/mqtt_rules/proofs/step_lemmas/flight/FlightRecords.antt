-- The packet identifiers of all sessions after a deed.
use Rattle.std.proofs.Common.{◌≡◌, ℕ, Bool, true, false, cond, List, [], ◌∷◌, refl, sym, ap, subst}
use Rattle.std.specs.Prelude.{Option, Some, None}
use Rattle.std.specs.List.{AllByRecursion}
use Rattle.mqtt_base.specs.declared.session.Phase.{Phase}
use Rattle.mqtt_base.specs.declared.session.Ending.{Ending}
use Rattle.mqtt_records.specs.messages.Queue.{CopyRow}
use Rattle.mqtt_records.specs.declared.messages.message.Will.{Will}
use Rattle.mqtt_records.specs.declared.state.session.Session.{Session}
use Rattle.mqtt_records.specs.declared.state.session.Columns.{Columns}
use Rattle.mqtt_base.specs.declared.limits.TheConstants.{QUEUE_LIMIT, SESSION_LIMIT}
use Rattle.mqtt_records.specs.declared.state.records.Records.{Records}
use Rattle.mqtt_records.specs.declared.state.change.Change.{Change}
use Rattle.mqtt_records.specs.declared.state.change.Counter.{Counter}
use Rattle.mqtt_records.specs.declared.state.change.Counter.TheVariants.{Births, Publications, Subscribes, Autos, Moment}
use Rattle.mqtt_records.specs.lists.Order.{has_row, put_row, remove_row, change_row}
use Rattle.mqtt_records.specs.state.Session.{birth_of, copy_place, in_phase, fresh, with_columns, with_will, with_phase, without_copy}
use Rattle.mqtt_records.specs.state.Records.{with_counter, in_session, changed, changed_all}
use Rattle.mqtt_rules.specs.step.State.{session_at}
use Rattle.mqtt_rules.specs.step.Deeds.{Whose, Part, Resume, Close, SetExpiry, DropWill, Subscribe, Unsubscribe, Open, Release, Enter, Mark, Leave, At, will_row, new_entry, part_rows, part_rows_of, begin_rows, stored_after}
use Rattle.mqtt_rules.specs.step.Flight.{IsFlight, HasDistinctIdentifiers}
use Rattle.mqtt_rules.proofs.step_lemmas.flight.FlightRows.{found_key, all_at, all_changed, all_changed_at, all_put, all_removed, change_row-here}
use Rattle.mqtt_rules.proofs.step_lemmas.flight.FlightQueue.{flight-put, flight-removed}

-- a session's queue
abbrev pub Queued : Session → Type 0
Queued s = IsFlight s.queue

-- an empty queue has no identifier twice
pub flight-nothing : IsFlight []
flight-nothing = record { places = tt; identifiers = λ place other id h k. absurd cc }

-- a counter has nothing to do with identifiers in flight
pub counter_keeps : (counter : Counter) (value : ℕ) (r : Records) → HasDistinctIdentifiers r → HasDistinctIdentifiers (with_counter counter value r)
counter_keeps Births value r h = h
counter_keeps Publications value r h = h
counter_keeps Subscribes value r h = h
counter_keeps Autos value r h = h
counter_keeps Moment value r h = h

-- a change of one session keeps identifiers apart if it does so in that session's queue
pub in_session_keeps : (birth : ℕ) (f : Session → Session) (r : Records) → ((s : Session) → IsFlight s.queue → IsFlight (f s).queue) → HasDistinctIdentifiers r → HasDistinctIdentifiers (in_session birth f r)
in_session_keeps birth f r g h = all_changed birth_of Queued birth f r.sessions g h

put_keeps_by : (b : Bool) (row : Columns) (r : Records) → AllByRecursion Queued r.sessions → AllByRecursion Queued (cond b (change_row birth_of row.birth (with_columns row) r.sessions) (put_row birth_of SESSION_LIMIT (fresh row) r.sessions))
put_keeps_by true row r h = all_changed birth_of Queued row.birth (with_columns row) r.sessions (λ s k. k) h
put_keeps_by false row r h = all_put birth_of Queued SESSION_LIMIT (fresh row) r.sessions flight-nothing h

-- a session's own row has nothing to do with identifiers in flight
pub put_keeps : (row : Columns) (r : Records) → HasDistinctIdentifiers r → HasDistinctIdentifiers (changed (Change.PutSession row) r)
put_keeps row r h = put_keeps_by (has_row birth_of row.birth r.sessions) row r h

set_keeps : (row : Columns) (r : Records) → HasDistinctIdentifiers r → HasDistinctIdentifiers (changed (Change.SetSession row) r)
set_keeps row r h = in_session_keeps row.birth (with_columns row) r (λ s k. k) h

-- a session may be removed
pub remove_keeps : (birth : ℕ) (r : Records) → HasDistinctIdentifiers r → HasDistinctIdentifiers (changed (Change.RemoveSession birth) r)
remove_keeps birth r h = all_removed birth_of Queued birth r.sessions h

will_keeps : (birth : ℕ) (will : Option Will) (r : Records) → HasDistinctIdentifiers r → HasDistinctIdentifiers (changed_all (will_row birth will ∷ []) r)
will_keeps birth None r h = in_session_keeps birth (with_will None) r (λ s k. k) h
will_keeps birth (Some will) r h = in_session_keeps birth (with_will (Some will)) r (λ s k. k) h

-- a session may begin
pub begin_keeps : (row : Columns) (will : Option Will) (r : Records) → HasDistinctIdentifiers r → HasDistinctIdentifiers (changed_all (begin_rows row will) r)
begin_keeps row None r h = put_keeps row r h
begin_keeps row (Some will) r h = in_session_keeps row.birth (with_will (Some will)) (changed (Change.PutSession row) r) (λ s k. k) (put_keeps row r h)

-- what a part leaves alone is the phase of each copy
abbrev pub Unmarked : Part → Type 0
Unmarked (Resume expiry will) = Unit {0}
Unmarked (Close moment) = Unit {0}
Unmarked (SetExpiry expiry) = Unit {0}
Unmarked DropWill = Unit {0}
Unmarked (Subscribe s) = Unit {0}
Unmarked (Unsubscribe filter) = Unit {0}
Unmarked (Open id) = Unit {0}
Unmarked (Release id) = Unit {0}
Unmarked (Enter copy) = Unit {0}
Unmarked (Mark place phase) = ⊥
Unmarked (Leave e ending) = Unit {0}

part_keeps : (part : Part) (s : Session) (r : Records) → Unmarked part → HasDistinctIdentifiers r → HasDistinctIdentifiers (changed_all (part_rows part s) r)
part_keeps (Resume expiry will) s r u h = will_keeps s.birth will (changed (Change.SetSession _) r) (set_keeps _ r h)
part_keeps (Close moment) s r u h = set_keeps _ r h
part_keeps (SetExpiry expiry) s r u h = set_keeps _ r h
part_keeps DropWill s r u h = in_session_keeps s.birth (with_will None) r (λ s k. k) h
part_keeps (Subscribe sub) s r u h = in_session_keeps s.birth _ r (λ s k. k) h
part_keeps (Unsubscribe filter) s r u h = in_session_keeps s.birth _ r (λ s k. k) h
part_keeps (Open id) s r u h = in_session_keeps s.birth _ r (λ s k. k) h
part_keeps (Release id) s r u h = in_session_keeps s.birth _ r (λ s k. k) h
part_keeps (Enter copy) s r u h = in_session_keeps s.birth _ r (λ t k. flight-put QUEUE_LIMIT (new_entry copy s.queue) t.queue refl k) h
part_keeps (Mark place phase) s r u h = absurd u
part_keeps (Leave e ending) s r u h = in_session_keeps s.birth _ r (λ t k. flight-removed e.place t.queue k) h

-- a part of a session that marks no copy keeps identifiers apart
pub parts_keep : (part : Part) (o : Option Session) (r : Records) → Unmarked part → HasDistinctIdentifiers r → HasDistinctIdentifiers (changed_all (part_rows_of part o) r)
parts_keep part None r u h = h
parts_keep part (Some s) r u h = part_keeps part s r u h

-- ---- a session's queue, while it is pumped

-- the session with this birth has this queue, and in no queue two copies have the same identifier
pub record Sits (birth : ℕ) (queue : List CopyRow) (r : Records) : Type 0 where
  pub session : Session
  pub there : session_at birth r ≡ Some session
  pub its_queue : session.queue ≡ queue
  pub distinct : HasDistinctIdentifiers r

-- in the queue of a session identifiers are apart, if they are in all
pub flight_of : (birth : ℕ) (queue : List CopyRow) (r : Records) → Sits birth queue r → IsFlight queue
flight_of birth queue r sits = subst IsFlight sits.its_queue (all_at birth_of Queued birth sits.session r.sessions sits.distinct sits.there)

stored_is : (who : Whose) (part : Part) (r : Records) (s : Session) → session_at who.birth r ≡ Some s → stored_after (At who part) r ≡ changed_all (part_rows part s) r
stored_is who part r s there = ap (λ (o : Option Session). changed_all (part_rows_of part o) r) there

-- its queue becomes another
sits-changed : (birth : ℕ) (queue : List CopyRow) (f : Session → Session) (r : Records) (s : Session) → session_at birth r ≡ Some s → ((t : Session) → birth_of (f t) ≡ birth_of t) → (f s).queue ≡ queue → IsFlight queue → HasDistinctIdentifiers r → Sits birth queue (in_session s.birth f r)
sits-changed birth queue f r s there keeps is flight h =
    let same : s.birth ≡ birth = found_key birth_of birth s r.sessions there in
    let at : session_at s.birth r ≡ Some s = subst (λ n. session_at n r ≡ Some s) (sym same) there in
    record {
      session = f s;
      there = subst (λ n. session_at n (in_session s.birth f r) ≡ Some (f s)) same (change_row-here birth_of s.birth f s r.sessions keeps at);
      its_queue = is;
      distinct = all_changed_at birth_of Queued s.birth f s r.sessions at (subst IsFlight (sym is) flight) h;
    }

-- behind a mark the session's queue is the marked one
pub sits-marked : (who : Whose) (place : ℕ) (phase : Phase) (queue : List CopyRow) (r : Records) → Sits who.birth queue r → IsFlight (change_row copy_place place (in_phase phase) queue) → Sits who.birth (change_row copy_place place (in_phase phase) queue) (stored_after (At who (Mark place phase)) r)
sits-marked who place phase queue r sits flight =
    let s = sits.session in
    subst (Sits who.birth (change_row copy_place place (in_phase phase) queue)) (sym (stored_is who (Mark place phase) r s sits.there))
    (sits-changed who.birth (change_row copy_place place (in_phase phase) queue) (with_phase place phase) r s sits.there (λ t. refl) (ap (change_row copy_place place (in_phase phase)) sits.its_queue) flight sits.distinct)

-- behind a leaving the session's queue is the one without that copy
pub sits-left : (who : Whose) (e : CopyRow) (ending : Ending) (queue : List CopyRow) (r : Records) → Sits who.birth queue r → Sits who.birth (remove_row copy_place e.place queue) (stored_after (At who (Leave e ending)) r)
sits-left who e ending queue r sits =
    let s = sits.session in
    subst (Sits who.birth (remove_row copy_place e.place queue)) (sym (stored_is who (Leave e ending) r s sits.there))
    (sits-changed who.birth (remove_row copy_place e.place queue) (without_copy e.place) r s sits.there (λ t. refl) (ap (remove_row copy_place e.place) sits.its_queue)
    (flight-removed e.place queue (flight_of who.birth queue r sits)) sits.distinct)
