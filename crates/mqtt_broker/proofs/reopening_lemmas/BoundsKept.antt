-- Rows that fit keep places and orders up to the last number, and each copy its session's.
use Rattle.std.proofs.Common.{◌≡◌, ℕ, Bool, true, false, cond, not, List, [], ◌∷◌, nat_eq, sym, subst, ◌∙◌}
use Rattle.std.specs.Prelude.{None, Some}
use Rattle.std.specs.List.{AllByRecursion}
use Rattle.mqtt_base.specs.declared.limits.TheConstants.{QUEUE_LIMIT, RETAINED_LIMIT, SESSION_LIMIT}
use Rattle.mqtt_records.specs.state.Records.{FitAll, Fits, IsNumber, changed, changed_all, kept_place, put_session, with_counter}
use Rattle.mqtt_records.specs.state.Session.{birth_of, copy_place, fresh, in_phase, with_columns, with_copy, with_open, with_phase, with_subscription, with_will, without_copy, without_open, without_subscription}
use Rattle.mqtt_records.specs.declared.state.change.Change.{Change}
use Rattle.mqtt_records.specs.declared.state.change.Change.TheVariants.{SetCounter, PutSession, SetSession, RemoveSession, PutWill, RemoveWill, PutSubscription, RemoveSubscription, PutInbound, RemoveInbound, PutCopy, SetCopy, RemoveCopy, PutRetained, RemoveRetained}
use Rattle.mqtt_records.specs.declared.state.change.Counter.{Counter}
use Rattle.mqtt_records.specs.declared.state.change.Counter.TheVariants.{Births, Publications, Subscribes, Autos, Moment}
use Rattle.mqtt_records.specs.declared.state.records.Records.{Records}
use Rattle.mqtt_records.specs.declared.state.session.Columns.{Columns}
use Rattle.mqtt_records.specs.declared.state.session.Session.{Session}
use Rattle.mqtt_records.specs.lists.Order.{change_row, has_row, put_row}
use Rattle.mqtt_rules.specs.declared.step.Capacity.{Capacity}
use Rattle.mqtt_rules.specs.step.Laws.{AreWithin, IsCoherent}
use Rattle.mqtt_rules.specs.step.Numbers.{IsTimed}
use Rattle.mqtt_rules.specs.step.State.{Broker, MemberChoice, stored}
use Rattle.mqtt_rules.specs.step.Step.{Call, at_moment, deeds, is_opening_spent, is_step_spent, opened, opening_deeds, rows_written, stepped, unopened}
use Rattle.mqtt_rules.proofs.step_lemmas.numbers.Copies.{each_filter}
use Rattle.mqtt_rules.proofs.step_lemmas.flight.FlightRows.{all_put, all_changed}
use Rattle.mqtt_rules.proofs.step_lemmas.fit.RowsFit.{opening_fits, step_fits}
use Rattle.mqtt_rules.proofs.step_lemmas.fit.StoredLaw.{rows_store}
use Rattle.mqtt_broker.specs.reopening.Bounds.{HasBounds, HaveBounds, IsBoundCopy}
use Rattle.mqtt_broker.proofs.reopening_lemmas.EachSession.{change_each}

abbrev Hold : List Session → Type 0
Hold ss = AllByRecursion HasBounds ss

hold_counter : (counter : Counter) (value : ℕ) (r : Records) → HaveBounds r → HaveBounds (with_counter counter value r)
hold_counter Births value r h = record { sessions = h.sessions; retained = h.retained }
hold_counter Publications value r h = record { sessions = h.sessions; retained = h.retained }
hold_counter Subscribes value r h = record { sessions = h.sessions; retained = h.retained }
hold_counter Autos value r h = record { sessions = h.sessions; retained = h.retained }
hold_counter Moment value r h = record { sessions = h.sessions; retained = h.retained }

hold_in : (birth : ℕ) (f : Session → Session) (r : Records) → ((s : Session) → birth_of s ≡ birth → HasBounds s → HasBounds (f s)) → HaveBounds r → HaveBounds (record r { sessions = change_row birth_of birth f r.sessions })
hold_in birth f r g h = record { sessions = change_each HasBounds HasBounds (λ s p. p) birth f r.sessions g h.sessions; retained = h.retained }

hold_session : (row : Columns) (ss : List Session) → Hold ss → Hold (put_session row ss)
hold_session row ss h = by (has_row birth_of row.birth ss)
  where
    by : (b : Bool) → Hold (cond b (change_row birth_of row.birth (with_columns row) ss) (put_row birth_of SESSION_LIMIT (fresh row) ss))
    by true = change_each HasBounds HasBounds (λ s p. p) row.birth (with_columns row) ss (λ s same p. p) h
    by false = all_put birth_of HasBounds SESSION_LIMIT (fresh row) ss tt h

hold_changed : (change : Change) (r : Records) → Fits change r → HaveBounds r → HaveBounds (changed change r)
hold_changed (SetCounter counter value) r fit h = hold_counter counter value r h
hold_changed (PutSession row) r fit h = record { sessions = hold_session row r.sessions h.sessions; retained = h.retained }
hold_changed (SetSession row) r fit h = hold_in row.birth (with_columns row) r (λ s same p. p) h
hold_changed (RemoveSession birth) r fit h = record { sessions = each_filter HasBounds (λ s. not (nat_eq (birth_of s) birth)) r.sessions h.sessions; retained = h.retained }
hold_changed (PutWill birth will) r fit h = hold_in birth (with_will (Some will)) r (λ s same p. p) h
hold_changed (RemoveWill birth) r fit h = hold_in birth (with_will None) r (λ s same p. p) h
hold_changed (PutSubscription birth x) r fit h = hold_in birth (with_subscription x) r (λ s same p. p) h
hold_changed (RemoveSubscription birth text) r fit h = hold_in birth (without_subscription text) r (λ s same p. p) h
hold_changed (PutInbound birth id) r fit h = hold_in birth (with_open id) r (λ s same p. p) h
hold_changed (RemoveInbound birth id) r fit h = hold_in birth (without_open id) r (λ s same p. p) h
hold_changed (PutCopy birth row) r fit h =
    hold_in birth (with_copy row) r
    (λ s same p. all_put copy_place (IsBoundCopy s.birth) QUEUE_LIMIT row s.queue (record { session = fit.1.session ∙ sym same; place = fit.1.place; order = fit.1.order }) p) h
hold_changed (SetCopy birth place phase) r fit h = hold_in birth (with_phase place phase) r
    (λ s same p. all_changed copy_place (IsBoundCopy s.birth) place (in_phase phase) s.queue (λ e q. record { session = q.session; place = q.place; order = fit.1 }) p) h
hold_changed (RemoveCopy birth place) r fit h = hold_in birth (without_copy place) r (λ s same p. each_filter (IsBoundCopy s.birth) (λ e. not (nat_eq (copy_place e) place)) s.queue p) h
hold_changed (PutRetained kept) r fit h = record { sessions = h.sessions; retained = all_put kept_place (λ k. IsNumber k.place) RETAINED_LIMIT kept r.retained fit.2.place h.retained }
hold_changed (RemoveRetained place) r fit h = record { sessions = h.sessions; retained = each_filter (λ k. IsNumber k.place) (λ k. not (nat_eq (kept_place k) place)) r.retained h.retained }

hold_all : (changes : List Change) (r : Records) → FitAll changes r → HaveBounds r → HaveBounds (changed_all changes r)
hold_all [] r fit h = h
hold_all (change ∷ changes) r fit h = hold_all changes (changed change r) fit.1 (hold_changed change r fit.0 h)

-- a step keeps all numbers of records within their counters
pub step_bounds : (limits : Capacity) (choice : MemberChoice) (now : ℕ) (call : Call) (b : Broker) → AreWithin limits → IsCoherent (stored b) → IsTimed b → IsNumber b.now → is_step_spent limits choice now call b ≡ false
    → HaveBounds (stored b) → HaveBounds (stored (stepped limits choice now call b))
step_bounds limits choice now call b within coherent timed last unspent h =
    let rows = rows_written (deeds limits choice now call b) (at_moment now b) in
    subst HaveBounds (rows_store (deeds limits choice now call b) (at_moment now b)) (hold_all rows (stored b) (step_fits limits choice now call b within coherent timed last unspent) h)

-- so does an opening
pub opening_bounds : (limits : Capacity) (choice : MemberChoice) (now : ℕ) (r : Records) → AreWithin limits → IsCoherent r → is_opening_spent limits choice now r ≡ false
    → HaveBounds r → HaveBounds (stored (opened limits choice now r))
opening_bounds limits choice now r within coherent unspent h =
    let rows = rows_written (opening_deeds limits choice now r) (unopened now r) in
    subst HaveBounds (rows_store (opening_deeds limits choice now r) (unopened now r)) (hold_all rows r (opening_fits limits choice now r within coherent unspent) h)
