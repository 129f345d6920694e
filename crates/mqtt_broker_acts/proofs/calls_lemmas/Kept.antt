-- Orders of release stay such as are kept, and each session keeps having each filter once, in steps and openings.
use Rattle.std.proofs.Common.{◌≡◌, ℕ, ◌≤◌, Bool, true, false, cond, not, List, [], ◌∷◌, map, nat_eq, refl, sym, subst, arith}
use Rattle.std.specs.Prelude.{Some, None}
use Rattle.std.specs.List.{AllByRecursion}
use Rattle.std.proofs.Math.Nat.{max-le, le-max_left, le-max_right}
use Rattle.mqtt_base.specs.Phases.{order_of}
use Rattle.mqtt_base.specs.declared.limits.TheConstants.{LAST_NUMBER, QUEUE_LIMIT, SESSION_LIMIT}
use Rattle.mqtt_base.specs.declared.session.Phase.{Phase}
use Rattle.mqtt_base.specs.declared.session.Phase.TheVariants.{Waiting, Sent, Released, Oversize}
use Rattle.mqtt_base.specs.declared.session.Qos.{Qos}
use Rattle.mqtt_base.specs.declared.session.Qos.TheVariants.{AtMostOnce, AtLeastOnce, ExactlyOnce}
use Rattle.mqtt_flow.specs.outbound.Queue.{greatest_order}
use Rattle.mqtt_keep.specs.lawful.Lawful.{IsLawful, IsLawfulCopy, IsLawfulSession, IsPhase, last_of}
use Rattle.mqtt_records.specs.messages.Queue.{CopyRow}
use Rattle.mqtt_records.specs.declared.state.change.Change.{Change}
use Rattle.mqtt_records.specs.declared.state.change.Change.TheVariants.{SetCounter, PutSession, SetSession, RemoveSession, PutWill, RemoveWill, PutSubscription, RemoveSubscription, PutInbound, RemoveInbound, PutCopy, SetCopy, RemoveCopy, PutRetained, RemoveRetained}
use Rattle.mqtt_records.specs.declared.state.change.Counter.{Counter}
use Rattle.mqtt_records.specs.declared.state.change.Counter.TheVariants.{Births, Publications, Subscribes, Autos, Moment}
use Rattle.mqtt_records.specs.declared.state.records.Records.{Records}
use Rattle.mqtt_records.specs.declared.state.session.Columns.{Columns}
use Rattle.mqtt_records.specs.declared.state.session.Session.{Session}
use Rattle.mqtt_records.specs.state.Records.{Fits, FitAll, IsNumber, changed, changed_all, put_session, with_counter}
use Rattle.mqtt_records.specs.state.Session.{birth_of, copy_place, fresh, in_phase, with_columns, with_will, with_subscription, without_subscription, with_open, without_open, with_copy, with_phase, without_copy}
use Rattle.mqtt_records.specs.lists.Order.{IsAscending, has_row, put_row, change_row, row_at}
use Rattle.mqtt_records.proofs.lists_lemmas.LookUps.{row_at-here}
use Rattle.mqtt_rules.specs.declared.step.Capacity.{Capacity}
use Rattle.mqtt_rules.specs.step.Laws.{AreWithin, IsCoherent}
use Rattle.mqtt_rules.specs.step.Numbers.{IsTimed}
use Rattle.mqtt_rules.specs.step.State.{Broker, MemberChoice, entry_on}
use Rattle.mqtt_rules.specs.step.Step.{Call, at_moment, deeds, is_opening_spent, is_step_spent, opened, opening_deeds, rows_written, stepped, unopened}
use Rattle.mqtt_rules.proofs.step_lemmas.numbers.Copies.{each_filter, each_more}
use Rattle.mqtt_rules.proofs.step_lemmas.flight.FlightRows.{all_at, found_behind, all_put, all_changed}
use Rattle.mqtt_rules.proofs.step_lemmas.fit.RowsFit.{step_fits, opening_fits}
use Rattle.mqtt_rules.proofs.step_lemmas.fit.StoredLaw.{rows_store}
use Rattle.mqtt_broker_step.specs.Subscribing.{HasEachFilterOnce, HaveFiltersOnce}
use Rattle.mqtt_broker_step.proofs.FiltersKept.{once_all}
use Rattle.mqtt_broker_queue.specs.queues.Queues.{HasKeptOrders}

-- ---- orders, copy by copy

abbrev IsKept : CopyRow → Type 0
IsKept e = IsNumber (order_of e.phase)

abbrev AreKept : Session → Type 0
AreKept s = AllByRecursion IsKept s.queue

abbrev HaveKept : Records → Type 0
HaveKept r = AllByRecursion AreKept r.sessions

same_queue : (s t : Session) → t.queue ≡ s.queue → AreKept s → AreKept t
same_queue s t same h = subst (λ (q : List CopyRow). AllByRecursion IsKept q) (sym same) h

kept_in : (birth : ℕ) (f : Session → Session) (ss : List Session) → ((s : Session) → AreKept s → AreKept (f s)) → AllByRecursion AreKept ss → AllByRecursion AreKept (change_row birth_of birth f ss)
kept_in birth f ss kept h = all_changed birth_of AreKept birth f ss kept h

kept_counter : (counter : Counter) (value : ℕ) (r : Records) → HaveKept r → HaveKept (with_counter counter value r)
kept_counter Births value r h = h
kept_counter Publications value r h = h
kept_counter Subscribes value r h = h
kept_counter Autos value r h = h
kept_counter Moment value r h = h

each_cond : (b : Bool) (ss ts : List Session) → AllByRecursion AreKept ss → AllByRecursion AreKept ts → AllByRecursion AreKept (cond b ss ts)
each_cond true ss ts p q = p
each_cond false ss ts p q = q

kept_session : (row : Columns) (ss : List Session) → AllByRecursion AreKept ss → AllByRecursion AreKept (put_session row ss)
kept_session row ss h =
    each_cond (has_row birth_of row.birth ss) (change_row birth_of row.birth (with_columns row) ss) (put_row birth_of SESSION_LIMIT (fresh row) ss)
    (kept_in row.birth (with_columns row) ss (λ s q. same_queue s (with_columns row s) refl q) h)
    (all_put birth_of AreKept SESSION_LIMIT (fresh row) ss tt h)

-- a change that fits brings no order above the last number
kept_changed : (change : Change) (r : Records) → Fits change r → HaveKept r → HaveKept (changed change r)
kept_changed (SetCounter counter value) r fit h = kept_counter counter value r h
kept_changed (PutSession row) r fit h = kept_session row r.sessions h
kept_changed (SetSession row) r fit h = kept_in row.birth (with_columns row) r.sessions (λ s q. same_queue s (with_columns row s) refl q) h
kept_changed (RemoveSession birth) r fit h = each_filter AreKept (λ s. not (nat_eq (birth_of s) birth)) r.sessions h
kept_changed (PutWill birth will) r fit h = kept_in birth (with_will (Some will)) r.sessions (λ s q. same_queue s (with_will (Some will) s) refl q) h
kept_changed (RemoveWill birth) r fit h = kept_in birth (with_will None) r.sessions (λ s q. same_queue s (with_will None s) refl q) h
kept_changed (PutSubscription birth x) r fit h = kept_in birth (with_subscription x) r.sessions (λ s q. same_queue s (with_subscription x s) refl q) h
kept_changed (RemoveSubscription birth text) r fit h = kept_in birth (without_subscription text) r.sessions (λ s q. same_queue s (without_subscription text s) refl q) h
kept_changed (PutInbound birth id) r fit h = kept_in birth (with_open id) r.sessions (λ s q. same_queue s (with_open id s) refl q) h
kept_changed (RemoveInbound birth id) r fit h = kept_in birth (without_open id) r.sessions (λ s q. same_queue s (without_open id s) refl q) h
kept_changed (PutCopy birth row) r fit h = kept_in birth (with_copy row) r.sessions (λ s q. all_put copy_place IsKept QUEUE_LIMIT row s.queue fit.1.order q) h
kept_changed (SetCopy birth place phase) r fit h = kept_in birth (with_phase place phase) r.sessions (λ s q. all_changed copy_place IsKept place (in_phase phase) s.queue (λ e old. fit.1) q) h
kept_changed (RemoveCopy birth place) r fit h = kept_in birth (without_copy place) r.sessions (λ s q. each_filter IsKept (λ e. not (nat_eq (copy_place e) place)) s.queue q) h
kept_changed (PutRetained kept) r fit h = h
kept_changed (RemoveRetained place) r fit h = h

kept_all : (changes : List Change) (r : Records) → FitAll changes r → HaveKept r → HaveKept (changed_all changes r)
kept_all [] r fit h = h
kept_all (change ∷ changes) r fit h = kept_all changes (changed change r) fit.1 (kept_changed change r fit.0 h)

-- ---- the greatest of a queue

greatest_kept : (queue : List CopyRow) → AllByRecursion IsKept queue → greatest_order (map (entry_on []) queue) ≤ LAST_NUMBER
greatest_kept [] h = omega arith
greatest_kept (e ∷ es) h =
    let first : order_of e.phase ≤ LAST_NUMBER = h.0 in
    max-le first (greatest_kept es h.1)

each_below : (queue : List CopyRow) → greatest_order (map (entry_on []) queue) ≤ LAST_NUMBER → AllByRecursion IsKept queue
each_below [] h = tt
each_below (e ∷ es) h =
    let first = le-max_left (order_of e.phase) (greatest_order (map (entry_on []) es)) in
    let rest = le-max_right (order_of e.phase) (greatest_order (map (entry_on []) es)) in
    let least : order_of e.phase ≤ LAST_NUMBER = omega (arith, first, h) in
    (least, each_below es (omega (arith, rest, h)))

each_found : (P : Session → Type 0) (ss : List Session) → IsAscending birth_of ss → ((birth : ℕ) (s : Session) → row_at birth_of birth ss ≡ Some s → P s) → AllByRecursion P ss
each_found P [] up f = tt
each_found P (x ∷ xs) up f = (
  f x.birth x (row_at-here birth_of x xs),
  each_found P xs up.1 (λ birth s found. f birth s (found_behind birth_of birth s x xs up.0 found)),
)

kept_orders : (r : Records) → HaveKept r → (birth : ℕ) → HasKeptOrders birth r
kept_orders r h birth = λ s found. greatest_kept s.queue (all_at birth_of AreKept birth s r.sessions h found)

orders_kept : (r : Records) → IsAscending birth_of r.sessions → ((birth : ℕ) → HasKeptOrders birth r) → HaveKept r
orders_kept r up h = each_found AreKept r.sessions up (λ birth s found. each_below s.queue (h birth s found))

-- ---- lawful records

kept_phase : (qos : Qos) (phase : Phase) → IsPhase qos phase → IsNumber (order_of phase)
kept_phase AtMostOnce phase h = absurd h
kept_phase AtLeastOnce Waiting h = omega arith
kept_phase AtLeastOnce (Sent i) h = omega arith
kept_phase AtLeastOnce (Released i order) h = absurd h
kept_phase AtLeastOnce (Oversize i order) h = absurd h
kept_phase ExactlyOnce Waiting h = omega arith
kept_phase ExactlyOnce (Sent i) h = omega arith
kept_phase ExactlyOnce (Released i order) h = h.1.1
kept_phase ExactlyOnce (Oversize i order) h = h.1.1

lawful_kept : (r : Records) → IsLawful r → HaveKept r
lawful_kept r h =
    each_more (IsLawfulSession (last_of r)) AreKept
    (λ s g. each_more (IsLawfulCopy (last_of r) s.birth) IsKept (λ e c. kept_phase e.copy.qos e.phase c.phase) s.queue g.queue.each)
    r.sessions h.sessions.each

lawful_filters : (r : Records) → IsLawful r → HaveFiltersOnce r
lawful_filters r h =
    each_more (IsLawfulSession (last_of r)) HasEachFilterOnce (λ s g. record { differ = g.subscriptions.filters }) r.sessions h.sessions.each

-- ---- a step and an opening

-- behind a step orders of release are such as are kept
pub step_orders : (limits : Capacity) (choice : MemberChoice) (now : ℕ) (call : Call) (b : Broker) → AreWithin limits → IsCoherent b.records → IsTimed b → IsNumber b.now
    → is_step_spent limits choice now call b ≡ false → ((birth : ℕ) → HasKeptOrders birth b.records) → (birth : ℕ) → HasKeptOrders birth (stepped limits choice now call b).records
step_orders limits choice now call b within coherent timed last unspent orders =
    let c = at_moment now b in
    let ds = deeds limits choice now call b in
    let kept : HaveKept (changed_all (rows_written ds c) c.records) =
    kept_all (rows_written ds c) c.records (step_fits limits choice now call b within coherent timed last unspent) (orders_kept b.records coherent.ordered.sessions.ascending orders) in
    kept_orders (stepped limits choice now call b).records (subst HaveKept (rows_store ds c) kept)

-- and a session has each filter once
pub step_filters : (limits : Capacity) (choice : MemberChoice) (now : ℕ) (call : Call) (b : Broker) → HaveFiltersOnce b.records → HaveFiltersOnce (stepped limits choice now call b).records
step_filters limits choice now call b h =
    let c = at_moment now b in
    let ds = deeds limits choice now call b in
    subst HaveFiltersOnce (rows_store ds c) (once_all (rows_written ds c) c.records h)

-- behind an opening orders of release are such as are kept
pub opening_orders : (limits : Capacity) (choice : MemberChoice) (now : ℕ) (r : Records) → AreWithin limits → IsCoherent r → IsLawful r
    → is_opening_spent limits choice now r ≡ false → (birth : ℕ) → HasKeptOrders birth (opened limits choice now r).records
opening_orders limits choice now r within coherent lawful unspent =
    let c = unopened now r in
    let ds = opening_deeds limits choice now r in
    let kept : HaveKept (changed_all (rows_written ds c) c.records) =
    kept_all (rows_written ds c) c.records (opening_fits limits choice now r within coherent unspent) (lawful_kept r lawful) in
    kept_orders (opened limits choice now r).records (subst HaveKept (rows_store ds c) kept)

-- and a session has each filter once
pub opening_filters : (limits : Capacity) (choice : MemberChoice) (now : ℕ) (r : Records) → IsLawful r → HaveFiltersOnce (opened limits choice now r).records
opening_filters limits choice now r lawful =
    let c = unopened now r in
    let ds = opening_deeds limits choice now r in
    subst HaveFiltersOnce (rows_store ds c) (once_all (rows_written ds c) c.records (lawful_filters r lawful))
