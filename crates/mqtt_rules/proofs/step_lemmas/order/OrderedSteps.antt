-- The tables are in order after every step, from the first start on.
use Rattle.std.proofs.Common.{ℕ, List, [], ◌∷◌, subst}
use Rattle.std.specs.List.{AllByRecursion}
use Rattle.mqtt_records.specs.declared.state.session.Session.{Session}
use Rattle.mqtt_records.specs.declared.state.records.Records.{Records}
use Rattle.mqtt_rules.specs.declared.step.Capacity.{Capacity}
use Rattle.mqtt_rules.specs.step.State.{Broker, stored, MemberChoice}
use Rattle.mqtt_rules.specs.step.Deeds.{Deed}
use Rattle.mqtt_rules.specs.step.Step.{Call, deeds, stepped, at_moment, env_of, opening, unopened, opened, rows_written, done}
use Rattle.mqtt_rules.specs.step.Laws.{HasTables, IsOrdered, HasFewOpen, FewOpen, Event, Asked, Reopened, after_event, after_events, blank}
use Rattle.mqtt_rules.proofs.step_lemmas.fit.StoredLaw.{rows_store}
use Rattle.mqtt_rules.proofs.step_lemmas.order.Ordered.{changed_all-ordered, nothing-ordered}

-- deeds leave all rows in order
pub done-ordered : (ds : List Deed) (b : Broker) → IsOrdered (stored b) → IsOrdered (stored (done ds b))
done-ordered ds b h = subst IsOrdered (rows_store ds b) (changed_all-ordered (rows_written ds b) (stored b) h)

-- a step leaves all rows in order
pub step-ordered : (limits : Capacity) (choice : MemberChoice) (now : ℕ) (call : Call) (b : Broker) → IsOrdered (stored b) → IsOrdered (stored (stepped limits choice now call b))
step-ordered limits choice now call b h = done-ordered (deeds limits choice now call b) (at_moment now b) h

-- an opening leaves all rows in order
pub opening-ordered : (limits : Capacity) (choice : MemberChoice) (now : ℕ) (r : Records) → IsOrdered r → IsOrdered (stored (opened limits choice now r))
opening-ordered limits choice now r h = done-ordered (opening (env_of limits choice (unopened now r)) (unopened now r)) (unopened now r) h

event-ordered : (e : Event) (b : Broker) → IsOrdered (stored b) → IsOrdered (stored (after_event e b))
event-ordered (Asked limits choice now call) b h = step-ordered limits choice now call b h
event-ordered (Reopened limits choice now) b h = opening-ordered limits choice now (stored b) h

events-ordered : (es : List Event) (b : Broker) → IsOrdered (stored b) → IsOrdered (stored (after_events es b))
events-ordered [] b h = h
events-ordered (e ∷ es) b h = events-ordered es (after_event e b) (event-ordered e b h)

-- all rows are in order behind any events
pub run-ordered : (es : List Event) → IsOrdered (stored (after_events es blank))
run-ordered es = events-ordered es blank nothing-ordered

few_each : (ss : List Session) → AllByRecursion HasTables ss → AllByRecursion HasFewOpen ss
few_each [] all = tt
few_each (s ∷ ss) all = (all.0.inbound.within, few_each ss all.1)

-- a session has no more open identifiers than its table holds
pub few_open : (r : Records) → IsOrdered r → FewOpen r
few_open r h = few_each r.sessions h.each
