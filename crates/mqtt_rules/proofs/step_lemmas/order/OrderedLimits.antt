-- What all deeds keep is kept by each step and each opening: the limits on sessions and retained messages.
use Rattle.std.proofs.Common.{ℕ, ◌≤◌, length}
use Rattle.std.specs.Prelude.{⊤}
use Rattle.mqtt_rules.specs.step.Deeds.{Deed}
use Rattle.mqtt_records.specs.declared.state.records.Records.{Records}
use Rattle.mqtt_rules.specs.declared.step.Capacity.{Capacity}
use Rattle.mqtt_rules.specs.step.State.{Broker, stored, MemberChoice}
use Rattle.mqtt_rules.specs.step.Step.{Call, deeds, stepped, at_moment, env_of, opening, unopened, opened}
use Rattle.mqtt_rules.specs.step.Laws.{IsOrdered}
use Rattle.mqtt_rules.proofs.step_lemmas.order.OrderedActs.{Keeping, keeps_call, keeps_opening, keeps_done}
use Rattle.mqtt_rules.proofs.step_lemmas.order.OrderedRoom.{FewSessions, FewRetained, sessions_keeping, retained_keeping}

-- a step keeps of the records what each of its deeds keeps
pub step_keeps : (limits : Capacity) (choice : MemberChoice) (now : ℕ) (call : Call) (b : Broker) (P : Records → Type 0) (Good : Deed → Broker → Type 0) → Keeping (env_of limits choice b) P Good → P (stored b) → P (stored (stepped limits choice now call b))
step_keeps limits choice now call b P Good k p =
    keeps_done (env_of limits choice b) P Good k (deeds limits choice now call b) (at_moment now b)
    (keeps_call (env_of limits choice b) P Good k call (at_moment now b) p)

-- an opening keeps of the records what each of its deeds keeps
pub opening_keeps : (limits : Capacity) (choice : MemberChoice) (now : ℕ) (r : Records) (P : Records → Type 0) (Good : Deed → Broker → Type 0) → Keeping (env_of limits choice (unopened now r)) P Good → P r → P (stored (opened limits choice now r))
opening_keeps limits choice now r P Good k p =
    let b = unopened now r in
    keeps_done (env_of limits choice b) P Good k (opening (env_of limits choice b) b) b (keeps_opening (env_of limits choice b) P Good k b p)

-- a step keeps the sessions within the broker's limit
pub step_sessions : (limits : Capacity) (choice : MemberChoice) (now : ℕ) (call : Call) (b : Broker) → length (stored b).sessions ≤ limits.sessions → length (stored (stepped limits choice now call b)).sessions ≤ limits.sessions
step_sessions limits choice now call b few = step_keeps limits choice now call b (FewSessions (env_of limits choice b)) (λ d c. ⊤) (sessions_keeping (env_of limits choice b)) few

-- an opening keeps the sessions within the broker's limit
pub opening_sessions : (limits : Capacity) (choice : MemberChoice) (now : ℕ) (r : Records) → length r.sessions ≤ limits.sessions → length (stored (opened limits choice now r)).sessions ≤ limits.sessions
opening_sessions limits choice now r few =
    let env = env_of limits choice (unopened now r) in
    opening_keeps limits choice now r (FewSessions env) (λ d c. ⊤) (sessions_keeping env) few

-- a step keeps the retained messages within the broker's limit
pub step_retained : (limits : Capacity) (choice : MemberChoice) (now : ℕ) (call : Call) (b : Broker) → IsOrdered (stored b) → length (stored b).retained ≤ limits.retained → length (stored (stepped limits choice now call b)).retained ≤ limits.retained
step_retained limits choice now call b ordered few =
    let env = env_of limits choice b in
    (step_keeps limits choice now call b (FewRetained env) (λ d c. ⊤) (retained_keeping env) (record { ascending = ordered.retained.ascending; within = few })).within

-- an opening keeps the retained messages within the broker's limit
pub opening_retained : (limits : Capacity) (choice : MemberChoice) (now : ℕ) (r : Records) → IsOrdered r → length r.retained ≤ limits.retained → length (stored (opened limits choice now r)).retained ≤ limits.retained
opening_retained limits choice now r ordered few =
    let env = env_of limits choice (unopened now r) in
    (opening_keeps limits choice now r (FewRetained env) (λ d c. ⊤) (retained_keeping env) (record { ascending = ordered.retained.ascending; within = few })).within
