-- A copy enters when those that make way have left.
use Rattle.std.proofs.Common.{◌≡◌, ℕ, zero, suc, ◌+◌, ◌-◌, ◌<◌, Bool, true, false, arith, List, [], ◌∷◌, ◌++◌, length, map, refl, ap, sym, subst, ◌∙◌}
use Rattle.std.specs.Prelude.{Option, Some, None, IfSome, flat_map, option_map}
use Rattle.std.proofs.lemmas.Bool.{lt-ltb}
use Rattle.mqtt_base.specs.declared.limits.TheConstants.{QUEUE_LIMIT}
use Rattle.mqtt_flow.specs.declared.outbound.entry.Turn.{Turn}
use Rattle.mqtt_flow.specs.declared.outbound.entry.Turn.TheVariants as turns
use Rattle.mqtt_flow.specs.declared.outbound.entry.Entry.{Entry as FlowEntry}
use Rattle.mqtt_flow.specs.declared.outbound.entry.QueueLimits.{QueueLimits}
use Rattle.mqtt_flow.specs.outbound.Outbound.{KeptOut, dropped, has_room, staying, way_made}
use Rattle.mqtt_flow.specs.declared.inbound.fault.FlowFault.{FlowFault}
use Rattle.mqtt_flow.specs.declared.inbound.fault.FlowFault.TheVariants as faults
use Rattle.mqtt_records.specs.declared.messages.message.MessageCopy.{MessageCopy}
use Rattle.mqtt_records.specs.messages.Queue.{CopyRow}
use Rattle.mqtt_records.specs.lists.Order.{IsTable, row_at}
use Rattle.mqtt_records.specs.declared.state.records.Records.{Records}
use Rattle.mqtt_records.specs.declared.state.session.Session.{Session}
use Rattle.mqtt_records.specs.state.Session.{copy_place}
use Rattle.mqtt_routes.specs.routing.Intended.{greatest}
use Rattle.mqtt_rules.specs.step.Laws.{HasEntered, client_at}
use Rattle.mqtt_rules.specs.declared.step.Capacity.{Capacity}
use Rattle.mqtt_rules.specs.step.State.{Broker, Env, entry_on, session_at, queue_on}
use Rattle.mqtt_rules.specs.step.Deeds.{Act, Deed, At, Enter, Leave, whose, then, always, of_session, with_session, after_all}
use Rattle.mqtt_rules.specs.step.Outbound.{of_entry, leave_deeds, all_turn_deeds, enter_deeds, first_given, queue_limits, room, since}
use Rattle.mqtt_rules.proofs.step_lemmas.acts.Goods.{after_append}
use Rattle.mqtt_rules.proofs.step_lemmas.acts.LookedUp.{client_at_part}
use Rattle.mqtt_rules.proofs.step_lemmas.order.OrderedQueues.{length-mapped}
use Rattle.mqtt_broker_step.specs.declared.fault.StepFault.{StepFault}
use Rattle.mqtt_broker_step.specs.Stepping.{Stepping, Did, Does, IsLeft, Leaves, env_in, to_session}
use Rattle.mqtt_broker_step.proofs.Doing.{found_birth}
use Rattle.mqtt_broker_queue.specs.queues.Entering.{HasEnteredAt, HasRoomAt, makes_way}
use Rattle.mqtt_broker_queue.specs.queues.Turning.{takes_turns}
use Rattle.mqtt_broker_queue.proofs.queues_lemmas.Pumped.{dropped_leave}
use Rattle.mqtt_broker_queue.proofs.queues_lemmas.Taking.{same_whose}
use Rattle.mqtt_broker_queue.proofs.queues_lemmas.RoomLeft.{has_entered}
use Rattle.mqtt_broker_step.proofs.Then.{same_act, same_left, did_then, left_first, left_then}

some_is : {X : Type 0} (x y : X) → Some x ≡ Some y → x ≡ y
some_is x y e = cc

-- ---- the first place given

-- a copy of this step that stands in the queue has the first place that the step gave there
pub given_first : (o : Option CopyRow) (queue : List CopyRow) (place : ℕ) → Some place ≡ option_map copy_place o → place ≡ first_given o queue
given_first None queue place is = absurd cc
given_first (Some e) queue place is = some_is place e.place is

-- if no copy of this step stands in the queue, the place behind all is the first that it gives
pub given_next : (o : Option CopyRow) (queue : List CopyRow) (place : ℕ) → None ≡ option_map copy_place o → place ≡ suc (greatest (map copy_place queue)) → place ≡ first_given o queue
given_next None queue place is next = next
given_next (Some e) queue place is next = absurd cc

-- of a value that is there, what follows from what holds of it holds too
pub if_some : {A : Type 0} (o : Option A) {P Q : A → Type 0} → ((a : A) → P a → Q a) → IfSome o P → IfSome o Q
if_some None f p = p
if_some (Some a) f p = f a p

-- ---- way is made

none_dropped : (k since : ℕ) (es : List FlowEntry) → k ≡ 0 → dropped k since es ≡ []
none_dropped k since [] is = refl
none_dropped zero since (e ∷ es) is = refl
none_dropped (suc k) since (e ∷ es) is = absurd cc

-- none if the queue is below its limit
pub none_made : (limits : QueueLimits) (since : ℕ) (x : Session) → length x.queue < limits.queue
    → way_made limits since (queue_on [] x) ≡ []
none_made limits since x below =
    none_dropped (length (queue_on [] x) + 1 - limits.queue) since (queue_on [] x)
    (let same = length-mapped (entry_on []) x.queue in omega (arith, below, same))

-- the turns that were found to make way for the session as it stands are those that the rules make
pub way_is : (line birth : ℕ) (env : Env) (ts : List Turn) (x : Session) (b : Broker) → session_at birth b.records ≡ Some x
    → ts ≡ way_made (queue_limits env) (since env x) (queue_on [] x) → takes_turns line birth ts b ≡ makes_way env birth b
way_is line birth env ts x b found is =
    ap (λ (o : Option Session). with_session o (λ s. always (all_turn_deeds b.now line s ts)) b) found
    ∙ (ap (λ rs. all_turn_deeds b.now line x rs) is
    ∙ (dropped_leave b.now line (length (queue_on [] x) + 1 - env.limits.queue) (since env x) x (queue_on [] x)
    ∙ ap (λ (o : Option Session). with_session o (λ s. always (flat_map (leave_deeds s) (way_made (queue_limits env) (since env s) (queue_on [] s)))) b) (sym found)))

-- ---- whose the session is stays

client_leave : (birth : ℕ) (x : Session) (t : Turn) (b : Broker) → client_at birth (after_all (leave_deeds x t) b).records ≡ client_at birth b.records
client_leave birth x (turns.Send place id) b = refl
client_leave birth x (turns.Resend place id) b = refl
client_leave birth x (turns.Release place id order) b = refl
client_leave birth x (turns.Outgrow place id order) b = refl
client_leave birth x (turns.Repeat id) b = refl
client_leave birth x (turns.Unknown id) b = refl
client_leave birth x (turns.Leave place ending) b = by (row_at copy_place place x.queue)
  where
    by : (o : Option CopyRow) → client_at birth (after_all (of_entry o (λ e. At (whose x) (Leave e ending) ∷ [])) b).records ≡ client_at birth b.records
    by None = refl
    by (Some e) = client_at_part (whose x) (Leave e ending) birth b.records

client_leaves : (birth : ℕ) (x : Session) (ts : List Turn) (b : Broker) → client_at birth (after_all (flat_map (leave_deeds x) ts) b).records ≡ client_at birth b.records
client_leaves birth x [] b = refl
client_leaves birth x (t ∷ ts) b =
    ap (λ (c : Broker). client_at birth c.records) (after_append (leave_deeds x t) (flat_map (leave_deeds x) ts) b)
    ∙ (client_leaves birth x ts (after_all (leave_deeds x t) b) ∙ client_leave birth x t b)

abbrev ways : Env → Session → List Deed
ways env s = flat_map (leave_deeds s) (way_made (queue_limits env) (since env s) (queue_on [] s))

-- a copy that enters leaves each session its client
pub client_enter : (birth : ℕ) (env : Env) (copy : MessageCopy) (x : Session) (b : Broker) → client_at birth (after_all (enter_deeds env copy x) b).records ≡ client_at birth b.records
client_enter birth env copy x b =
    ap (λ (c : Broker). client_at birth c.records) (after_append (ways env x) (At (whose x) (Enter copy) ∷ []) b)
    ∙ (client_at_part (whose x) (Enter copy) birth (after_all (ways env x) b).records
    ∙ client_leaves birth x (way_made (queue_limits env) (since env x) (queue_on [] x)) b)

enters_still : (birth : ℕ) (copy : MessageCopy) (x : Session) (b c : Broker) (o : Option Session) → session_at birth c.records ≡ o → x.birth ≡ birth → client_at birth c.records ≡ Some x.client
    → with_session o (λ s. always (At (whose s) (Enter copy) ∷ [])) c ≡ At (whose x) (Enter copy) ∷ []
enters_still birth copy x b c None found key client =
    let no : None ≡ Some x.client = sym (ap (λ (o : Option Session). option_map (λ (y : Session). y.client) o) found) ∙ client in
    absurd cc
enters_still birth copy x b c (Some y) found key client =
    let one : Some y.client ≡ Some x.client = sym (ap (λ (o : Option Session). option_map (λ (z : Session). z.client) o) found) ∙ client in
    ap (λ w. At w (Enter copy) ∷ [])
    (same_whose x y (found_birth birth c.records.sessions y found ∙ sym key) (some_is y.client x.client one))

enters_by : (env : Env) (birth : ℕ) (copy : MessageCopy) (b : Broker) (o : Option Session) → session_at birth b.records ≡ o
    → with_session o (λ s. always (ways env s)) b ++ to_session birth (Enter copy) (after_all (with_session o (λ s. always (ways env s)) b) b)
    ≡ with_session o (λ s. always (enter_deeds env copy s)) b
enters_by env birth copy b None found = ap (λ (o : Option Session). with_session o (λ s. always (At (whose s) (Enter copy) ∷ [])) b) found
enters_by env birth copy b (Some x) found =
    let c = after_all (ways env x) b in
    ap (λ ds. ways env x ++ ds)
    (enters_still birth copy x b c (session_at birth c.records) refl (found_birth birth b.records.sessions x found)
    (client_leaves birth x (way_made (queue_limits env) (since env x) (queue_on [] x)) b
    ∙ ap (λ (o : Option Session). option_map (λ (y : Session). y.client) o) found))

abbrev enters : Env → ℕ → MessageCopy → Act
enters env birth copy = of_session birth (λ s. always (enter_deeds env copy s))

whole_is : (env : Env) (birth : ℕ) (copy : MessageCopy) (b : Broker) → then (makes_way env birth b) (to_session birth (Enter copy)) b ≡ enters env birth copy b
whole_is env birth copy b = enters_by env birth copy b (session_at birth b.records) refl

-- a copy has entered once the oldest have made way and it was put in
pub entered_done : (birth : ℕ) (copy : MessageCopy) (s s1 s2 : Stepping) → Does (λ env. makes_way env birth) s s1 → Did (to_session birth (Enter copy)) s1 s2
    → Does (λ env. of_session birth (λ x. always (enter_deeds env copy x))) s s2
entered_done birth copy s s1 s2 made is = λ choice.
    let env = env_in choice s in
    same_act (λ b. then (makes_way env birth b) (to_session birth (Enter copy)) b) (enters env birth copy) s s2 (whole_is env birth copy s.broker)
    (did_then (makes_way env birth) (to_session birth (Enter copy)) s s1 s2 (made choice) is)

-- a copy's entering is refused if putting it in is, once the oldest have made way
pub entered_left : (birth : ℕ) (copy : MessageCopy) (fault : StepFault) (s s1 s2 : Stepping) → Does (λ env. makes_way env birth) s s1 → IsLeft (to_session birth (Enter copy)) fault s1 s2
    → Leaves (λ env. of_session birth (λ x. always (enter_deeds env copy x))) fault s s2
entered_left birth copy fault s s1 s2 made left = λ choice.
    let env = env_in choice s in
    same_left (λ b. then (makes_way env birth b) (to_session birth (Enter copy)) b) (enters env birth copy) fault s s2 (whole_is env birth copy s.broker)
    (left_then (makes_way env birth) (to_session birth (Enter copy)) fault s s1 s2 (made choice) left)

-- a copy's entering is refused if making way is
pub way_left : (birth : ℕ) (copy : MessageCopy) (fault : StepFault) (s new : Stepping) → Leaves (λ env. makes_way env birth) fault s new
    → Leaves (λ env. of_session birth (λ x. always (enter_deeds env copy x))) fault s new
way_left birth copy fault s new left = λ choice.
    let env = env_in choice s in
    same_left (λ b. then (makes_way env birth b) (to_session birth (Enter copy)) b) (enters env birth copy) fault s new (whole_is env birth copy s.broker)
    (left_first (makes_way env birth) (to_session birth (Enter copy)) fault s new (left choice))

-- ---- what it leaves of the queue

-- a copy that entered a queue with room leaves it within the limit, with room for at most one copy less
pub entered_at : (birth : ℕ) (copy : MessageCopy) (s s2 : Stepping) → ((x : Session) → session_at birth s.broker.records ≡ Some x → IsTable copy_place QUEUE_LIMIT x.queue) → HasRoomAt birth s
    → Does (λ env. of_session birth (λ x. always (enter_deeds env copy x))) s s2 → HasEnteredAt birth s s2
entered_at birth copy s s2 table free done = λ choice x found.
    let env = env_in choice s in
    let stands : session_at x.birth s.broker.records ≡ Some x = ap (λ n. session_at n s.broker.records) (found_birth birth s.broker.records.sessions x found) ∙ found in
    let is : s2.broker.records ≡ (after_all (enter_deeds env copy x) s.broker).records =
    ap (λ (t : Stepping). t.broker.records) (done choice).is
    ∙ ap (λ (o : Option Session). (after_all (with_session o (λ y. always (enter_deeds env copy y)) s.broker) s.broker).records) found in
    subst (λ (r : Records). HasEntered env x s.broker.records r) (sym is)
    (has_entered env copy x s.broker (table x found).ascending (table x found).within stands (free choice x found))

-- the table of the session that was found
pub table_there : (birth : ℕ) (x : Session) (b : Broker) → session_at birth b.records ≡ Some x → IsTable copy_place QUEUE_LIMIT x.queue
    → (y : Session) → session_at birth b.records ≡ Some y → IsTable copy_place QUEUE_LIMIT y.queue
table_there birth x b found table y there = subst (λ (z : Session). IsTable copy_place QUEUE_LIMIT z.queue) (some_session x y (sym found ∙ there)) table
  where
    some_session : (x y : Session) → Some x ≡ Some y → x ≡ y
    some_session x y e = cc

-- ---- what the look was given

abbrev pub limits_of : Capacity → QueueLimits
limits_of l = record { queue = l.queue; full = l.full }

-- if the rules have room for a copy in a session's queue, the look finds it
pub room_found : (l : Capacity) (env : Env) (s : Session) (place : ℕ) (es : List FlowEntry) → l ≡ env.limits → place ≡ since env s → es ≡ queue_on [] s → 0 < room env s → has_room (limits_of l) place es ≡ true
room_found l env s place es limits place_is es_is free =
    ap (λ (k : Capacity). has_room (limits_of k) place es) limits
    ∙ (ap (λ n. has_room (limits_of env.limits) n es) place_is
    ∙ (ap (λ (fs : List FlowEntry). has_room (limits_of env.limits) (since env s) fs) es_is
    ∙ lt-ltb (staying env.limits.full (since env s) (queue_on [] s)) env.limits.queue (omega (arith, free))))

-- if there is room, memory alone refuses
pub kept_memory : (t : Bool) (fault : FlowFault) → t ≡ true → KeptOut t fault → fault ≡ faults.Memory
kept_memory true fault is kept = kept
kept_memory false fault is kept = absurd cc
