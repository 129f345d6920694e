-- A publication is accepted, retained, and handed over.
use Rattle.std.proofs.Common.{◌≡◌, ℕ, ◌≤◌, Bool, true, false, List, length, filter, refl, ap, sym, subst, ◌∙◌}
use Rattle.std.specs.Prelude.{Option, Some, None, option_map}
use Rattle.mqtt_topic.specs.names.Names.{is_empty}
use Rattle.mqtt_records.specs.declared.messages.message.RetainedMessage.{RetainedMessage}
use Rattle.mqtt_records.specs.declared.state.session.Session.{Session}
use Rattle.mqtt_records.specs.lists.Order.{row_at}
use Rattle.mqtt_records.specs.state.Session.{birth_of}
use Rattle.mqtt_rules.specs.step.State.{Broker, Env, session_at}
use Rattle.mqtt_rules.specs.step.Deeds.{Act, Message, Origin, then, whose}
use Rattle.mqtt_rules.specs.step.Laws.{is_entering}
use Rattle.mqtt_rules.specs.step.Outbound.{room_at}
use Rattle.mqtt_rules.specs.step.Routing.{CopyTo, forgets, next_publication, publish, retain_by, retained_of}
use Rattle.mqtt_broker_step.specs.Doing.{accepts}
use Rattle.mqtt_broker_step.specs.declared.fault.StepFault.{StepFault}
use Rattle.mqtt_broker_step.specs.Stepping.{Stepping, did, Did, Does, IsLeft, Leaves, env_in}
use Rattle.mqtt_broker_queue.specs.publications.Delivering.{delivers_all, HasRoomIn, SameSessions}
use Rattle.mqtt_broker_step.proofs.Then.{same_act, same_left, did_then, left_first, left_then}
use Rattle.mqtt_broker_queue.proofs.publications_lemmas.Leading.{same_env}

-- ---- what is left alone

forget_sessions : (o : Option RetainedMessage) (s : Stepping) → (did (forgets o) s).broker.records.sessions ≡ s.broker.records.sessions
forget_sessions None s = refl
forget_sessions (Some k) s = refl

retain_sessions : (t e : Bool) (number : ℕ) (m : Message) (s : Stepping) → (did (retain_by t e number m s.broker) s).broker.records.sessions ≡ s.broker.records.sessions
retain_sessions false e number m s = refl
retain_sessions true true number m s = forget_sessions (retained_of m.topic s.broker.records) s
retain_sessions true false number m s = refl

-- to accept a publication and to retain it leaves the sessions as they are
pub sessions_stay : (origin : Origin) (number : ℕ) (m : Message) (s s1 s2 : Stepping) → Did (accepts origin m) s s1 → Did (retain_by m.retain (is_empty m.payload) number m) s1 s2
    → s2.broker.records.sessions ≡ s.broker.records.sessions
sessions_stay origin number m s s1 s2 accepted kept =
    ap (λ (t : Stepping). t.broker.records.sessions) kept.is
    ∙ (retain_sessions m.retain (is_empty m.payload) number m s1
    ∙ ap (λ (t : Stepping). t.broker.records.sessions) accepted.is)

start_stays : (origin : Origin) (number : ℕ) (m : Message) (s s1 s2 : Stepping) → Did (accepts origin m) s s1 → Did (retain_by m.retain (is_empty m.payload) number m) s1 s2 → s2.start ≡ s.start
start_stays origin number m s s1 s2 accepted kept = ap (λ (t : Stepping). t.start) kept.is ∙ ap (λ (t : Stepping). t.start) accepted.is

-- to accept a publication and to retain it leaves the limits as they are
pub limits_stay : (origin : Origin) (number : ℕ) (m : Message) (s s1 s2 : Stepping) → Did (accepts origin m) s s1 → Did (retain_by m.retain (is_empty m.payload) number m) s1 s2 → s2.limits ≡ s.limits
limits_stay origin number m s s1 s2 accepted kept = ap (λ (t : Stepping). t.limits) kept.is ∙ ap (λ (t : Stepping). t.limits) accepted.is

-- queues that have room for copies have it still when the publication is accepted and retained
pub room_stays : (origin : Origin) (number : ℕ) (m : Message) (ds : List CopyTo) (s s1 s2 : Stepping) → Did (accepts origin m) s s1 → Did (retain_by m.retain (is_empty m.payload) number m) s1 s2
    → HasRoomIn s ds → HasRoomIn s2 ds
room_stays origin number m ds s s1 s2 accepted kept room = λ choice birth.
    let env : env_in choice s2 ≡ env_in choice s =
    same_env choice s s2 (start_stays origin number m s s1 s2 accepted kept) (limits_stay origin number m s s1 s2 accepted kept) in
    subst (λ (e : Env). length (filter (is_entering birth) ds) ≤ room_at e (session_at birth s2.broker.records)) (sym env)
    (subst (λ (xs : List Session). length (filter (is_entering birth) ds) ≤ room_at (env_in choice s) (row_at birth_of birth xs))
    (sym (sessions_stay origin number m s s1 s2 accepted kept)) (room choice birth))

-- if its copies leave the sessions those of the same clients, so does the whole publication
pub whose_stay : (origin : Origin) (number : ℕ) (m : Message) (s s1 s2 s3 : Stepping) → Did (accepts origin m) s s1 → Did (retain_by m.retain (is_empty m.payload) number m) s1 s2
    → SameSessions s2.broker.records s3.broker.records → SameSessions s.broker.records s3.broker.records
whose_stay origin number m s s1 s2 s3 accepted kept same = λ birth.
    same birth ∙ ap (λ (xs : List Session). option_map whose (row_at birth_of birth xs)) (sessions_stay origin number m s s1 s2 accepted kept)

-- ---- accepted, retained, handed over

abbrev rest_of : Env → ℕ → Message → List CopyTo → Act
rest_of env number m ds b = then (retain_by m.retain (is_empty m.payload) number m b) (delivers_all ds env) b

abbrev whole : Env → Origin → ℕ → Message → List CopyTo → Act
whole env origin number m ds b = then (accepts origin m b) (rest_of env number m ds) b

whole_is : (env : Env) (origin : Origin) (number : ℕ) (m : Message) (ds : List CopyTo) (b : Broker) → number ≡ next_publication b.records
    → whole env origin number m ds b ≡ publish env origin m ds b
whole_is env origin number m ds b is = ap (λ n. whole env origin n m ds b) is

-- a publication is published once it was accepted, retained, and handed over in its copies
pub published_is : (origin : Origin) (number : ℕ) (m : Message) (ds : List CopyTo) (s s1 s2 s3 : Stepping) → number ≡ next_publication s.broker.records
    → Did (accepts origin m) s s1 → Did (retain_by m.retain (is_empty m.payload) number m) s1 s2 → Does (delivers_all ds) s2 s3 → Does (λ env. publish env origin m ds) s s3
published_is origin number m ds s s1 s2 s3 is accepted kept delivered = λ choice.
    let env = env_in choice s in
    let same : env_in choice s2 ≡ env = same_env choice s s2 (start_stays origin number m s s1 s2 accepted kept) (limits_stay origin number m s s1 s2 accepted kept) in
    same_act (whole env origin number m ds) (publish env origin m ds) s s3 (whole_is env origin number m ds s.broker is)
    (did_then (accepts origin m) (rest_of env number m ds) s s1 s3 accepted
    (did_then (retain_by m.retain (is_empty m.payload) number m) (delivers_all ds env) s1 s2 s3 kept
    (subst (λ (e : Env). Did (delivers_all ds e) s2 s3) same (delivered choice))))

-- a publication is refused if accepting it is
pub accept_left : (origin : Origin) (m : Message) (ds : List CopyTo) (fault : StepFault) (s new : Stepping) → IsLeft (accepts origin m) fault s new → Leaves (λ env. publish env origin m ds) fault s new
accept_left origin m ds fault s new left = λ choice.
    let env = env_in choice s in
    let number = next_publication s.broker.records in
    same_left (whole env origin number m ds) (publish env origin m ds) fault s new (whole_is env origin number m ds s.broker refl)
    (left_first (accepts origin m) (rest_of env number m ds) fault s new left)

-- a publication is refused if retaining it is, once it was accepted
pub retain_left : (origin : Origin) (number : ℕ) (m : Message) (ds : List CopyTo) (fault : StepFault) (s s1 new : Stepping) → number ≡ next_publication s.broker.records
    → Did (accepts origin m) s s1 → IsLeft (retain_by m.retain (is_empty m.payload) number m) fault s1 new → Leaves (λ env. publish env origin m ds) fault s new
retain_left origin number m ds fault s s1 new is accepted left = λ choice.
    let env = env_in choice s in
    same_left (whole env origin number m ds) (publish env origin m ds) fault s new (whole_is env origin number m ds s.broker is)
    (left_then (accepts origin m) (rest_of env number m ds) fault s s1 new accepted
    (left_first (retain_by m.retain (is_empty m.payload) number m) (delivers_all ds env) fault s1 new left))

-- a publication is refused if handing its copies over is, once it was accepted and retained
pub deliver_left : (origin : Origin) (number : ℕ) (m : Message) (ds : List CopyTo) (fault : StepFault) (s s1 s2 new : Stepping) → number ≡ next_publication s.broker.records
    → Did (accepts origin m) s s1 → Did (retain_by m.retain (is_empty m.payload) number m) s1 s2 → Leaves (delivers_all ds) fault s2 new → Leaves (λ env. publish env origin m ds) fault s new
deliver_left origin number m ds fault s s1 s2 new is accepted kept left = λ choice.
    let env = env_in choice s in
    let same : env_in choice s2 ≡ env = same_env choice s s2 (start_stays origin number m s s1 s2 accepted kept) (limits_stay origin number m s s1 s2 accepted kept) in
    same_left (whole env origin number m ds) (publish env origin m ds) fault s new (whole_is env origin number m ds s.broker is)
    (left_then (accepts origin m) (rest_of env number m ds) fault s s1 new accepted
    (left_then (retain_by m.retain (is_empty m.payload) number m) (delivers_all ds env) fault s1 s2 new kept
    (subst (λ (e : Env). IsLeft (delivers_all ds e) fault s2 new) same (left choice))))
