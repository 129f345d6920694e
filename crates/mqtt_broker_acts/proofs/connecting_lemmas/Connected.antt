-- A CONNECT that is refused, and one after whose preparation a session is resumed or begins.
use Rattle.std.proofs.Common.{◌≡◌, ℕ, Bool, true, false, ◌||◌, cond, nat_lt, List, [], ◌∷◌, ◌++◌, length, refl, ap, sym, ◌∙◌}
use Rattle.std.specs.Prelude.{Option, Some, None, is_some}
use Rattle.mqtt_base.specs.Codes.{quota_exceeded}
use Rattle.mqtt_packet.specs.declared.connect.connect.Connect.{Connect}
use Rattle.mqtt_records.specs.declared.state.session.Session.{Session}
use Rattle.mqtt_records.specs.declared.state.records.Records.{Records}
use Rattle.mqtt_topic.specs.names.Names.{is_empty}
use Rattle.mqtt_rules.specs.step.State.{Line, Broker, Env, MemberChoice, session_named}
use Rattle.mqtt_rules.specs.step.Deeds.{Act, Deed, after_all, always, only_if, series, then, with_session}
use Rattle.mqtt_rules.specs.step.Closing.{settle}
use Rattle.mqtt_rules.specs.step.Connect.{begin_named, clear, connect_by, joins, joins_after, of_client, on_connect, prepare, refusal, refused, take_over}
use Rattle.mqtt_broker_step.specs.Stepping.{Stepping, env_in}
use Rattle.mqtt_rules.proofs.step_lemmas.numbers.Counters.{now_stays}
use Rattle.mqtt_broker_acts.specs.connecting.Joining.{has_place, joins_now}
use Rattle.mqtt_broker_acts.proofs.connecting_lemmas.Wholes.{begins_named}

-- nothing comes before the first connection of a client
nobody : (client : List ℕ) (f : Session → Act) (b : Broker) → session_named client b.records ≡ None → of_client client f b ≡ []
nobody client f b none = ap (λ o. with_session o f b) none

nobody_if : (t : Bool) (client : List ℕ) (f : Session → Act) (b : Broker) → session_named client b.records ≡ None → only_if t (of_client client f) b ≡ []
nobody_if true client f b none = nobody client f b none
nobody_if false client f b none = refl

-- for a client without a session nothing is prepared
pub prepares_none : (env : Env) (c : Connect) (b : Broker) → session_named c.client_identifier b.records ≡ None → prepare env c b ≡ []
prepares_none env c b none =
    let name = c.client_identifier in
    let settles : Act = of_client name (λ s. settle env s.birth) in
    let clears : Act = only_if c.clean_start (of_client name (clear env)) in
    ap (λ ds. ds ++ series (settles ∷ clears ∷ []) (after_all ds b)) (nobody name (take_over env) b none)
    ∙ (ap (λ ds. ds ++ series (clears ∷ []) (after_all ds b)) (nobody name (λ s. settle env s.birth) b none)
    ∙ ap (λ ds. ds ++ []) (nobody_if c.clean_start name (clear env) b none))

-- so it joins at once
joins_new : (env : Env) (l : Line) (c : Connect) (b : Broker) → session_named c.client_identifier b.records ≡ None
    → connect_by None env l c b ≡ joins env l c b.now [] b.records None
joins_new env l c b none =
    ap (λ ds. joins_after env l c b.now ds (after_all ds b).records) (prepares_none env c b none)
    ∙ ap (λ o. joins env l c b.now [] b.records o) none

-- a client with a place is let in
pub placed : (t : Bool) (xs ys : List Deed) → t ≡ true → cond t xs ys ≡ xs
placed true xs ys e = refl
placed false xs ys e = absurd cc

unplaced : (t : Bool) (xs ys : List Deed) → t ≡ false → cond t xs ys ≡ ys
unplaced true xs ys e = absurd cc
unplaced false xs ys e = refl

-- it begins
pub new_begins : (choice : MemberChoice) (l : Line) (c : Connect) (s : Stepping) → session_named c.client_identifier s.broker.records ≡ None
    → nat_lt (length s.broker.records.sessions) s.limits.sessions ≡ true
    → begins_named (is_empty c.client_identifier) l c s.broker ≡ connect_by None (env_in choice s) l c s.broker
new_begins choice l c s none room =
    sym (joins_new (env_in choice s) l c s.broker none
    ∙ placed (nat_lt (length s.broker.records.sessions) s.limits.sessions) (begin_named (is_empty c.client_identifier) l c s.broker.records) (refused l c quota_exceeded) room)

-- there is no place for it
pub new_refused : (choice : MemberChoice) (l : Line) (c : Connect) (s : Stepping) → session_named c.client_identifier s.broker.records ≡ None
    → nat_lt (length s.broker.records.sessions) s.limits.sessions ≡ false
    → always (refused l c quota_exceeded) s.broker ≡ connect_by None (env_in choice s) l c s.broker
new_refused choice l c s none full =
    sym (joins_new (env_in choice s) l c s.broker none
    ∙ unplaced (nat_lt (length s.broker.records.sessions) s.limits.sessions) (begin_named (is_empty c.client_identifier) l c s.broker.records) (refused l c quota_exceeded) full)

-- it is refused at once, or not
pub by_refusal : (o : Option ℕ) (env : Env) (l : Line) (c : Connect) (b : Broker) → o ≡ refusal c b.records → connect_by o env l c b ≡ on_connect env l c b
by_refusal o env l c b is = ap (λ x. connect_by x env l c b) is

-- ---- a client whose session stood: what comes before is done, then it joins

joins_behind : (env : Env) (l : Line) (c : Connect) (now : ℕ) (ds : List Deed) (r : Records) (o : Option Session)
    → (is_some o || nat_lt (length r.sessions) env.limits.sessions) ≡ true → ds ++ joins env l c now [] r o ≡ joins env l c now ds r o
joins_behind env l c now ds r (Some s) room = refl
joins_behind env l c now ds r None room =
    let t = nat_lt (length r.sessions) env.limits.sessions in
    let begins = begin_named (is_empty c.client_identifier) l c r in
    ap (λ es. ds ++ es) (placed t begins (refused l c quota_exceeded) room) ∙ sym (placed t (ds ++ begins) (refused l c quota_exceeded) room)

-- a CONNECT is its preparing and then its joining, if there is a place
pub connects_in_parts : (env : Env) (l : Line) (c : Connect) (b : Broker)
    → has_place env.limits.sessions c (after_all (prepare env c b) b).records ≡ true
    → then (prepare env c b) (joins_now l c env) b ≡ connect_by None env l c b
connects_in_parts env l c b room =
    let ds = prepare env c b in
    let r = (after_all ds b).records in
    ap (λ n. ds ++ joins_after env l c n [] r) (now_stays ds b)
    ∙ joins_behind env l c b.now ds r (session_named c.client_identifier r) room

-- and if there is no place it is as if nothing had come before
pub connects_nowhere : (env : Env) (l : Line) (c : Connect) (b : Broker) → session_named c.client_identifier (after_all (prepare env c b) b).records ≡ None
    → nat_lt (length (after_all (prepare env c b) b).records.sessions) env.limits.sessions ≡ false
    → connect_by None env l c b ≡ refused l c quota_exceeded
connects_nowhere env l c b none full =
    let ds = prepare env c b in
    let r = (after_all ds b).records in
    ap (λ o. joins env l c b.now ds r o) none
    ∙ unplaced (nat_lt (length r.sessions) env.limits.sessions) (ds ++ begin_named (is_empty c.client_identifier) l c r) (refused l c quota_exceeded) full
