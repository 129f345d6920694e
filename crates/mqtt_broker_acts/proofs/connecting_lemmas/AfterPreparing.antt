-- After the preparation a session is resumed, or a new one begins if there is a place for it.
use Rattle.std.proofs.Common.{◌≡◌, true, false, ◌||◌, nat_lt, [], length, ap, sym, subst, ◌∙◌}
use Rattle.std.specs.Prelude.{Some, None, is_some}
use Rattle.mqtt_base.specs.Codes.{quota_exceeded}
use Rattle.mqtt_packet.specs.declared.connect.connect.Connect.{Connect}
use Rattle.mqtt_records.specs.declared.state.session.Session.{Session}
use Rattle.mqtt_topic.specs.names.Names.{is_empty}
use Rattle.mqtt_rules.specs.step.State.{Line, Env, MemberChoice, session_named}
use Rattle.mqtt_rules.specs.step.Deeds.{Act}
use Rattle.mqtt_rules.specs.step.Connect.{begin_named, joins, on_connect, prepare, refused, resume}
use Rattle.mqtt_broker_step.specs.declared.fault.StepFault.{StepFault}
use Rattle.mqtt_broker_step.specs.Stepping.{Stepping, Did, IsLeft, Leaves, env_in}
use Rattle.mqtt_broker_step.proofs.Then.{same_act, same_left}
use Rattle.mqtt_broker_queue.proofs.publications_lemmas.Leading.{same_env}
use Rattle.mqtt_broker_acts.specs.declared.connecting.joining.Joined.{Joined}
use Rattle.mqtt_broker_acts.specs.declared.connecting.joining.Joined.TheVariants.{Done, NoPlace}
use Rattle.mqtt_broker_acts.specs.connecting.Joining.{ConnectedBy, IsJoined, IsPlaced, IsPrepared, JoinedBy, joins_now}
use Rattle.mqtt_broker_acts.proofs.connecting_lemmas.Connected.{by_refusal, connects_in_parts, connects_nowhere, placed}
use Rattle.mqtt_broker_acts.proofs.connecting_lemmas.Fewer.{or_true}
use Rattle.mqtt_broker_acts.proofs.connecting_lemmas.Parts.{AreWhole, both_done, second_left}
use Rattle.mqtt_broker_acts.proofs.connecting_lemmas.Wholes.{begins_named}

abbrev pub resumes : Line → Connect → Session → Act
resumes l c x b = resume l c b.now x

-- a client whose session stands has a place
pub named_placed : (c : Connect) (x : Session) (s : Stepping) → session_named c.client_identifier s.broker.records ≡ Some x → IsPlaced c s
named_placed c x s named = ap (λ o. is_some o || nat_lt (length s.broker.records.sessions) s.limits.sessions) named

-- any other has one if there is room for a session
pub room_placed : (c : Connect) (s : Stepping) → nat_lt (length s.broker.records.sessions) s.limits.sessions ≡ true → IsPlaced c s
room_placed c s room =
    let known = is_some (session_named c.client_identifier s.broker.records) in
    ap (λ t. known || t) room ∙ or_true known

-- it stands
resumes_is : (env : Env) (l : Line) (c : Connect) (x : Session) (s : Stepping) → session_named c.client_identifier s.broker.records ≡ Some x
    → resumes l c x s.broker ≡ joins_now l c env s.broker
resumes_is env l c x s named = sym (ap (λ o. joins env l c s.broker.now [] s.broker.records o) named)

-- a session that stands is resumed, and its client has joined
pub resumed_joins : (l : Line) (c : Connect) (x : Session) (s s1 : Stepping) → session_named c.client_identifier s.broker.records ≡ Some x
    → Did (resumes l c x) s s1 → IsJoined l c s s1
resumed_joins l c x s s1 named is = record {
  does = λ choice. same_act (resumes l c x) (joins_now l c (env_in choice s)) s s1 (resumes_is (env_in choice s) l c x s named) is;
  place = named_placed c x s named;
}

-- or that is refused
pub resumed_left : (l : Line) (c : Connect) (x : Session) (fault : StepFault) (s s1 : Stepping) → session_named c.client_identifier s.broker.records ≡ Some x
    → IsLeft (resumes l c x) fault s s1 → Leaves (joins_now l c) fault s s1
resumed_left l c x fault s s1 named left = λ choice. same_left (resumes l c x) (joins_now l c (env_in choice s)) fault s s1 (resumes_is (env_in choice s) l c x s named) left

-- it is new, and there is a place for it
begins_is : (choice : MemberChoice) (l : Line) (c : Connect) (s : Stepping) → session_named c.client_identifier s.broker.records ≡ None
    → nat_lt (length s.broker.records.sessions) s.limits.sessions ≡ true
    → begins_named (is_empty c.client_identifier) l c s.broker ≡ joins_now l c (env_in choice s) s.broker
begins_is choice l c s none room =
    sym (ap (λ o. joins (env_in choice s) l c s.broker.now [] s.broker.records o) none
    ∙ placed (nat_lt (length s.broker.records.sessions) s.limits.sessions) (begin_named (is_empty c.client_identifier) l c s.broker.records) (refused l c quota_exceeded) room)

-- a session that does not stand begins, and its client has joined
pub begun_joins : (l : Line) (c : Connect) (s s1 : Stepping) → session_named c.client_identifier s.broker.records ≡ None
    → nat_lt (length s.broker.records.sessions) s.limits.sessions ≡ true
    → Did (begins_named (is_empty c.client_identifier) l c) s s1 → IsJoined l c s s1
begun_joins l c s s1 none room is = record {
  does = λ choice. same_act (begins_named (is_empty c.client_identifier) l c) (joins_now l c (env_in choice s)) s s1 (begins_is choice l c s none room) is;
  place = room_placed c s room;
}

-- or that is refused
pub begun_left : (l : Line) (c : Connect) (fault : StepFault) (s s1 : Stepping) → session_named c.client_identifier s.broker.records ≡ None
    → nat_lt (length s.broker.records.sessions) s.limits.sessions ≡ true
    → IsLeft (begins_named (is_empty c.client_identifier) l c) fault s s1 → Leaves (joins_now l c) fault s s1
begun_left l c fault s s1 none room left = λ choice.
    same_left (begins_named (is_empty c.client_identifier) l c) (joins_now l c (env_in choice s)) fault s s1 (begins_is choice l c s none room) left

-- ---- the whole, from before the preparation

prepared_env : (choice : MemberChoice) (act : Act) (first s : Stepping) → Did act first s → env_in choice s ≡ env_in choice first
prepared_env choice act first s is = same_env choice first s (ap (λ (t : Stepping). t.start) is.is) (ap (λ (t : Stepping). t.limits) is.is)

whole_is : (choice : MemberChoice) (l : Line) (c : Connect) (first s : Stepping) → IsPrepared (env_in choice first) c first s → IsPlaced c s
    → AreWhole (prepare (env_in choice first) c) (joins_now l c (env_in choice first)) (on_connect (env_in choice first) l c) first
whole_is choice l c first s p place =
    connects_in_parts (env_in choice first) l c first.broker (subst (λ (t : Stepping). IsPlaced c t) p.did.is place)
    ∙ by_refusal None (env_in choice first) l c first.broker (sym p.unrefused)

-- preparing and joining are the CONNECT
pub whole_joined : (joined : Joined) (choice : MemberChoice) (l : Line) (c : Connect) (first s s1 : Stepping) → IsPrepared (env_in choice first) c first s
    → JoinedBy l c joined s s1 → ConnectedBy (env_in choice first) l c joined first s1
whole_joined Done choice l c first s s1 p j =
    let e = env_in choice first in
    both_done (prepare e c) (joins_now l c e) (on_connect e l c) first s s1 (whole_is choice l c first s p j.place) p.did
    (subst (λ (x : Env). Did (joins_now l c x) s s1) (prepared_env choice (prepare e c) first s p.did) (j.does choice))
whole_joined NoPlace choice l c first s s1 p j =
    let e = env_in choice first in
    let none = subst (λ (t : Stepping). session_named c.client_identifier t.broker.records ≡ None) p.did.is j.1.new in
    let full = subst (λ (t : Stepping). nat_lt (length t.broker.records.sessions) t.limits.sessions ≡ false) p.did.is j.1.full in
    record {
      refuses = sym (by_refusal None e l c first.broker (sym p.unrefused)) ∙ connects_nowhere e l c first.broker none full;
      start = ap (λ (t : Stepping). t.start) j.0 ∙ ap (λ (t : Stepping). t.start) p.did.is;
      limits = ap (λ (t : Stepping). t.limits) j.0 ∙ ap (λ (t : Stepping). t.limits) p.did.is;
    }

-- a CONNECT may be refused at its joining
pub whole_left : (choice : MemberChoice) (l : Line) (c : Connect) (fault : StepFault) (first s s1 : Stepping) → IsPrepared (env_in choice first) c first s
    → Leaves (joins_now l c) fault s s1 → IsPlaced c s → IsLeft (on_connect (env_in choice first) l c) fault first s1
whole_left choice l c fault first s s1 p left place =
    let e = env_in choice first in
    second_left (prepare e c) (joins_now l c e) (on_connect e l c) fault first s s1 (whole_is choice l c first s p place) p.did
    (subst (λ (x : Env). IsLeft (joins_now l c x) fault s s1) (prepared_env choice (prepare e c) first s p.did) (left choice))
