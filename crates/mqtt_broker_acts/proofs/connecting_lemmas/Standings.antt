-- A CONNECT of a client whose session stands: what comes before, then the connection.
use Rattle.std.proofs.Common.{◌≡◌, ℕ, ◌≤◌, true, length, refl, ap, sym, subst, ◌∙◌}
use Rattle.std.specs.Prelude.{Result, Ok, Err, IfErr, IfOk, None, is_some}
use Rattle.mqtt_packet.specs.declared.connect.connect.Connect.{Connect}
use Rattle.mqtt_rules.specs.step.Connect.{on_connect, prepare, refusal}
use Rattle.mqtt_rules.specs.step.Numbers.{HasGivenBirths}
use Rattle.mqtt_rules.specs.step.State.{Line, MemberChoice, session_named}
use Rattle.mqtt_broker_step.specs.declared.fault.StepFault.{StepFault}
use Rattle.mqtt_broker_step.specs.Stepping.{Stepping, Did, IsLeft, env_in}
use Rattle.mqtt_broker_queue.specs.publications.Choosing.{DoesSome, LeavesSome}
use Rattle.mqtt_broker_acts.specs.declared.connecting.joining.Joined.{Joined}
use Rattle.mqtt_broker_acts.specs.connecting.Joining.{ConnectedBy, IsNamedAt, IsPrepared, joins_now}
use Rattle.mqtt_broker_acts.specs.connecting.Preparing.{IsConnected}
use Rattle.mqtt_broker_acts.proofs.connecting_lemmas.Connected.{by_refusal, connects_in_parts}
use Rattle.mqtt_broker_acts.proofs.connecting_lemmas.Fewer.{births_stay_given, place_is_left}
use Rattle.mqtt_broker_acts.proofs.connecting_lemmas.Parts.{first_left}

-- a session that is found by a name is known by it
pub known : (c : Connect) (birth : ℕ) (s : Stepping) → IsNamedAt c.client_identifier birth s.broker.records → is_some (session_named c.client_identifier s.broker.records) ≡ true
known c birth s named = ap is_some named.named

-- births that were given
pub given_after : (c : Connect) (s s1 : Stepping) → DoesSome (λ env. prepare env c) s s1 → HasGivenBirths s.broker.records → HasGivenBirths s1.broker.records
given_after c s s1 some given =
    let choice : MemberChoice = λ n sender. some.members in
    let is : Did (prepare (env_in choice s) c) s s1 = some.is choice refl in
    subst (λ (t : Stepping). HasGivenBirths t.broker.records) (sym is.is) (births_stay_given (env_in choice s) c s.broker given)

-- connected, or to be refused
pub connected : (r : Result Joined StepFault) (l : Line) (c : Connect) (s s1 new : Stepping) → refusal c s.broker.records ≡ None → DoesSome (λ env. prepare env c) s s1
    → ((choice : MemberChoice) → IsPrepared (env_in choice s) c s s1 → IfOk r (λ joined. ConnectedBy (env_in choice s) l c joined s new))
    → IfOk r (λ joined. IsConnected l c joined s new)
connected (Ok joined) l c s s1 new unrefused some rest = record {
  number = some.number;
  sender = some.sender;
  members = some.members;
  is = λ choice same. rest choice (record { unrefused = unrefused; did = some.is choice same });
}
connected (Err fault) l c s s1 new unrefused some rest = tt

-- what comes before is refused
pub prepare_refused : (l : Line) (c : Connect) (birth : ℕ) (fault : StepFault) (s new : Stepping) → refusal c s.broker.records ≡ None → IsNamedAt c.client_identifier birth s.broker.records
    → length s.broker.records.sessions ≤ s.limits.sessions → LeavesSome (λ env. prepare env c) fault s new → LeavesSome (λ env. on_connect env l c) fault s new
prepare_refused l c birth fault s new unrefused named within left = record {
  number = left.number;
  sender = left.sender;
  members = left.members;
  is = λ choice same.
      let e = env_in choice s in
      first_left (prepare e c) (joins_now l c e) (on_connect e l c) fault s new
      (connects_in_parts e l c s.broker (place_is_left e c s.broker (known c birth s named) within) ∙ by_refusal None e l c s.broker (sym unrefused))
      (left.is choice same);
}

-- the connection is refused
pub join_refused : (r : Result Joined StepFault) (l : Line) (c : Connect) (s s1 new : Stepping) → refusal c s.broker.records ≡ None → DoesSome (λ env. prepare env c) s s1
    → ((choice : MemberChoice) → IsPrepared (env_in choice s) c s s1 → IfErr r (λ fault. IsLeft (on_connect (env_in choice s) l c) fault s new))
    → IfErr r (λ fault. LeavesSome (λ env. on_connect env l c) fault s new)
join_refused (Ok joined) l c s s1 new unrefused some rest = tt
join_refused (Err fault) l c s s1 new unrefused some rest = record {
  number = some.number;
  sender = some.sender;
  members = some.members;
  is = λ choice same. rest choice (record { unrefused = unrefused; did = some.is choice same });
}
