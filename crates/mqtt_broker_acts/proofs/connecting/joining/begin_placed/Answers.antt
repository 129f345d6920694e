use Rattle.std.proofs.Common.{◌≡◌, true, nat_lt, length, rules, arith, sym, subst}
use Rattle.std.proofs.lemmas.Bool.{lt-ltb}
use Rattle.std.specs.Prelude.{Result, Err, IfErr, OnErr}
use Rattle.mqtt_broker_step.specs.declared.fault.StepFault.{StepFault}
use Rattle.mqtt_broker_step.specs.Stepping.{Leaves}
use Rattle.mqtt_broker_acts.specs.declared.connecting.joining.Joined.{Joined}
use Rattle.mqtt_broker_acts.specs.connecting.Joining.{IsPlaced, joins_now}
use Rattle.mqtt_broker_acts.proofs.connecting_lemmas.AfterPreparing.{begun_joins, begun_left, room_placed}
use Rattle.mqtt_broker_acts.proofs.connecting.joining.begin_placed.Goals as goal

pub returns-in_err-begin_named-clause-left : goal.returns-in_err-begin_named-clause-left
returns-in_err-begin_named-clause-left c = λ l number.
    let room : nat_lt (length c.args.step.now.broker.records.sessions) c.args.step.now.limits.sessions ≡ true =
    lt-ltb _ _ (omega (arith, c.sessions_len.ensures, c.session_limit.ensures, c.if-sessions_len-session_limit.false)) in
    let left : Leaves (joins_now l c.args.connect.now) c.in_err-begin_named.field-0.0 c.args.step.now c.begin_named.new.step =
    begun_left l c.args.connect.now c.in_err-begin_named.field-0.0 c.args.step.now c.begin_named.new.step c.requires.new room (c.in_err-begin_named.ensures.left l number) in
    let is : c.from_residual.result ≡ Err c.in_err-begin_named.field-0.0 = search rules in
    subst (λ (r : Result Joined StepFault). IfErr r (λ fault. Leaves (joins_now l c.args.connect.now) fault c.args.step.now c.begin_named.new.step)) (sym is) left

pub returns-in_err-begin_named-clause-place : goal.returns-in_err-begin_named-clause-place
returns-in_err-begin_named-clause-place c =
    let room : nat_lt (length c.args.step.now.broker.records.sessions) c.args.step.now.limits.sessions ≡ true =
    lt-ltb _ _ (omega (arith, c.sessions_len.ensures, c.session_limit.ensures, c.if-sessions_len-session_limit.false)) in
    let is : c.from_residual.result ≡ Err c.in_err-begin_named.field-0.0 = search rules in
    subst (λ (r : Result Joined StepFault). OnErr r (IsPlaced c.args.connect.now c.args.step.now)) (sym is) (room_placed c.args.connect.now c.args.step.now room)

pub returns-clause-ok : goal.returns-clause-ok
returns-clause-ok c = λ l number.
    let room : nat_lt (length c.args.step.now.broker.records.sessions) c.args.step.now.limits.sessions ≡ true =
    lt-ltb _ _ (omega (arith, c.sessions_len.ensures, c.session_limit.ensures, c.if-sessions_len-session_limit.false)) in
    begun_joins l c.args.connect.now c.args.step.now c.begin_named.new.step c.requires.new room (c.in_ok-begin_named.ensures.ok l number)
