use Rattle.std.proofs.Common.{◌≡◌, true, false, nat_lt, length, arith}
use Rattle.std.proofs.lemmas.Bool.{lt-ltb, le-ltb}
use Rattle.std.specs.Prelude.{None}
use Rattle.mqtt_base.specs.Codes.{quota_exceeded}
use Rattle.mqtt_topic.specs.names.Names.{is_empty}
use Rattle.mqtt_rules.specs.step.Connect.{connect_by, refused}
use Rattle.mqtt_rules.specs.step.Deeds.{always}
use Rattle.mqtt_broker_step.specs.Stepping.{env_in}
use Rattle.mqtt_broker_step.proofs.Doing.{on_ok, if_err}
use Rattle.mqtt_broker_step.proofs.Then.{same_act, same_left}
use Rattle.mqtt_broker_acts.proofs.connecting_lemmas.Wholes.{begins_named}
use Rattle.mqtt_broker_acts.proofs.connecting_lemmas.Connected.{new_begins, new_refused}
use Rattle.mqtt_broker_acts.proofs.connecting.connecting.begin_or_refuse.Goals as goal

pub returns-then-sessions_len-session_limit-clause-ok : goal.returns-then-sessions_len-session_limit-clause-ok
returns-then-sessions_len-session_limit-clause-ok c = λ l number.
    let s = c.args.step.now in
    let room : nat_lt (length c.args.step.now.broker.records.sessions) c.args.step.now.limits.sessions ≡ true =
    lt-ltb _ _ (omega (arith, c.sessions_len.ensures, c.session_limit.ensures, c.if-sessions_len-session_limit.true)) in
    on_ok c.begin_named.result
    (λ is choice. same_act (begins_named (is_empty c.args.connect.now.client_identifier) l c.args.connect.now) (connect_by None (env_in choice s) l c.args.connect.now) s c.begin_named.new.step
    (new_begins choice l c.args.connect.now s c.requires.new room) is)
    (c.begin_named.ensures.ok l number)

pub returns-then-sessions_len-session_limit-clause-left : goal.returns-then-sessions_len-session_limit-clause-left
returns-then-sessions_len-session_limit-clause-left c = λ l number.
    let s = c.args.step.now in
    let room : nat_lt (length c.args.step.now.broker.records.sessions) c.args.step.now.limits.sessions ≡ true =
    lt-ltb _ _ (omega (arith, c.sessions_len.ensures, c.session_limit.ensures, c.if-sessions_len-session_limit.true)) in
    if_err c.begin_named.result
    (λ fault is choice. same_left (begins_named (is_empty c.args.connect.now.client_identifier) l c.args.connect.now) (connect_by None (env_in choice s) l c.args.connect.now) fault s c.begin_named.new.step
    (new_begins choice l c.args.connect.now s c.requires.new room) is)
    (c.begin_named.ensures.left l number)

pub returns-else-sessions_len-session_limit-clause-ok : goal.returns-else-sessions_len-session_limit-clause-ok
returns-else-sessions_len-session_limit-clause-ok c = λ l number.
    let s = c.args.step.now in
    let full : nat_lt (length c.args.step.now.broker.records.sessions) c.args.step.now.limits.sessions ≡ false =
    le-ltb _ _ (omega (arith, c.sessions_len.ensures, c.session_limit.ensures, c.if-sessions_len-session_limit.false)) in
    on_ok c.refuse.result
    (λ is choice. same_act (always (refused l c.args.connect.now quota_exceeded)) (connect_by None (env_in choice s) l c.args.connect.now) s c.refuse.new.step
    (new_refused choice l c.args.connect.now s c.requires.new full) is)
    (c.refuse.ensures.ok l number)

pub returns-else-sessions_len-session_limit-clause-left : goal.returns-else-sessions_len-session_limit-clause-left
returns-else-sessions_len-session_limit-clause-left c = λ l number.
    let s = c.args.step.now in
    let full : nat_lt (length c.args.step.now.broker.records.sessions) c.args.step.now.limits.sessions ≡ false =
    le-ltb _ _ (omega (arith, c.sessions_len.ensures, c.session_limit.ensures, c.if-sessions_len-session_limit.false)) in
    if_err c.refuse.result
    (λ fault is choice. same_left (always (refused l c.args.connect.now quota_exceeded)) (connect_by None (env_in choice s) l c.args.connect.now) fault s c.refuse.new.step
    (new_refused choice l c.args.connect.now s c.requires.new full) is)
    (c.refuse.ensures.left l number)
