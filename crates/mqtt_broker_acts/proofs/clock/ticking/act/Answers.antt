use Rattle.std.proofs.Common.{sym, subst}
use Rattle.std.specs.Prelude.{OnOk, IfErr}
use Rattle.mqtt_broker_queue.specs.publications.Choosing.{DoesSome, LeavesSome}
use Rattle.mqtt_broker_step.proofs.Doing.{on_ok, if_err}
use Rattle.mqtt_broker_acts.specs.declared.clock.finding.Due.{Due}
use Rattle.mqtt_broker_acts.specs.clock.Ticking.{does_due}
use Rattle.mqtt_broker_acts.proofs.clock_lemmas.Ticked.{silence_done, silence_failed, will_done, will_failed}
use Rattle.mqtt_broker_acts.proofs.clock.ticking.act.Goals as goal

pub returns-in-Silence-clause-ok : goal.returns-in-Silence-clause-ok
returns-in-Silence-clause-ok g c =
    let s = c.args.step.now in
    let new = c.silence.new.step in
    subst (λ (d : Due). OnOk c.silence.result (DoesSome (does_due d) s new)) (sym c.in-Silence.is)
    (on_ok c.silence.result (silence_done c.in-Silence.line s new) c.silence.ensures.ok)

pub returns-in-Silence-clause-left : goal.returns-in-Silence-clause-left
returns-in-Silence-clause-left g c =
    let s = c.args.step.now in
    let new = c.silence.new.step in
    subst (λ (d : Due). IfErr c.silence.result (λ fault. LeavesSome (does_due d) fault s new)) (sym c.in-Silence.is)
    (if_err c.silence.result (λ fault. silence_failed c.in-Silence.line fault s new) c.silence.ensures.left)

pub returns-in-Will-clause-ok : goal.returns-in-Will-clause-ok
returns-in-Will-clause-ok g c =
    let s = c.args.step.now in
    let new = c.publish_will.new.step in
    subst (λ (d : Due). OnOk c.publish_will.result (DoesSome (does_due d) s new)) (sym c.in-Will.is)
    (on_ok c.publish_will.result (will_done c.in-Will.birth s new) c.publish_will.ensures.ok)

pub returns-in-Will-clause-left : goal.returns-in-Will-clause-left
returns-in-Will-clause-left g c =
    let s = c.args.step.now in
    let new = c.publish_will.new.step in
    subst (λ (d : Due). IfErr c.publish_will.result (λ fault. LeavesSome (does_due d) fault s new)) (sym c.in-Will.is)
    (if_err c.publish_will.result (λ fault. will_failed c.in-Will.birth fault s new) c.publish_will.ensures.left)
