use Rattle.std.proofs.Common.{◌≡◌, rules, inr}
use Rattle.std.specs.Prelude.{None}
use Rattle.mqtt_rules.specs.step.State.{session_at}
use Rattle.mqtt_broker_queue.proofs.publications_lemmas.Some.{does_some}
use Rattle.mqtt_broker_acts.specs.connecting.Preparing.{settles}
use Rattle.mqtt_broker_acts.proofs.connecting_lemmas.Prepared.{settles_nothing}
use Rattle.mqtt_broker_acts.proofs.connecting.preparing.settle_standing.Goals as goal

pub returns-in-None-clause-ok : goal.returns-in-None-clause-ok
returns-in-None-clause-ok g c =
    let s = c.args.step.now in
    let none : session_at c.args.birth s.broker.records ≡ None = search rules in
    does_some (settles c.args.birth) s s (settles_nothing c.args.birth s none)

pub returns-in-None-clause-quiet : goal.returns-in-None-clause-quiet
returns-in-None-clause-quiet g c = λ quiet.
    let s = c.args.step.now in
    let none : session_at c.args.birth s.broker.records ≡ None = search rules in
    settles_nothing c.args.birth s none

pub returns-in-None-clause-once : goal.returns-in-None-clause-once
returns-in-None-clause-once g c =
    let s = c.args.step.now in
    let none : session_at c.args.birth s.broker.records ≡ None = search rules in
    inr (settles_nothing c.args.birth s none)
