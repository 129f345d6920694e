use Rattle.std.proofs.Common.{ℕ, suc, true, List, subst}
use Rattle.std.specs.Prelude.{OnOk, IfErr}
use Rattle.mqtt_rules.specs.step.Connect.{begin}
use Rattle.mqtt_broker_step.specs.Stepping.{Did, IsLeft}
use Rattle.mqtt_broker_acts.proofs.connecting.beginning.begin_numbered.Goals as goal

pub returns-clause-ok : goal.returns-clause-ok
returns-clause-ok c = λ l number.
    subst (λ (text : List ℕ). OnOk c.begin-begun.result (Did (λ b. begin l c.args.connect.now true text (suc b.records.births)) c.args.step.now c.begin-begun.new.step))
    c.in_ok-client.ensures (c.begin-begun.ensures.ok l number)

pub returns-clause-left : goal.returns-clause-left
returns-clause-left c = λ l number.
    subst (λ (text : List ℕ). IfErr c.begin-begun.result (λ fault. IsLeft (λ b. begin l c.args.connect.now true text (suc b.records.births)) fault c.args.step.now c.begin-begun.new.step))
    c.in_ok-client.ensures (c.begin-begun.ensures.left l number)
