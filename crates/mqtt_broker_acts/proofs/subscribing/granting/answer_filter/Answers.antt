use Rattle.std.proofs.Common.{ℕ, List, subst}
use Rattle.std.specs.Prelude.{IfErr}
use Rattle.mqtt_broker_step.specs.Stepping.{Leaves}
use Rattle.mqtt_broker_acts.specs.subscribing.Granting.{answers, asked_for}
use Rattle.mqtt_broker_acts.proofs.subscribing.granting.answer_filter.Goals as goal

pub returns-in-Ok-clause-left : goal.returns-in-Ok-clause-left
returns-in-Ok-clause-left c =
    subst (λ (t : List ℕ). IfErr c.answer_valid.result (λ fault. Leaves (answers c.args.birth (asked_for t c.args.options c.args.identifier)) fault c.args.step.now c.answer_valid.new.step))
    c.in-Ok.ensures.read c.answer_valid.ensures.left
