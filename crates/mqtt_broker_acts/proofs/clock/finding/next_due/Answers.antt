use Rattle.std.proofs.Common.{ap, sym, ◌∙◌}
use Rattle.std.specs.Prelude.{Option, is_some}
use Rattle.mqtt_broker_acts.specs.declared.clock.finding.Due.{Due}
use Rattle.mqtt_broker_acts.specs.clock.Ticking.{does_first}
use Rattle.mqtt_broker_acts.proofs.clock_lemmas.Told.{deeds_are, again_is}
use Rattle.mqtt_broker_acts.proofs.clock.finding.next_due.Goals as goal

pub returns-clause-deeds : goal.returns-clause-deeds
returns-clause-deeds c = λ env.
    let b = c.args.step.now.broker in
    deeds_are env b c.in_order.ensures.lines c.in_order.ensures.sessions ∙ ap (λ (o : Option Due). does_first o env b) (sym c.first_due.ensures)

pub returns-clause-again : goal.returns-clause-again
returns-clause-again c = λ env.
    let b = c.args.step.now.broker in
    again_is env b c.in_order.ensures.lines c.in_order.ensures.sessions ∙ ap (λ (o : Option Due). is_some o) (sym c.first_due.ensures)
