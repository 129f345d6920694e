use Rattle.std.proofs.Common.{suc, ap, sym, subst, ◌∙◌}
use Rattle.mqtt_records.specs.lists.Order.{IsBelow}
use Rattle.mqtt_rules.specs.step.State.{Line}
use Rattle.mqtt_rules.specs.step.Deeds.{fresh_line}
use Rattle.mqtt_broker_step.specs.Lines.{line_number}
use Rattle.mqtt_broker_step.specs.Undoing.{with_linked}
use Rattle.mqtt_broker_step.specs.Doing.{links, after_act}
use Rattle.mqtt_broker_step.specs.Stepping.{Stepping, at_rest}
use Rattle.mqtt_broker_step.proofs.Links.{linked_is}
use Rattle.mqtt_broker_step.proofs.step.Step.link.Goals as goal

pub returns-clause-step : goal.returns-clause-step
returns-clause-step c =
    let v : Stepping = c.rest_at.new.self in
    let below = subst (λ (w : Stepping). IsBelow line_number (suc w.broker.given) w.broker.lines) (sym c.rest_at.ensures) c.requires.given in
    c.add_line.ensures
    ∙ (ap (λ (l : Line). at_rest v.limits (with_linked l v.broker)) (c.new-line.ensures ∙ ap (fresh_line c.in_ok-number.number) c.moment.ensures)
    ∙ (ap (at_rest v.limits) (linked_is v.limits v.broker c.in_ok-number.number below (sym c.in_ok-number.ensures))
    ∙ ap (λ (w : Stepping). at_rest w.limits (after_act (links w.limits) w.broker)) c.rest_at.ensures))
