use Rattle.std.proofs.Common.{ap, subst, ◌∙◌}
use Rattle.mqtt_records.specs.declared.state.records.Records.{Records}
use Rattle.mqtt_records.specs.state.Session.{birth_of}
use Rattle.mqtt_records.specs.lists.Order.{IsAscending}
use Rattle.mqtt_broker_step.specs.Stepping.{Stepping}
use Rattle.mqtt_broker_step.proofs.step.Step.show_order.Goals as goal

pub returns : goal.returns
returns c =
    subst (λ (r : Records). IsAscending birth_of r.sessions)
    (c.records.ensures ∙ ap (λ (v : Stepping). v.broker.records) c.self.view_is)
    c.as_slice.ensures.order
