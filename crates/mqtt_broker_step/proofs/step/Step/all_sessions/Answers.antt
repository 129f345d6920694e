use Rattle.std.proofs.Common.{◌≡◌, rules, subst}
use Rattle.mqtt_records.specs.declared.state.records.Records.{Records}
use Rattle.mqtt_records.specs.state.Session.{birth_of}
use Rattle.mqtt_records.specs.lists.Order.{IsAscending}
use Rattle.mqtt_broker_step.proofs.step.Step.all_sessions.Goals as goal

pub returns-clause-order : goal.returns-clause-order
returns-clause-order c =
    let same : c.records.result.now ≡ c.args.self.now.broker.records = search rules in
    subst (λ (r : Records). IsAscending birth_of r.sessions) same c.as_slice.ensures.order
