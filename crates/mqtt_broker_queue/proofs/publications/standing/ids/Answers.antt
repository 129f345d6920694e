use Rattle.mqtt_rules.proofs.step_lemmas.order.OpenLists.{increasing_there}
use Rattle.mqtt_broker_queue.proofs.publications.standing.ids.Goals as goal

pub returns-clause-lawful : goal.returns-clause-lawful
returns-clause-lawful c = record {
  ascending = increasing_there c.args.inbound.now c.as_slice.ensures.order;
  within = c.as_slice.ensures.few;
}
