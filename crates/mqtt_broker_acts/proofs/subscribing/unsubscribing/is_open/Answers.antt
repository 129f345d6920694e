use Rattle.std.proofs.Common.{ap, ◌∙◌}
use Rattle.mqtt_records.specs.lists.Order.{has_row}
use Rattle.mqtt_records.specs.state.Session.{number_of}
use Rattle.mqtt_broker_queue.proofs.publications_lemmas.Opens.{has_is_among}
use Rattle.mqtt_broker_acts.proofs.subscribing.unsubscribing.is_open.Goals as goal

pub returns : goal.returns
returns c =
    c.has.ensures ∙ (ap (λ k. has_row number_of k c.args.session.now.inbound) c.from.ensures
    ∙ has_is_among c.args.identifier c.args.session.now.inbound)
