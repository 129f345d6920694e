use Rattle.std.proofs.Common.{List, subst, ap}
use Rattle.mqtt_records.specs.messages.Queue.{CopyRow}
use Rattle.mqtt_records.specs.state.Session.{copy_place}
use Rattle.mqtt_records.specs.lists.Order.{IsAscending}
use Rattle.mqtt_broker_acts.specs.closing.Ending.{queue_of}
use Rattle.mqtt_broker_acts.proofs.closing.ending.copies.Goals as goal

pub returns-in-Some-clause-order : goal.returns-in-Some-clause-order
returns-in-Some-clause-order c =
    subst (λ (q : List CopyRow). IsAscending copy_place q) (ap queue_of c.in-Some.ensures) c.as_slice.ensures.order
