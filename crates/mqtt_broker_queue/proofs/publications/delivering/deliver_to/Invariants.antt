-- Those who are left get what is left to hand over, and the seats are those of the lines.
use Rattle.std.proofs.Common.{length, map}
use Rattle.mqtt_broker_queue.specs.publications.Copies.{copies_for}
use Rattle.mqtt_broker_queue.specs.publications.Seats.{AreSeats}
use Rattle.mqtt_broker_queue.proofs.publications_lemmas.Delivered.{Handing}
use Rattle.mqtt_broker_queue.proofs.publications.delivering.deliver_to.Given as goal

abbrev pub invariant-loop-to : goal.invariant-loop-to
invariant-loop-to g l =
    let to_of = g.T.Addressed.addressee in
    Handing (copies_for l.common (map to_of l.rest)) (copies_for l.fn.common (map to_of l.fn.all)) l.fn.step l.step × AreSeats l.seats l.step.broker.lines

abbrev pub decreases-loop-to : goal.decreases-loop-to
decreases-loop-to g l = length l.rest
