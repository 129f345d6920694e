-- From the line at the index on the seats are told.
use Rattle.std.proofs.Common.{◌≡◌, ◌≤◌, length}
use Rattle.mqtt_broker_queue.proofs.publications_lemmas.Seated.{AreSeatsFrom}
use Rattle.mqtt_broker_queue.proofs.publications.seats.seats_of.Given as goal

abbrev pub invariant-loop-at : goal.invariant-loop-at
invariant-loop-at l = AreSeatsFrom l.at l.seats l.lines × (length l.seats ≡ 1024) × (l.at ≤ length l.lines)

abbrev pub decreases-loop-at : goal.decreases-loop-at
decreases-loop-at l = l.at
