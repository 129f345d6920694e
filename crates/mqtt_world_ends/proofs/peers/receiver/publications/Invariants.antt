use Rattle.std.proofs.Common.{◌≡◌, take}
use Rattle.mqtt_world_ends.specs.peers.Receivers.{publications_of}
use Rattle.mqtt_world_ends.proofs.peers.receiver.publications.Given as goal

abbrev pub invariant-loop-entry : goal.invariant-loop-entry
invariant-loop-entry l = l.numbers.items ≡ publications_of (take l.entry-index l.entries)
