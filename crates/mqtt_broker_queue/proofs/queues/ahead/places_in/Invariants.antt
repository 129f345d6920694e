-- The places so far, and those of the turns that are left, are all places.
use Rattle.std.proofs.Common.{◌≡◌, ◌++◌, drop}
use Rattle.std.specs.Prelude.{filter_map}
use Rattle.mqtt_rules.specs.filling.Pumped.{place_sent}
use Rattle.mqtt_broker_queue.proofs.queues.ahead.places_in.Given as goal

abbrev pub invariant-loop-turn : goal.invariant-loop-turn
invariant-loop-turn l = l.places.items ++ filter_map place_sent (drop l.turn-index l.turns) ≡ filter_map place_sent l.turns
