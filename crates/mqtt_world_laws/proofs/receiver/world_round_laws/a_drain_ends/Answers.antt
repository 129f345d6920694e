-- Round by round, the receiver's hop is drained.
use Rattle.mqtt_world_laws.proofs.receiver_lemmas.drains.WorldRounds.{drain_is, drain_is_empty, drain_is_within, drain_over_later, drain_within_later}
use Rattle.mqtt_world_laws.proofs.receiver.world_round_laws.a_drain_ends.Goals as goal

pub returns : goal.returns
returns c = record {
  is_within = drain_is_within;
  is_empty = drain_is_empty;
  is_drained = λ number largest window ids birth ns limits choice client copies most r w room may same k. drain_is number largest window ids birth ns limits choice client copies r w may same k most room;
  is_within_later = drain_within_later;
  is_over_later = drain_over_later;
}
