-- The broker sends, the receiver reads all, and the broker reads all.
use Rattle.mqtt_world_laws.proofs.receiver_lemmas.drains.WorldRounds.{round_is}
use Rattle.mqtt_world_laws.proofs.receiver.world_round_laws.a_round_of_a_drain_is_one_of_the_hop.Goals as goal

pub returns : goal.returns
returns c = record { is_round = λ number largest window ids birth ns limits choice client copies r w may same k. round_is number largest window ids birth ns limits choice client copies r w may same k }
