-- The first round is the CONNECT alone; after it the drain is one of a receiver that is connected.
use Rattle.mqtt_world_laws.proofs.receiver_lemmas.drains.WorldRoundConnects.{connect_is_drained, connect_is_over, connect_is_within, none_drained, renewal_is_over, renewed_round, resumed_round}
use Rattle.mqtt_world_laws.proofs.receiver.connect_round_laws.a_drain_with_a_connect_ends.Goals as goal

pub returns : goal.returns
returns c = record {
  resumes = resumed_round;
  renews = renewed_round;
  is_within = connect_is_within;
  is_over = connect_is_over;
  is_drained = connect_is_drained;
  is_renewed = renewal_is_over;
  begins = none_drained;
}
