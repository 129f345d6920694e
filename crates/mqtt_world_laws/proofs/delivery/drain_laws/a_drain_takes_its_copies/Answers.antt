-- No queue grows by more than the copies that enter.
use Rattle.mqtt_world_laws.proofs.delivery_lemmas.drains.DrainBounds.{few_rounds, over_then}
use Rattle.mqtt_world_laws.proofs.delivery.drain_laws.a_drain_takes_its_copies.Goals as goal

pub returns : goal.returns
returns c = record {
  is_within = λ limits ts choice client most w u fair unspent. few_rounds limits ts choice client w u fair unspent most;
  is_over = λ limits ts choice client most w u fair unspent enough. over_then limits ts choice client w u fair unspent most enough;
}
