-- By what is under way from the receiver at the start, and by what stands after the first round.
use Rattle.mqtt_world_laws.proofs.delivery_lemmas.drains.DrainCauses.{run_ends, run_ends_later}
use Rattle.mqtt_world_laws.proofs.delivery.drain_laws.copies_end_in_a_drain_by_a_cause.Goals as goal

pub returns : goal.returns
returns c = record {
  ends = λ limits ts choice client most w u fair unspent r e calm over. run_ends limits ts choice client most w u fair unspent r e calm over;
  later = run_ends_later;
}
