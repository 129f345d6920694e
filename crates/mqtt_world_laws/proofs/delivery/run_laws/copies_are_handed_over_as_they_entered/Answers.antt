-- By what comes to the queue with each event.
use Rattle.mqtt_world_laws.proofs.delivery_lemmas.order.WholeOrder.{run_hands_whole}
use Rattle.mqtt_world_laws.proofs.delivery_lemmas.order.Coming.{none_at_first, run_enters, run_hands_as_come, run_hands_as_entered}
use Rattle.mqtt_world_laws.proofs.delivery_lemmas.whole.Newcomers.{run_hands_all}
use Rattle.mqtt_world_laws.proofs.delivery.run_laws.copies_are_handed_over_as_they_entered.Goals as goal

pub returns : goal.returns
returns c = record {
  as_come = λ limits xs ys w u fair client q r e f. run_hands_as_come limits xs ys w u fair client q e r f;
  come = run_enters;
  as_entered = λ limits xs ys w u fair client q r e f. run_hands_as_entered limits xs ys w u fair client q e r f;
  whole = λ limits xs ys w u fair client q r e f. run_hands_whole limits xs ys w u fair client q r e f;
  first = none_at_first;
  all = run_hands_all;
}
