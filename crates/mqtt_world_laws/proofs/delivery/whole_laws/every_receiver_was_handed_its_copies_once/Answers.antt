-- By the ends of each event, and by what stands in queues and is under way.
use Rattle.mqtt_world_laws.proofs.acceptance_lemmas.copies.CopyRuns.{run_numbers}
use Rattle.mqtt_world_laws.proofs.acceptance_lemmas.copies.Walks.{counted}
use Rattle.mqtt_world_laws.proofs.delivery_lemmas.contents.ContentRuns.{run_reads}
use Rattle.mqtt_world_laws.proofs.delivery_lemmas.taken.HandedEnds.{run_takes}
use Rattle.mqtt_world_laws.proofs.delivery_lemmas.whole.WholeRuns.{all_handed_whole}
use Rattle.mqtt_world_laws.proofs.delivery.whole_laws.every_receiver_was_handed_its_copies_once.Goals as goal

pub returns : goal.returns
returns c = record {
  every = all_handed_whole;
  taken = λ limits xs ys w u fair client q r e f. run_takes limits xs ys w u fair client q e r f;
  carried = λ limits ts w u numbers fair client r e. run_reads limits ts w u numbers (run_numbers limits ts w u.new (counted limits ts w fair)) fair client r e;
}
