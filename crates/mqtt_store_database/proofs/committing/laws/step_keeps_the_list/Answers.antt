use Rattle.mqtt_store_database.specs.written.Shortened.{shortened}
use Rattle.mqtt_store_database.proofs.committing_lemmas.Catalog.{steps_keep}
use Rattle.mqtt_store_database.proofs.committing.laws.step_keeps_the_list.Goals as goal

pub returns : goal.returns
returns c making changes db next made = steps_keep making (shortened changes) db next made
