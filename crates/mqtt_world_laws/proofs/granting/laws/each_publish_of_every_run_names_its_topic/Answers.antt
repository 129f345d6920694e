use Rattle.mqtt_world_laws.proofs.granting_lemmas.Runs.{run_holds, run_topics, start_topics}
use Rattle.mqtt_world_laws.proofs.granting.laws.each_publish_of_every_run_names_its_topic.Goals as goal

pub returns-clause-topics : goal.returns-clause-topics
returns-clause-topics c = run_topics

pub returns-clause-holds : goal.returns-clause-holds
returns-clause-holds c = run_holds

pub returns-clause-from_nothing : goal.returns-clause-from_nothing
returns-clause-from_nothing c = start_topics
