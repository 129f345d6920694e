use Rattle.mqtt_world_laws.proofs.telling_lemmas.Runs.{brokers, fates, likewise}
use Rattle.mqtt_world_laws.proofs.telling_lemmas.Topics.{topics_sent}
use Rattle.mqtt_world_laws.proofs.telling.laws.every_run_means_what_was_meant.Goals as goal

pub returns-clause-topics : goal.returns-clause-topics
returns-clause-topics c = topics_sent

pub returns-clause-likewise : goal.returns-clause-likewise
returns-clause-likewise c = λ most limits ts. likewise most limits ts (topics_sent limits ts)

pub returns-clause-broker : goal.returns-clause-broker
returns-clause-broker c = λ most limits ts. brokers most limits ts (topics_sent limits ts)

pub returns-clause-fates : goal.returns-clause-fates
returns-clause-fates c = λ most limits ts client n. fates most limits ts client n (topics_sent limits ts)
