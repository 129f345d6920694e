-- By the run of the hop that each publisher sees.
use Rattle.mqtt_world_laws.proofs.acceptance_lemmas.publishers.Runs.{accepts_once, few_open}
use Rattle.mqtt_world_laws.proofs.acceptance_lemmas.publishers.Carried.{all_carried}
use Rattle.mqtt_world_laws.proofs.acceptance.run_laws.every_run_accepts_once.Goals as goal

pub returns-clause-once : goal.returns-clause-once
returns-clause-once c = accepts_once

pub returns-clause-carried : goal.returns-clause-carried
returns-clause-carried c = all_carried

pub returns-clause-within : goal.returns-clause-within
returns-clause-within c = few_open
