use Rattle.mqtt_world_laws.proofs.knowing_lemmas.Worlds.{asked_takes, happens_knowing, opened_world_knowing, run_knowing}
use Rattle.mqtt_world_laws.proofs.knowing.laws.ends_know_what_they_were_told.Goals as goal

pub returns-clause-opened : goal.returns-clause-opened
returns-clause-opened c = opened_world_knowing

pub returns-clause-happens : goal.returns-clause-happens
returns-clause-happens c = happens_knowing

pub returns-clause-run : goal.returns-clause-run
returns-clause-run c = run_knowing

pub returns-clause-asked : goal.returns-clause-asked
returns-clause-asked c = asked_takes
