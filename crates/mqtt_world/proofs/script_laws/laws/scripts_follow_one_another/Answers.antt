-- By induction over the events.
use Rattle.mqtt_world.proofs.script_laws_lemmas.Scripts.{runs_drained, runs_further, runs_join}
use Rattle.mqtt_world.proofs.script_laws.laws.scripts_follow_one_another.Goals as goal

pub returns-clause-joins : goal.returns-clause-joins
returns-clause-joins c = runs_join

pub returns-clause-further : goal.returns-clause-further
returns-clause-further c = runs_further

pub returns-clause-drained : goal.returns-clause-drained
returns-clause-drained c = runs_drained
