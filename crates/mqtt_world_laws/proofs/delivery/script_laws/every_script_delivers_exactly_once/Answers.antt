-- By the laws of every run, and of drains from wherever one comes to.
use Rattle.mqtt_world_laws.proofs.receiver_lemmas.drains.DrainRuns.{drains_are_runs}
use Rattle.mqtt_world_laws.proofs.delivery_lemmas.whole.Scripts.{run_delivers, script_drains, start_delivers, start_drains}
use Rattle.mqtt_world_laws.proofs.delivery.script_laws.every_script_delivers_exactly_once.Goals as goal

pub returns-clause-delivers : goal.returns-clause-delivers
returns-clause-delivers c = run_delivers

pub returns-clause-drains : goal.returns-clause-drains
returns-clause-drains c = script_drains

pub returns-clause-is_run : goal.returns-clause-is_run
returns-clause-is_run c = drains_are_runs

pub returns-clause-from_nothing : goal.returns-clause-from_nothing
returns-clause-from_nothing c = λ limits ds fair. (start_delivers limits ds fair, start_drains limits ds fair)
