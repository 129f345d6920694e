-- By induction over the events.
use Rattle.mqtt_world.proofs.script_laws_lemmas.Scripts.{runs_by_turns}
use Rattle.mqtt_world.proofs.script_laws.laws.a_script_runs_by_turns.Goals as goal

pub returns : goal.returns
returns c = record { is = runs_by_turns }
