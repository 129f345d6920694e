-- By where the receiver is after the first round.
use Rattle.mqtt_world_laws.proofs.drains_lemmas.Emptied.{run_empties, script_empties, start_empties}
use Rattle.mqtt_world_laws.proofs.drains.laws.a_drain_empties_the_queue.Goals as goal

pub returns : goal.returns
returns c = record { empties = run_empties; of_scripts = script_empties; from_nothing = start_empties }
