-- By the law of each step, and by what waits in queues.
use Rattle.mqtt_world_laws.proofs.unasked_lemmas.Runs.{nothing_asked, run_asked, script_asked}
use Rattle.mqtt_world_laws.proofs.unasked.laws.nobody_is_sent_what_he_did_not_ask_for.Goals as goal

pub returns-clause-run : goal.returns-clause-run
returns-clause-run c = run_asked

pub returns-clause-from_nothing : goal.returns-clause-from_nothing
returns-clause-from_nothing c = nothing_asked

pub returns-clause-script : goal.returns-clause-script
returns-clause-script c = script_asked
