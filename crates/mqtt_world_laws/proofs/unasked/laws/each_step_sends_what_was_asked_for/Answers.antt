-- By what each act sends, lets enter and grants.
use Rattle.mqtt_world_laws.proofs.unasked_lemmas.Steps.{call_asked, open_asked}
use Rattle.mqtt_world_laws.proofs.unasked.laws.each_step_sends_what_was_asked_for.Goals as goal

pub returns-clause-call : goal.returns-clause-call
returns-clause-call c = call_asked

pub returns-clause-opening : goal.returns-clause-opening
returns-clause-opening c = open_asked
