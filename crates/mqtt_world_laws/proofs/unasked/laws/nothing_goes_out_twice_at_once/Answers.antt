-- By what each act sends at once.
use Rattle.mqtt_world_laws.proofs.unasked_lemmas.Once.{call_once, open_once}
use Rattle.mqtt_world_laws.proofs.unasked.laws.nothing_goes_out_twice_at_once.Goals as goal

pub returns-clause-call : goal.returns-clause-call
returns-clause-call c = call_once

pub returns-clause-opening : goal.returns-clause-opening
returns-clause-opening c = open_once
