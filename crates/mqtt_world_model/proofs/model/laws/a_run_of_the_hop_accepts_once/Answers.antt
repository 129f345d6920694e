-- By the law of the hop.
use Rattle.mqtt_world_model.proofs.model_lemmas.seats.Projected.{at_most_once, none_unsent, once_completed, none_refused, some_acknowledged}
use Rattle.mqtt_world_model.proofs.model.laws.a_run_of_the_hop_accepts_once.Goals as goal

pub returns-clause-once : goal.returns-clause-once
returns-clause-once c = at_most_once

pub returns-clause-unsent : goal.returns-clause-unsent
returns-clause-unsent c = none_unsent

pub returns-clause-completed : goal.returns-clause-completed
returns-clause-completed c = once_completed

pub returns-clause-refused : goal.returns-clause-refused
returns-clause-refused c = none_refused

pub returns-clause-acknowledged : goal.returns-clause-acknowledged
returns-clause-acknowledged c = some_acknowledged
