-- What a publisher sees of its own doings, wherever it is.
use Rattle.mqtt_world_model.proofs.model_lemmas.seats.Doings.{publishes, hears, gives, joins}
use Rattle.mqtt_world_model.proofs.model.seat_laws.every_doing_is_some_steps_of_the_hop.Goals as goal

pub returns-clause-publishes : goal.returns-clause-publishes
returns-clause-publishes c = publishes

pub returns-clause-reads : goal.returns-clause-reads
returns-clause-reads c = hears

pub returns-clause-gives_up : goal.returns-clause-gives_up
returns-clause-gives_up c = gives

pub returns-clause-joins : goal.returns-clause-joins
returns-clause-joins c = joins
