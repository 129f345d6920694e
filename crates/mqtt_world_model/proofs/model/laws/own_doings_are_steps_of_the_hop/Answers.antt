-- What the publisher sees of its own doings.
use Rattle.std.proofs.Common.{true}
use Rattle.mqtt_world_model.proofs.model_lemmas.seats.Sends.{publish_seen, give_up_seen, to_end_seen}
use Rattle.mqtt_world_model.proofs.model_lemmas.seats.Joins.{join_is_hop}
use Rattle.mqtt_world_model.proofs.model.laws.own_doings_are_steps_of_the_hop.Goals as goal

pub returns-clause-publish : goal.returns-clause-publish
returns-clause-publish c = publish_seen

pub returns-clause-gives_up : goal.returns-clause-gives_up
returns-clause-gives_up c = λ accepted b p. give_up_seen accepted b true p

pub returns-clause-reads : goal.returns-clause-reads
returns-clause-reads c = to_end_seen

pub returns-clause-joins : goal.returns-clause-joins
returns-clause-joins c = join_is_hop
