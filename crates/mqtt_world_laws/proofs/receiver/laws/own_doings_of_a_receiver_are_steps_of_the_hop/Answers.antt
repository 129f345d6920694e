-- What a receiver does and reads.
use Rattle.mqtt_world_laws.proofs.receiver_lemmas.own.Doings.{doing_asks, doing_comes, doing_gives_up, doing_reads}
use Rattle.mqtt_world_laws.proofs.receiver_lemmas.own.Joins.{doing_joins}
use Rattle.mqtt_world_laws.proofs.receiver.laws.own_doings_of_a_receiver_are_steps_of_the_hop.Goals as goal

pub returns-clause-reads : goal.returns-clause-reads
returns-clause-reads c = doing_reads

pub returns-clause-gives_up : goal.returns-clause-gives_up
returns-clause-gives_up c = doing_gives_up

pub returns-clause-asks : goal.returns-clause-asks
returns-clause-asks c = doing_asks

pub returns-clause-joins : goal.returns-clause-joins
returns-clause-joins c = doing_joins

pub returns-clause-comes : goal.returns-clause-comes
returns-clause-comes c = doing_comes
