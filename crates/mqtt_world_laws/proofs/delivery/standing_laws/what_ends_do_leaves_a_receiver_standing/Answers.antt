-- By the doings of each end, the receiver's own and those of others.
use Rattle.mqtt_world_laws.proofs.delivery_lemmas.others.Comings.{clock_stands, given_up_stands, published_stands, publisher_comes, read_stands, receiver_comes, subscribed_stands}
use Rattle.mqtt_world_laws.proofs.delivery.standing_laws.what_ends_do_leaves_a_receiver_standing.Goals as goal

pub returns-clause-comes : goal.returns-clause-comes
returns-clause-comes c = publisher_comes

pub returns-clause-receives : goal.returns-clause-receives
returns-clause-receives c = receiver_comes

pub returns-clause-gives_up : goal.returns-clause-gives_up
returns-clause-gives_up c = given_up_stands

pub returns-clause-publishes : goal.returns-clause-publishes
returns-clause-publishes c = published_stands

pub returns-clause-asks : goal.returns-clause-asks
returns-clause-asks c = subscribed_stands

pub returns-clause-reads : goal.returns-clause-reads
returns-clause-reads c = read_stands

pub returns-clause-waits : goal.returns-clause-waits
returns-clause-waits c = clock_stands
