-- By the law of the hop.
use Rattle.mqtt_world_laws.proofs.receiver_lemmas.queue.Handed.{at_most_once, all_tagged, in_order, released_once, taken_is, read_is, expired_is, dropped_is, carried_all}
use Rattle.mqtt_world_laws.proofs.receiver.laws.a_run_of_the_hop_hands_over_once.Goals as goal

pub returns-clause-once : goal.returns-clause-once
returns-clause-once c = at_most_once

pub returns-clause-tagged : goal.returns-clause-tagged
returns-clause-tagged c = all_tagged

pub returns-clause-in_order : goal.returns-clause-in_order
returns-clause-in_order c = in_order

pub returns-clause-released : goal.returns-clause-released
returns-clause-released c = released_once

pub returns-clause-taken : goal.returns-clause-taken
returns-clause-taken c = taken_is

pub returns-clause-read : goal.returns-clause-read
returns-clause-read c = read_is

pub returns-clause-expired : goal.returns-clause-expired
returns-clause-expired c = expired_is

pub returns-clause-dropped : goal.returns-clause-dropped
returns-clause-dropped c = dropped_is

pub returns-clause-carried : goal.returns-clause-carried
returns-clause-carried c = carried_all
