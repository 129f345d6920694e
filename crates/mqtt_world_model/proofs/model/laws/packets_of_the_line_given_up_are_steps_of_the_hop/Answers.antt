-- What the publisher sees of packets of the line that it gave up: by the deeds of each.
use Rattle.mqtt_world_model.proofs.model_lemmas.own.EitherLine.{given_up, publish_is_hop, pubrel_is_hop, publish_1_is_hop, plain_is_hop}
use Rattle.mqtt_world_model.proofs.model_lemmas.connects.LateConnects.{late_is_hop}
use Rattle.mqtt_world_model.proofs.model.laws.packets_of_the_line_given_up_are_steps_of_the_hop.Goals as goal

pub returns-clause-publish : goal.returns-clause-publish
returns-clause-publish c = publish_is_hop given_up

pub returns-clause-release : goal.returns-clause-release
returns-clause-release c = pubrel_is_hop given_up

pub returns-clause-publish_once : goal.returns-clause-publish_once
returns-clause-publish_once c = publish_1_is_hop given_up

pub returns-clause-publish_plain : goal.returns-clause-publish_plain
returns-clause-publish_plain c = plain_is_hop given_up

pub returns-clause-connect : goal.returns-clause-connect
returns-clause-connect c = late_is_hop
