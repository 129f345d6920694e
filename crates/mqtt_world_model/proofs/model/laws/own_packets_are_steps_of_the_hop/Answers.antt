-- What the publisher sees of its own packets: by the deeds of each.
use Rattle.mqtt_world_model.proofs.model_lemmas.own.EitherLine.{its_own, publish_is_hop, pubrel_is_hop, publish_1_is_hop, plain_is_hop}
use Rattle.mqtt_world_model.proofs.model_lemmas.seats.Mine.{sent_stays}
use Rattle.mqtt_world_model.proofs.model_lemmas.seats.Breaks.{break_is_hop}
use Rattle.mqtt_world_model.proofs.model_lemmas.connects.Connects.{connect_is_hop}
use Rattle.mqtt_world_model.proofs.model_lemmas.connects.CleanConnects.{clean_is_hop}
use Rattle.mqtt_world_model.proofs.model_lemmas.connects.FirstConnects.{first_is_hop}
use Rattle.mqtt_world_model.proofs.model.laws.own_packets_are_steps_of_the_hop.Goals as goal

pub returns-clause-publish : goal.returns-clause-publish
returns-clause-publish c = publish_is_hop its_own

pub returns-clause-release : goal.returns-clause-release
returns-clause-release c = pubrel_is_hop its_own

pub returns-clause-connect : goal.returns-clause-connect
returns-clause-connect c = connect_is_hop

pub returns-clause-anew : goal.returns-clause-anew
returns-clause-anew c = clean_is_hop

pub returns-clause-publish_once : goal.returns-clause-publish_once
returns-clause-publish_once c = publish_1_is_hop its_own

pub returns-clause-publish_plain : goal.returns-clause-publish_plain
returns-clause-publish_plain c = plain_is_hop its_own

pub returns-clause-stays : goal.returns-clause-stays
returns-clause-stays c = sent_stays

pub returns-clause-first : goal.returns-clause-first
returns-clause-first c = first_is_hop

pub returns-clause-lost : goal.returns-clause-lost
returns-clause-lost c = break_is_hop
