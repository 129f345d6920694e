-- By the sessions one after another, and the groups as they are served.
use Rattle.mqtt_world_laws.proofs.routing_lemmas.Groups.{each_gets_one}
use Rattle.mqtt_world_laws.proofs.routing.laws.each_session_and_each_group_gets_one_copy.Goals as goal

pub returns : goal.returns
returns c = λ at p choices sessions r order e. each_gets_one at p choices sessions order r e
