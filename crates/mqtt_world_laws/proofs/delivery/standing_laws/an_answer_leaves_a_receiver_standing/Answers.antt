-- By what an answer makes of the session and of the line that it comes on.
use Rattle.mqtt_world_laws.proofs.delivery_lemmas.own.OldReplies.{old_answered_stands}
use Rattle.mqtt_world_laws.proofs.delivery_lemmas.own.Replies.{answered_stands}
use Rattle.mqtt_world_laws.proofs.delivery.standing_laws.an_answer_leaves_a_receiver_standing.Goals as goal

pub returns : goal.returns
returns c = record { reads = answered_stands; reads_old = old_answered_stands }
