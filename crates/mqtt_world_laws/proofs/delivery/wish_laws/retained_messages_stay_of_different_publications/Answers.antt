-- By the deeds of each call and opening.
use Rattle.mqtt_world_laws.proofs.delivery_lemmas.broker.Retained.{turn_retains}
use Rattle.mqtt_world_laws.proofs.delivery.wish_laws.retained_messages_stay_of_different_publications.Goals as goal

pub returns : goal.returns
returns c = record { turns = turn_retains }
