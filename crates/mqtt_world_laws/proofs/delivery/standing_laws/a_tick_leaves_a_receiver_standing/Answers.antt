-- By what a tick does first.
use Rattle.mqtt_world_laws.proofs.delivery_lemmas.others.Ticks.{ticked_stands}
use Rattle.mqtt_world_laws.proofs.delivery.standing_laws.a_tick_leaves_a_receiver_standing.Goals as goal

pub returns : goal.returns
returns c = record { ticks = ticked_stands }
