-- Over every event of the copies' world.
use Rattle.mqtt_world_laws.proofs.receiver_lemmas.drains.HopRounds.{all_under_way}
use Rattle.mqtt_world_laws.proofs.receiver.round_laws.what_is_due_is_under_way.Goals as goal

pub returns : goal.returns
returns c = record { is_under_way = all_under_way }
