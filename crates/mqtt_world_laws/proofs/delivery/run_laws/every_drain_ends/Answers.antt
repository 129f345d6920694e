-- By what stands after the first round.
use Rattle.mqtt_world_laws.proofs.delivery_lemmas.whole.EveryRun.{drain_over, drain_within}
use Rattle.mqtt_world_laws.proofs.delivery.run_laws.every_drain_ends.Goals as goal

pub returns : goal.returns
returns c = record { is_within = drain_within; is_over = drain_over }
