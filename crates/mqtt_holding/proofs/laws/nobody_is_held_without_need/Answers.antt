use Rattle.mqtt_holding.proofs.Held.{held_needed}
use Rattle.mqtt_holding.proofs.laws.nobody_is_held_without_need.Goals as goal

pub returns : goal.returns
returns c = held_needed
