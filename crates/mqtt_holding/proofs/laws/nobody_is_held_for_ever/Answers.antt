use Rattle.mqtt_holding.proofs.Held.{held_for_a_while}
use Rattle.mqtt_holding.proofs.laws.nobody_is_held_for_ever.Goals as goal

pub returns : goal.returns
returns c = held_for_a_while
