-- Step by step.
use Rattle.mqtt_world_ends.proofs.strangers_lemmas.Steps.{good_first, good_rest, nothing_held}
use Rattle.mqtt_world_ends.proofs.strangers.laws.pieces_are_good.Goals as goal

pub returns : goal.returns
returns c = record { first = good_first; rest = good_rest; nothing = nothing_held }
