-- Step by step.
use Rattle.mqtt_world_ends.proofs.strangers_lemmas.Steps.{first_deeds, first_does, first_found, first_good}
use Rattle.mqtt_world_ends.proofs.strangers.laws.a_stranger_is_welcomed_first.Goals as goal

pub returns : goal.returns
returns c = record { found = first_found; good = first_good; does = first_does; deeds = first_deeds }
