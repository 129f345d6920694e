-- Step by step.
use Rattle.mqtt_world_ends.proofs.strangers_lemmas.Steps.{piece_deeds, piece_does}
use Rattle.mqtt_world_ends.proofs.strangers.laws.a_piece_is_a_step.Goals as goal

pub returns : goal.returns
returns c = record { does = piece_does; deeds = piece_deeds }
