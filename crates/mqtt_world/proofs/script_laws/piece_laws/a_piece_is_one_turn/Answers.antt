-- By what its bytes ask for.
use Rattle.mqtt_world.proofs.script_laws_lemmas.Comings.{piece_first, piece_there}
use Rattle.mqtt_world.proofs.script_laws.piece_laws.a_piece_is_one_turn.Goals as goal

pub returns-clause-there : goal.returns-clause-there
returns-clause-there c = piece_there

pub returns-clause-first : goal.returns-clause-first
returns-clause-first c = piece_first
