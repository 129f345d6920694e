-- A turn, and those that come behind it.
use Rattle.mqtt_world.proofs.script_laws_lemmas.Pieces.{last_piece, piece_and_more, stops_after_piece}
use Rattle.mqtt_world.proofs.script_laws.piece_laws.bytes_happen_piece_by_piece.Goals as goal

pub returns-clause-last : goal.returns-clause-last
returns-clause-last c = last_piece

pub returns-clause-more : goal.returns-clause-more
returns-clause-more c = piece_and_more

pub returns-clause-stops : goal.returns-clause-stops
returns-clause-stops c = stops_after_piece
