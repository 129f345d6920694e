-- Nothing goes out, and no line is closed.
use Rattle.mqtt_world.proofs.script_laws_lemmas.Comings.{line_begins}
use Rattle.mqtt_world.proofs.script_laws.turn_laws.no_end_hears_of_a_line.Goals as goal

pub returns : goal.returns
returns c = record { begins = line_begins }
