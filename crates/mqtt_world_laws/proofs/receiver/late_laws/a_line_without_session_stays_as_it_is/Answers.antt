-- By the deeds on other lines.
use Rattle.mqtt_world_laws.proofs.receiver_lemmas.others.FreshLines.{idle_line_stays}
use Rattle.mqtt_world_laws.proofs.receiver.late_laws.a_line_without_session_stays_as_it_is.Goals as goal

pub returns : goal.returns
returns c = record { stays = idle_line_stays }
