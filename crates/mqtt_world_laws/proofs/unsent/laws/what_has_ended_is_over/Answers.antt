-- By the moment at which a copy is read: it stands then, so it has had no end.
use Rattle.mqtt_world_laws.proofs.unsent_lemmas.Unsent.{run_over}
use Rattle.mqtt_world_laws.proofs.unsent.laws.what_has_ended_is_over.Goals as goal

pub returns : goal.returns
returns c = record { over = run_over }
