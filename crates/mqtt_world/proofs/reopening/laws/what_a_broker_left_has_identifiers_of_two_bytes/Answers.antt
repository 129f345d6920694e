-- By what each opening and each call keeps.
use Rattle.mqtt_world.proofs.reopening_lemmas.Sending.{left_phases, left_written}
use Rattle.mqtt_world.proofs.reopening.laws.what_a_broker_left_has_identifiers_of_two_bytes.Goals as goal

pub returns-clause-written : goal.returns-clause-written
returns-clause-written c = left_written

pub returns-clause-identifiers : goal.returns-clause-identifiers
returns-clause-identifiers c = left_phases
