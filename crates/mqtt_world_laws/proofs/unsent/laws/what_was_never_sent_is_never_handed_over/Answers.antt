-- By the moment at which a copy is read: it was sent then, and ends no more as one that waits.
use Rattle.mqtt_world_laws.proofs.unsent_lemmas.Unsent.{all_never_handed, run_left_waiting, run_never_handed}
use Rattle.mqtt_world_laws.proofs.unsent.laws.what_was_never_sent_is_never_handed_over.Goals as goal

pub returns-clause-ends : goal.returns-clause-ends
returns-clause-ends c = run_never_handed

pub returns-clause-waiting : goal.returns-clause-waiting
returns-clause-waiting c = run_left_waiting

pub returns-clause-every : goal.returns-clause-every
returns-clause-every c = all_never_handed
