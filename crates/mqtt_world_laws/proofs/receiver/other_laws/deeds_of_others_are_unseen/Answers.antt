-- Deed by deed.
use Rattle.mqtt_world_laws.proofs.receiver_lemmas.others.Others.{others_leave, others_run, others_within}
use Rattle.mqtt_world_laws.proofs.receiver.other_laws.deeds_of_others_are_unseen.Goals as goal

pub returns-clause-runs : goal.returns-clause-runs
returns-clause-runs c = others_run

pub returns-clause-receives : goal.returns-clause-receives
returns-clause-receives c = others_leave

pub returns-clause-within : goal.returns-clause-within
returns-clause-within c = others_within
