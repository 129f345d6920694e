use Rattle.mqtt_keep.proofs.payloads_lemmas.Others.{lawful_same, slim_same}
use Rattle.mqtt_keep.proofs.payloads.laws.payloads_may_be_others.Goals as goal

pub returns-clause-slim : goal.returns-clause-slim
returns-clause-slim c = slim_same

pub returns-clause-lawful : goal.returns-clause-lawful
returns-clause-lawful c = lawful_same
