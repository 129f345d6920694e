use Rattle.mqtt_store_database.proofs.item_laws_lemmas.records.Queues.{ended_new, ended_old}
use Rattle.mqtt_store_database.proofs.item_laws.member_laws.session_is_removed.Goals as goal

pub returns-clause-new : goal.returns-clause-new
returns-clause-new c birth r b x it = ended_new birth r b x it

pub returns-clause-old : goal.returns-clause-old
returns-clause-old c birth r b x it = ended_old birth r b x it
