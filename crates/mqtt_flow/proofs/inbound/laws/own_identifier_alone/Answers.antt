use Rattle.std.proofs.Common.{refl}
use Rattle.mqtt_flow.proofs.inbound_lemmas.Identifiers.{is_among-open_after_same, is_among-open_after_other, is_among-ids_without_same, is_among-ids_without_other, not_same}
use Rattle.mqtt_flow.proofs.inbound_lemmas.inbound.OpenLists.{lawful-open_after, lawful-ids_without}
use Rattle.mqtt_flow.proofs.inbound.laws.own_identifier_alone.Goals as goal

pub returns-clause-opens : goal.returns-clause-opens
returns-clause-opens c = λ id ids new. is_among-open_after_same id ids (rw new refl)

pub returns-clause-closes : goal.returns-clause-closes
returns-clause-closes c = is_among-ids_without_same

pub returns-clause-publish_alone : goal.returns-clause-publish_alone
returns-clause-publish_alone c = λ id other ids differs. is_among-open_after_other other id ids (not_same other id differs)

pub returns-clause-release_alone : goal.returns-clause-release_alone
returns-clause-release_alone c = λ id other ids differs. is_among-ids_without_other other id ids (not_same other id differs)

pub returns-clause-publish_lawful : goal.returns-clause-publish_lawful
returns-clause-publish_lawful c = lawful-open_after

pub returns-clause-release_lawful : goal.returns-clause-release_lawful
returns-clause-release_lawful c = lawful-ids_without
