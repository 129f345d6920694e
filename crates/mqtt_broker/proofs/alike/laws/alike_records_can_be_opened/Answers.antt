use Rattle.mqtt_broker.proofs.alike_lemmas.Ready.{records_coherent, records_sourced}
use Rattle.mqtt_broker.proofs.alike.laws.alike_records_can_be_opened.Goals as goal

pub returns-clause-coherent : goal.returns-clause-coherent
returns-clause-coherent c = records_coherent

pub returns-clause-sources : goal.returns-clause-sources
returns-clause-sources c = records_sourced
