use Rattle.mqtt_packet.proofs.stream_lemmas.Wholes.{first_whole, first_spells, fault_final}
use Rattle.mqtt_packet.proofs.stream.laws.first_spelled.Goals as goal

pub returns-clause-whole : goal.returns-clause-whole
returns-clause-whole c = first_whole

pub returns-clause-found : goal.returns-clause-found
returns-clause-found c = first_spells

pub returns-clause-fault : goal.returns-clause-fault
returns-clause-fault c = fault_final
