-- By what each event leaves under way.
use Rattle.mqtt_world_laws.proofs.reading_lemmas.Runs.{reads_lawful, sends_on, start_reads}
use Rattle.mqtt_world_laws.proofs.reading.laws.each_packet_that_is_read_is_lawful.Goals as goal

pub returns-clause-reads : goal.returns-clause-reads
returns-clause-reads c = reads_lawful

pub returns-clause-sends : goal.returns-clause-sends
returns-clause-sends c = sends_on

pub returns-clause-from_nothing : goal.returns-clause-from_nothing
returns-clause-from_nothing c = start_reads
