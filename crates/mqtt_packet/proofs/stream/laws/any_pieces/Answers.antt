use Rattle.mqtt_packet.proofs.stream_lemmas.Runs.{run_cut, run_waits, run_fault}
use Rattle.mqtt_packet.proofs.stream.laws.any_pieces.Goals as goal

pub returns-clause-cut : goal.returns-clause-cut
returns-clause-cut c = run_cut

pub returns-clause-waits : goal.returns-clause-waits
returns-clause-waits c = run_waits

pub returns-clause-fault : goal.returns-clause-fault
returns-clause-fault c = run_fault
