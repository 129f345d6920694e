-- Event by event.
use Rattle.mqtt_world_laws.proofs.reading_lemmas.Goings.{nobody_well, turn_reads, turn_well, well_taken}
use Rattle.mqtt_world_laws.proofs.reading.laws.every_event_goes_well.Goals as goal

pub returns-clause-begins : goal.returns-clause-begins
returns-clause-begins c = nobody_well

pub returns-clause-reads : goal.returns-clause-reads
returns-clause-reads c = turn_reads

pub returns-clause-stays : goal.returns-clause-stays
returns-clause-stays c = turn_well

pub returns-clause-sends : goal.returns-clause-sends
returns-clause-sends c = λ w h. h.sends

pub returns-clause-takes : goal.returns-clause-takes
returns-clause-takes c = well_taken
