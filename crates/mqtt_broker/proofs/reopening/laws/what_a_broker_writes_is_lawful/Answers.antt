use Rattle.mqtt_broker.proofs.reopening_lemmas.Facts.{facts_of}
use Rattle.mqtt_broker.proofs.reopening_lemmas.ToldApart.{tells_apart}
use Rattle.mqtt_broker.proofs.reopening_lemmas.WrittenKept.{nothing_written, step_written, opening_written}
use Rattle.mqtt_broker.proofs.reopening.laws.what_a_broker_writes_is_lawful.Goals as goal

pub returns-clause-lawful : goal.returns-clause-lawful
returns-clause-lawful c = λ r w. w.lawful

pub returns-clause-apart : goal.returns-clause-apart
returns-clause-apart c = λ r w. let f = facts_of r w in tells_apart r f.identities f.bounds

pub returns-clause-nothing : goal.returns-clause-nothing
returns-clause-nothing c = nothing_written

pub returns-clause-step : goal.returns-clause-step
returns-clause-step c = step_written

pub returns-clause-opening : goal.returns-clause-opening
returns-clause-opening c = opening_written
