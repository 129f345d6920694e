use Rattle.mqtt_broker.proofs.reopening_lemmas.WrittenKept.{opened_written, run_written}
use Rattle.mqtt_broker.proofs.reopening.laws.a_store_may_be_opened_again.Goals as goal

pub returns-clause-run : goal.returns-clause-run
returns-clause-run c = λ events fair. (run_written events fair).lawful

pub returns-clause-opened : goal.returns-clause-opened
returns-clause-opened c = λ limits choice now r events within unspent w fair. (opened_written limits choice now r events within unspent w fair).lawful
