use Rattle.mqtt_records.proofs.state_lemmas.Numbers.{counter_of-changed_all}
use Rattle.mqtt_records.proofs.state.laws.numbers_never_fall.Goals as goal

pub returns-clause-some : goal.returns-clause-some
returns-clause-some c = counter_of-changed_all
