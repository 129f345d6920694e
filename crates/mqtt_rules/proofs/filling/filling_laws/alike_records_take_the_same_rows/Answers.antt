use Rattle.mqtt_rules.proofs.alike_lemmas.States.{changed_all_alike}
use Rattle.mqtt_rules.proofs.filling_lemmas.Fitting.{all_fit}
use Rattle.mqtt_rules.proofs.filling.filling_laws.alike_records_take_the_same_rows.Goals as goal

pub returns-clause-fit : goal.returns-clause-fit
returns-clause-fit c = all_fit

pub returns-clause-stay : goal.returns-clause-stay
returns-clause-stay c = changed_all_alike
