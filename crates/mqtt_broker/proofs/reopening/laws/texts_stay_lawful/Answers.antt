use Rattle.mqtt_broker.proofs.reopening_lemmas.TextsKept.{step_texts, opening_texts}
use Rattle.mqtt_broker.proofs.reopening.laws.texts_stay_lawful.Goals as goal

pub returns-clause-nothing : goal.returns-clause-nothing
returns-clause-nothing c = tt

pub returns-clause-step : goal.returns-clause-step
returns-clause-step c = step_texts

pub returns-clause-opening : goal.returns-clause-opening
returns-clause-opening c = opening_texts
