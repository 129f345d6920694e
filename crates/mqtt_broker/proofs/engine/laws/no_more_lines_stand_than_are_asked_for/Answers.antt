use Rattle.mqtt_broker.proofs.engine_lemmas.Room.{opened_none, step_few}
use Rattle.mqtt_broker.proofs.engine.laws.no_more_lines_stand_than_are_asked_for.Goals as goal

pub returns-clause-step : goal.returns-clause-step
returns-clause-step c = step_few

pub returns-clause-opened : goal.returns-clause-opened
returns-clause-opened c = opened_none
