use Rattle.mqtt_broker_step.proofs.FiltersKept.{once_all, may_wish}
use Rattle.mqtt_broker_step.proofs.subscribing.filters_stay_apart.Goals as goal

pub returns-clause-changed : goal.returns-clause-changed
returns-clause-changed c = once_all

pub returns-clause-nothing : goal.returns-clause-nothing
returns-clause-nothing c = tt

pub returns-clause-wish : goal.returns-clause-wish
returns-clause-wish c = may_wish
