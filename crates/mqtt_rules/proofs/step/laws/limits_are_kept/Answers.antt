use Rattle.mqtt_rules.proofs.step_lemmas.order.OrderedLimits.{step_sessions, opening_sessions, step_retained, opening_retained}
use Rattle.mqtt_rules.proofs.step_lemmas.order.OrderedFull.{step_queues, opening_queues}
use Rattle.mqtt_rules.proofs.step.laws.limits_are_kept.Goals as goal

pub returns-clause-sessions : goal.returns-clause-sessions
returns-clause-sessions c = step_sessions

pub returns-clause-sessions_opened : goal.returns-clause-sessions_opened
returns-clause-sessions_opened c = opening_sessions

pub returns-clause-retained : goal.returns-clause-retained
returns-clause-retained c = step_retained

pub returns-clause-retained_opened : goal.returns-clause-retained_opened
returns-clause-retained_opened c = opening_retained

pub returns-clause-queues : goal.returns-clause-queues
returns-clause-queues c = step_queues

pub returns-clause-queues_opened : goal.returns-clause-queues_opened
returns-clause-queues_opened c = opening_queues
