-- Each call keeps lines so, and an opening leaves none.
use Rattle.mqtt_world_laws.proofs.delivery_lemmas.broker.Alone.{event_keeps, run_keeps}
use Rattle.mqtt_world_laws.proofs.delivery_lemmas.broker.Unused.{opening_unused, step_unused, unused_kept}
use Rattle.mqtt_world_laws.proofs.delivery.broker_laws.a_line_without_session_has_sent_nothing.Goals as goal
use Rattle.mqtt_world_laws.specs.delivery.Alone.{HaveSentNothing}

pub returns-clause-step : goal.returns-clause-step
returns-clause-step c = step_unused

pub returns-clause-opening : goal.returns-clause-opening
returns-clause-opening c = opening_unused

pub returns-clause-event : goal.returns-clause-event
returns-clause-event c = λ e set w within s good unspent h. event_keeps HaveSentNothing e set w (unused_kept set.limits) within s good unspent h

pub returns-clause-runs : goal.returns-clause-runs
returns-clause-runs c = λ limits ts w new fair h. run_keeps HaveSentNothing limits ts w (unused_kept limits) new fair h
