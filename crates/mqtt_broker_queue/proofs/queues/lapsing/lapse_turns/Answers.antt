use Rattle.std.proofs.Common.{[], map, ap, sym, subst, ◌∙◌}
use Rattle.mqtt_flow.specs.outbound.Outbound.{expired}
use Rattle.mqtt_rules.specs.step.State.{entry_on}
use Rattle.mqtt_rules.proofs.step_lemmas.fit.Turns.{Rises}
use Rattle.mqtt_rules.proofs.step_lemmas.fit.TurnLists.{lapses_rise}
use Rattle.mqtt_broker_queue.specs.queues.Queues.{whole_view}
use Rattle.mqtt_broker_queue.proofs.queues.lapsing.lapse_turns.Goals as goal

abbrev looked-up : goal.returns-in-Ok-clause-turns
looked-up c = c.in-Ok.ensures.turns (whole_view []) ∙ ap (λ rows. expired c.args.now (map (entry_on []) rows)) c.as_slice.ensures.rows

pub returns-in-Ok-clause-turns : goal.returns-in-Ok-clause-turns
returns-in-Ok-clause-turns c = looked-up c

pub returns-in-Ok-clause-rise : goal.returns-in-Ok-clause-rise
returns-in-Ok-clause-rise c = subst (λ ts. Rises c.args.session.now.queue 0 ts) (sym (looked-up c)) (lapses_rise c.args.now c.args.session.now c.as_slice.ensures.order)
