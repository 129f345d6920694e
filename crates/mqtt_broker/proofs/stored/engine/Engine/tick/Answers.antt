-- The step begins in an engine at rest that runs, and its end is the engine's.
use Rattle.std.proofs.Common.{◌≡◌, ◌∙◌, sym, subst, rules}
use Rattle.mqtt_rules.specs.step.State.{Broker}
use Rattle.mqtt_rules.specs.step.Step.{Tick}
use Rattle.mqtt_rules.specs.alike.Slim.{slim_broker}
use Rattle.mqtt_broker.proofs.stored_lemmas.Beginning.{begins_call, call_of_view}
use Rattle.mqtt_broker.proofs.stored_lemmas.Finished.{of_sound_ready}
use Rattle.mqtt_broker.proofs.stored_lemmas.Resting.{called_stale, called_stopped}
use Rattle.mqtt_broker.proofs.stored.engine.Engine.tick.Goals as goal

pub returns-in_err-renew : goal.returns-in_err-renew
returns-in_err-renew g c =
    called_stale g.K.Keep g.met.K.Keep.tells c.args.moment (Tick) c.renew.new.self c.renew.ensures.rest c.args.self.now _ c.in_err-renew.field-0.0 (search rules) c.in_err-renew.ensures.fault
    (c.renew.ensures.same ∙ c.self.view_is) c.in_ok-runs.ensures.ok

pub tick_once-done-requires-clause-rest : goal.tick_once-done-requires-clause-rest
tick_once-done-requires-clause-rest g c = c.renew.ensures.rest.rest

pub tick_once-done-requires-clause-ready : goal.tick_once-done-requires-clause-ready
tick_once-done-requires-clause-ready g c = of_sound_ready _ _ c.renew.ensures.rest.sound

pub tick_once-done-requires-clause-serves : goal.tick_once-done-requires-clause-serves
tick_once-done-requires-clause-serves g c = c.in_ok-renew.ensures.ok

pub tick_once-done-requires-clause-quiet : goal.tick_once-done-requires-clause-quiet
tick_once-done-requires-clause-quiet g c = c.renew.ensures.rest.goes.quiet

pub returns-in_err-runs : goal.returns-in_err-runs
returns-in_err-runs g c = called_stopped g.K.Keep c.args.moment Tick c.args.self.now _ c.in_err-runs.field-0.0 (search rules) c.in_err-runs.ensures.fault c.in_err-runs.ensures.err

pub finish-answer-requires-clause-under_way : goal.finish-answer-requires-clause-under_way
finish-answer-requires-clause-under_way g c = (
  c.args.moment,
  Tick,
  begins_call g.K.Keep c.args.moment (Tick) c.tick_once-done.new.again c.tick_once-done.result c.renew.new.self c.args.self.now (c.renew.ensures.same ∙ c.self.view_is) c.tick_once-done.new.index c.tick_once-done.new.step c.tick_once-done.ensures.start c.tick_once-done.ensures.limits
      c.renew.ensures.rest c.in_ok-runs.ensures.ok (λ never. never) tt (λ fresh. c.tick_once-done.ensures.serves) c.tick_once-done.ensures.called,
)

pub finish-answer-requires-clause-slim : goal.finish-answer-requires-clause-slim
finish-answer-requires-clause-slim g c = subst (λ (b : Broker). slim_broker b ≡ b) (sym c.tick_once-done.ensures.start) c.renew.ensures.rest.slim

pub returns : goal.returns
returns g c =
    call_of_view g.K.Keep c.args.moment (Tick) c.tick_once-done.new.again c.tick_once-done.result c.renew.new.self c.args.self.now (c.renew.ensures.same ∙ c.self.view_is) c.tick_once-done.new.index c.tick_once-done.new.step c.tick_once-done.ensures.start c.tick_once-done.ensures.limits _ _
    (c.finish-answer.ensures.called c.args.moment (Tick)
    (begins_call g.K.Keep c.args.moment (Tick) c.tick_once-done.new.again c.tick_once-done.result c.renew.new.self c.args.self.now (c.renew.ensures.same ∙ c.self.view_is) c.tick_once-done.new.index c.tick_once-done.new.step c.tick_once-done.ensures.start c.tick_once-done.ensures.limits
    c.renew.ensures.rest c.in_ok-runs.ensures.ok (λ never. never) tt (λ fresh. c.tick_once-done.ensures.serves) c.tick_once-done.ensures.called))

pub later_quiet-self-inside-requires : goal.later_quiet-self-inside-requires
later_quiet-self-inside-requires g c = c.finish-answer.ensures.rest.goes.quiet
