-- The step begins in an engine at rest that runs, and its end is the engine's.
use Rattle.std.proofs.Common.{◌≡◌, ◌∙◌, false, sym, subst, rules}
use Rattle.std.specs.Prelude.{Some}
use Rattle.mqtt_rules.specs.step.Lines.{session_on}
use Rattle.mqtt_rules.specs.step.State.{Broker}
use Rattle.mqtt_rules.specs.step.Step.{BadInput}
use Rattle.mqtt_rules.specs.alike.Slim.{slim_broker}
use Rattle.mqtt_broker.specs.stored.Running.{Running}
use Rattle.mqtt_broker.proofs.stored_lemmas.Beginning.{begins_call, call_of_view}
use Rattle.mqtt_broker.proofs.stored_lemmas.Finished.{of_sound_ready}
use Rattle.mqtt_broker.proofs.stored_lemmas.Resting.{called_stale}
use Rattle.mqtt_broker.proofs.stored.engine.Engine.bad_input_on.Goals as goal

pub returns-in_err-renew : goal.returns-in_err-renew
returns-in_err-renew g c =
    called_stale g.K.Keep g.met.K.Keep.tells c.args.moment (BadInput c.args.line c.args.is_connect c.args.code.0) c.renew.new.self c.renew.ensures.rest c.args.self.now _ c.in_err-renew.field-0.0 (search rules) c.in_err-renew.ensures.fault
    (c.renew.ensures.same ∙ c.self.view_is) c.requires.running

pub fault_at-done-requires-clause-rest : goal.fault_at-done-requires-clause-rest
fault_at-done-requires-clause-rest g c = c.renew.ensures.rest.rest

pub fault_at-done-requires-clause-ready : goal.fault_at-done-requires-clause-ready
fault_at-done-requires-clause-ready g c = of_sound_ready _ _ c.renew.ensures.rest.sound

pub fault_at-done-requires-clause-on : goal.fault_at-done-requires-clause-on
fault_at-done-requires-clause-on g c = subst (λ (r : Running _). session_on c.args.line r.broker ≡ Some c.args.session) (sym (c.renew.ensures.same ∙ c.self.view_is)) c.requires.linked

pub fault_at-done-requires-clause-serves : goal.fault_at-done-requires-clause-serves
fault_at-done-requires-clause-serves g c = c.in_ok-renew.ensures.ok

pub finish-requires-clause-under_way : goal.finish-requires-clause-under_way
finish-requires-clause-under_way g c = (
  c.args.moment,
  BadInput c.args.line c.args.is_connect c.args.code.0,
  begins_call g.K.Keep c.args.moment (BadInput c.args.line c.args.is_connect c.args.code.0) false c.fault_at-done.result c.renew.new.self c.args.self.now (c.renew.ensures.same ∙ c.self.view_is) c.fault_at-done.new.router c.fault_at-done.new.step c.fault_at-done.ensures.start c.fault_at-done.ensures.limits
      c.renew.ensures.rest c.requires.running (λ never. never) tt (λ fresh. c.fault_at-done.ensures.serves _ c.in_ok-renew.ensures.ok) c.fault_at-done.ensures.called,
)

pub finish-requires-clause-slim : goal.finish-requires-clause-slim
finish-requires-clause-slim g c = subst (λ (b : Broker). slim_broker b ≡ b) (sym c.fault_at-done.ensures.start) c.renew.ensures.rest.slim

pub returns : goal.returns
returns g c =
    call_of_view g.K.Keep c.args.moment (BadInput c.args.line c.args.is_connect c.args.code.0) false c.fault_at-done.result c.renew.new.self c.args.self.now (c.renew.ensures.same ∙ c.self.view_is) c.fault_at-done.new.router c.fault_at-done.new.step c.fault_at-done.ensures.start c.fault_at-done.ensures.limits _ _
    (c.finish.ensures.called c.args.moment (BadInput c.args.line c.args.is_connect c.args.code.0)
    (begins_call g.K.Keep c.args.moment (BadInput c.args.line c.args.is_connect c.args.code.0) false c.fault_at-done.result c.renew.new.self c.args.self.now (c.renew.ensures.same ∙ c.self.view_is) c.fault_at-done.new.router c.fault_at-done.new.step c.fault_at-done.ensures.start c.fault_at-done.ensures.limits
    c.renew.ensures.rest c.requires.running (λ never. never) tt (λ fresh. c.fault_at-done.ensures.serves _ c.in_ok-renew.ensures.ok) c.fault_at-done.ensures.called))

pub invariant_of-self : goal.invariant_of-self
invariant_of-self g c = c.renew.ensures.rest

pub invariant_of-self-2 : goal.invariant_of-self-2
invariant_of-self-2 g c = c.finish.ensures.rest
