use Rattle.std.proofs.Common.{refl, rules}
use Rattle.mqtt_rules.specs.step.Step.{BadInput}
use Rattle.mqtt_broker.proofs.stored_lemmas.Resting.{called_stopped}
use Rattle.mqtt_broker.proofs.stored.engine.Engine.bad_input.Goals as goal

pub returns-in_err-session : goal.returns-in_err-session
returns-in_err-session g c = called_stopped g.K.Keep c.args.moment (BadInput c.args.line c.args.is_connect c.args.code.0) c.args.self.now _ c.in_err-session.field-0.0 (search rules) c.in_err-session.ensures.fault c.in_err-session.ensures.err

pub returns-in-None : goal.returns-in-None
returns-in-None g c = c.skip.ensures.called (BadInput c.args.line c.args.is_connect c.args.code.0) refl
