use Rattle.std.proofs.Common.{refl, rules}
use Rattle.mqtt_rules.specs.step.Step.{Lost}
use Rattle.mqtt_broker.proofs.stored_lemmas.Resting.{called_stopped}
use Rattle.mqtt_broker.proofs.stored.engine.Engine.lost.Goals as goal

pub returns-in_err-session_on : goal.returns-in_err-session_on
returns-in_err-session_on g c = called_stopped g.K.Keep c.args.moment (Lost c.args.line) c.args.self.now _ c.in_err-session_on.field-0.0 (search rules) c.in_err-session_on.ensures.fault c.in_err-session_on.ensures.err

pub returns-in-None : goal.returns-in-None
returns-in-None g c = c.skip.ensures.called (Lost c.args.line) refl
