use Rattle.std.proofs.Common.{refl, rules}
use Rattle.mqtt_rules.specs.step.Step.{Pump}
use Rattle.mqtt_broker.proofs.stored_lemmas.Reading.{not_asked}
use Rattle.mqtt_broker.proofs.stored_lemmas.Resting.{called_stopped}
use Rattle.mqtt_broker.proofs.stored.engine.Engine.send_waiting.Goals as goal

pub returns-in_err-birth-clause-called : goal.returns-in_err-birth-clause-called
returns-in_err-birth-clause-called g c = called_stopped g.K.Keep c.args.moment (Pump c.args.line) c.args.self.now _ c.in_err-birth.field-0.0 (search rules) c.in_err-birth.ensures.fault c.in_err-birth.ensures.err

pub returns-in_err-birth-clause-reads : goal.returns-in_err-birth-clause-reads
returns-in_err-birth-clause-reads g c = not_asked _ _ refl
