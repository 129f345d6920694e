use Rattle.std.specs.Prelude.{suc}
use Rattle.mqtt_records.specs.state.Session.{birth_of}
use Rattle.mqtt_rules.proofs.step_lemmas.numbers.NumberBirths.{below_none}
use Rattle.mqtt_rules.proofs.step_lemmas.numbers.NumberSteps.{step_given, opening_given}
use Rattle.mqtt_rules.proofs.step.number_laws.births_are_new.Goals as goal

pub returns-clause-step : goal.returns-clause-step
returns-clause-step c = step_given

pub returns-clause-opening : goal.returns-clause-opening
returns-clause-opening c = opening_given

pub returns-clause-next : goal.returns-clause-next
returns-clause-next c r low = below_none birth_of (suc r.births) r.sessions low

pub returns-clause-nothing : goal.returns-clause-nothing
returns-clause-nothing c = tt
