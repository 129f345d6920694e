use Rattle.mqtt_rules.proofs.step_lemmas.lines.LineSteps.{step_unique, opening_unique, blank_unique}
use Rattle.mqtt_rules.proofs.step_lemmas.lines.LineLaw.{line_found, line_none}
use Rattle.mqtt_rules.proofs.step.line_laws.lines_are_unique.Goals as goal

pub returns-clause-nothing : goal.returns-clause-nothing
returns-clause-nothing c = blank_unique

pub returns-clause-step : goal.returns-clause-step
returns-clause-step c = step_unique

pub returns-clause-opening : goal.returns-clause-opening
returns-clause-opening c = opening_unique

pub returns-clause-found : goal.returns-clause-found
returns-clause-found c = line_found

pub returns-clause-closed : goal.returns-clause-closed
returns-clause-closed c = line_none
