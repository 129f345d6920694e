use Rattle.mqtt_rules.proofs.step_lemmas.contents.ContentLaw.{step_contents, opening_contents}
use Rattle.mqtt_rules.proofs.step_lemmas.contents.SpelledContents.{packets_are, rows_are, retained_message, will_message}
use Rattle.mqtt_rules.proofs.step.content_laws.contents_are_lawful.Goals as goal

pub returns-clause-step : goal.returns-clause-step
returns-clause-step c = λ sizes limits choice now call b are. step_contents sizes are limits choice now call b

pub returns-clause-opening : goal.returns-clause-opening
returns-clause-opening c = λ sizes limits choice now r are. opening_contents sizes are limits choice now r

pub returns-clause-nothing : goal.returns-clause-nothing
returns-clause-nothing c = λ sizes. record { sessions = tt; retained = tt }

pub returns-clause-sizes : goal.returns-clause-sizes
returns-clause-sizes c = (packets_are, rows_are)

pub returns-clause-retained : goal.returns-clause-retained
returns-clause-retained c = retained_message

pub returns-clause-will : goal.returns-clause-will
returns-clause-will c = will_message
