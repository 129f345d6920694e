use Rattle.mqtt_rules.proofs.step_lemmas.contents.SpelledContents.{copy_spelled, copy_message}
use Rattle.mqtt_rules.proofs.step.content_laws.stored_copies_have_a_spelling.Goals as goal

pub returns-clause-spelled : goal.returns-clause-spelled
returns-clause-spelled c = λ sizes copy are. copy_spelled sizes are copy

pub returns-clause-message : goal.returns-clause-message
returns-clause-message c = copy_message
