use Rattle.mqtt_rules.proofs.step_lemmas.contents.CopySizes.{sent_size, first_size}
use Rattle.mqtt_rules.proofs.step.copy_laws.copies_keep_their_size.Goals as goal

pub returns-clause-size : goal.returns-clause-size
returns-clause-size c = λ copy now id dup. sent_size now dup id copy

pub returns-clause-first : goal.returns-clause-first
returns-clause-first c = first_size
