use Rattle.mqtt_base.proofs.Escapes.{same_text, word_of}
use Rattle.mqtt_base.proofs.escaped_laws.one_word.Goals as goal

pub returns-clause-word : goal.returns-clause-word
returns-clause-word c = word_of

pub returns-clause-only : goal.returns-clause-only
returns-clause-only c = same_text
