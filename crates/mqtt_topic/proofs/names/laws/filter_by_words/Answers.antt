use Rattle.std.proofs.Common.{length, arith}
use Rattle.mqtt_topic.proofs.names_lemmas.FilterWords.{IsFilter-from_test, is_filter-from}
use Rattle.mqtt_topic.proofs.names.laws.filter_by_words.Goals as goal

pub returns : goal.returns
returns c = λ text. (IsFilter-from_test (length text) text (omega arith), is_filter-from text)
