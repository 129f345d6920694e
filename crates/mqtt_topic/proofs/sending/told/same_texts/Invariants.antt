use Rattle.std.proofs.Common.{◌≡◌, ◌++◌, drop}
use Rattle.mqtt_topic.proofs.sending.told.same_texts.Given as goal

abbrev pub invariant-loop-topic : goal.invariant-loop-topic
invariant-loop-topic l = l.copy.items ++ drop l.topic-index l.topics ≡ l.topics
