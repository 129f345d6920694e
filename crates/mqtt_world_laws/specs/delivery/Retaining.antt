-- What copies of retained messages need to be told apart (MQTT 5.0, 3.3.1.3).
use Rattle.std.specs.Prelude.{map}
use Rattle.mqtt_records.specs.declared.messages.message.RetainedMessage.{RetainedMessage}
use Rattle.mqtt_records.specs.declared.state.records.Records.{Records}
use Rattle.mqtt_records.specs.lists.Distinct.{AllDiffer}

-- no two retained messages are of one publication
abbrev pub AreRetainedOnce : Records → Type 0
AreRetainedOnce r = AllDiffer (map (λ (k : RetainedMessage). k.publication) r.retained)
