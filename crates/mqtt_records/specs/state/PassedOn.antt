-- What is stored has properties as publications pass them on (MQTT 5.0, 3.3.2.3).
use Rattle.std.specs.List.{AllByRecursion}
use Rattle.mqtt_records.specs.declared.state.records.Records.{Records}
use Rattle.mqtt_records.specs.declared.state.session.Session.{Session}
use Rattle.mqtt_records.specs.messages.PassedOn.{IsPassedOn}
use Rattle.mqtt_records.specs.messages.Queue.{CopyRow}
use Rattle.mqtt_records.specs.declared.messages.message.RetainedMessage.{RetainedMessage}

-- all properties that are stored are such as publications pass on, as their type in code has it
pub record StoresPassedOn (r : Records) : Type 0 where
  pub sessions : AllByRecursion (λ (s : Session). AllByRecursion (λ (e : CopyRow). IsPassedOn e.copy.content.properties) s.queue) r.sessions
  pub retained : AllByRecursion (λ (k : RetainedMessage). IsPassedOn k.content.properties) r.retained
