-- The retained messages that a filter brings, and the copies of them that go out after the SUBACK (MQTT 5.0, 3.3.1.3, 3.8.3.1).
use Rattle.std.specs.Prelude.{ℕ, Bool, ◌&&◌, List, map}
use Rattle.mqtt_topic.specs.names.Matching.{is_match}
use Rattle.mqtt_records.specs.declared.messages.message.MessageCopy.{MessageCopy}
use Rattle.mqtt_records.specs.declared.messages.message.RetainedMessage.{RetainedMessage}
use Rattle.mqtt_records.specs.declared.state.session.Session.{Session}
use Rattle.mqtt_rules.specs.step.Deeds.{Act, series}
use Rattle.mqtt_rules.specs.step.Subscribe.{Wish, is_brought, late_send}
use Rattle.mqtt_broker_queue.specs.publications.Delivering.{addressed_all}

-- the filter matches the message's topic, and the message is sent to the session
abbrev pub brings : ℕ → Session → Wish → RetainedMessage → Bool
brings now s w k = is_match w.filter k.content.topic && is_brought now s w k

-- copies of QoS 0 go out on a line, each on what the ones before it left
abbrev pub late_sends : ℕ → List MessageCopy → Act
late_sends line copies = series (map (late_send line) (addressed_all copies))
