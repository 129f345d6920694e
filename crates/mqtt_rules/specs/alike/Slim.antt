-- Sessions and brokers of rows that say nothing but their topics (MQTT 5.0, 3.3).
use Rattle.std.specs.Prelude.{map}
use Rattle.mqtt_records.specs.messages.Slim.{slim}
use Rattle.mqtt_records.specs.declared.state.session.Session.{Session}
use Rattle.mqtt_rules.specs.step.State.{Broker}
use Rattle.mqtt_rules.specs.alike.Alike.{with_queue, with_sessions, with_records}

abbrev pub slim_session : Session → Session
slim_session s = with_queue (map slim s.queue) s

-- no row says anything but its topic
abbrev pub slim_broker : Broker → Broker
slim_broker b = with_records (with_sessions (map slim_session b.records.sessions) b.records) b
