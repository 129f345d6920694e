-- What one publisher and its session see of the world: an inbound hop, as `mqtt_flow` has it (MQTT 5.0, 4.3, 4.4).
use Rattle.std.specs.Prelude.{ℕ, Bool, false, List, [], filter_map, Option, Some, None, is_some}
use Rattle.mqtt_base.specs.declared.session.Qos.{Qos as Quality}
use Rattle.mqtt_base.specs.declared.session.Qos.TheVariants.{AtMostOnce, AtLeastOnce, ExactlyOnce}
use Rattle.mqtt_flow.specs.inbound.Publisher.{Qos, qos_1, qos_2, FromPublisher, ToPublisher}
use Rattle.mqtt_flow.specs.inbound.InboundWorld.{World as Hop}
use Rattle.mqtt_records.specs.declared.state.session.Session.{Session}
use Rattle.mqtt_rules.specs.step.State.{Line as BrokerLine, Broker, line_at, session_named}
use Rattle.mqtt_world_model.specs.model.Lines.{Down}
use Rattle.mqtt_world_model.specs.model.Ends.{Draft, Sent, shake, plain, Publisher, heard}

-- what has a handshake: messages of QoS 1 and 2, and the packets about them
abbrev pub qos_by : Quality → Option Qos
qos_by AtMostOnce = None
qos_by AtLeastOnce = Some qos_1
qos_by ExactlyOnce = Some qos_2

abbrev pub qos_of_draft : Draft → Option Qos
qos_of_draft d = qos_by d.qos

abbrev pub shaken : Sent → Option FromPublisher
shaken (shake packet) = Some packet
shaken (plain content) = None

abbrev pub heard_in : Down → Option ToPublisher
heard_in d = heard d.packet

-- a session is connected on the line with that number
abbrev pub has_session : Option BrokerLine → Bool
has_session None = false
has_session (Some l) = is_some l.session

abbrev pub is_linked : Option ℕ → Broker → Bool
is_linked None b = false
is_linked (Some n) b = has_session (line_at n b)

-- the open identifiers of its session
abbrev pub open_in : Option Session → List ℕ
open_in None = []
open_in (Some s) = s.inbound

-- with the messages of this publisher that were accepted
abbrev pub seen : List ℕ → Publisher → Broker → Hop
seen accepted p b = record {
  fates = p.fates;
  unsent = filter_map qos_of_draft p.unsent;
  link = p.line.link;
  clean = p.line.clean;
  linked = is_linked p.line.number b;
  up = filter_map shaken p.line.up;
  down = filter_map heard_in p.line.down;
  old = filter_map shaken p.line.old;
  stands = is_some (session_named p.client b.records);
  ids = open_in (session_named p.client b.records);
  accepted = accepted;
}
