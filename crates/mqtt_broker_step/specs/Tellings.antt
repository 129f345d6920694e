-- What clients were told of topics on their lines, and the form in which a PUBLISH goes out there (MQTT 5.0, 3.1.2.11.4, 3.3.2.3.4).
use Rattle.std.specs.Prelude.{◌≡◌, ⊤, ℕ, Bool, List, Option, Some, None, is_some, unwrap_or}
use Rattle.mqtt_packet.specs.declared.codec.packet.Packet.{Packet}
use Rattle.mqtt_packet.specs.declared.codec.packet.Packet.TheVariants as packets
use Rattle.mqtt_packet.specs.declared.codec.publish.Publish.{Publish}
use Rattle.mqtt_packet.specs.codec.Packets.{shortest_of}
use Rattle.mqtt_records.specs.lists.Order.{change_row, row_at}
use Rattle.mqtt_topic.specs.declared.sending.form.Form.{Form}
use Rattle.mqtt_topic.specs.declared.sending.form.Form.TheVariants.{Plain, Named, Short}
use Rattle.mqtt_topic.specs.declared.sending.sizes.OtherBytes.{OtherBytes}
use Rattle.mqtt_topic.specs.sending.Told.{ToldTopics, next_alias, shortened, told_if}
use Rattle.mqtt_topic.specs.sending.Sizes as sizes
use Rattle.mqtt_rules.specs.step.Forms.{form_for, in_form}
use Rattle.mqtt_rules.specs.step.State.{Line, Telling, Broker, line_at, told_line, told_on}
use Rattle.mqtt_broker_step.specs.declared.outputs.Outgoing.{Outgoing}

-- the topics behind the first so many are forgotten
abbrev pub telling_cut : ℕ → Telling → Telling
telling_cut count t = record t { topics = shortened count t.topics }

-- a further topic is told, if an alias is free for it
abbrev pub telling_more : List ℕ → Telling → Telling
telling_more topic t = record t { topics = told_if (next_alias t.topics) topic t.topics }

-- the topic that is told by a packet in a form: the form that names it tells it, and no other
abbrev pub told_by : Form → List ℕ → Option (List ℕ)
told_by Plain topic = None
told_by (Named alias) topic = Some topic
told_by (Short alias) topic = None

-- the client on a line is told a topic, if there is one to tell
abbrev pub told_also : ℕ → Option (List ℕ) → List Telling → List Telling
told_also n None ts = ts
told_also n (Some topic) ts = change_row told_line n (telling_more topic) ts

-- the client on a line has a table of what it was told: its CONNECT was accepted, and it takes aliases
abbrev pub takes_aliases : ℕ → Broker → Bool
takes_aliases n b = is_some (row_at told_line n b.tellings)

-- the form in which a PUBLISH goes out on a line, if it goes out, to a client that was told this
abbrev pub form_by : Option Line → ToldTopics → Publish → Form
form_by None told p = Plain
form_by (Some l) told p = unwrap_or (form_for l.largest told p) Plain

abbrev pub form_on : ℕ → Publish → Broker → Form
form_on n p b = form_by (line_at n b) (told_on n b.tellings) p

-- this is how a PUBLISH goes out on a line, if it goes out
pub record IsOutgoing (n : ℕ) (p : Publish) (b : Broker) (out : Outgoing) : Type 0 where
  pub told : out.told ≡ told_by (form_on n p b) p.topic
  pub bytes : out.bytes ≡ shortest_of (packets.Publish (in_form (form_on n p b) p))

-- the form of a PUBLISH is found by its topic and these other bytes
abbrev pub IsFoundBy : OtherBytes → Publish → Type 0
IsFoundBy other p = (largest : ℕ) (told : ToldTopics) → form_for largest told p ≡ sizes.form_for largest told p.topic other

-- a packet that is no PUBLISH
abbrev pub IsNoPublish : Packet → Type 0
IsNoPublish (packets.Publish p) = ⊥
IsNoPublish packet = ⊤
