-- Which rows of a queue are listed with the bytes of a shorter form, and a copy of QoS 0 that is offered (MQTT 5.0, 3.1.2.11.4, 3.3.2.3.4).
use Rattle.std.specs.Prelude.{◌≡◌, ℕ, cond, nat_lt, List, [], ◌∷◌, ◌++◌, Option, Some, None}
use Rattle.mqtt_packet.specs.declared.codec.packet.Packet.TheVariants as packets
use Rattle.mqtt_packet.specs.declared.codec.publish.Publish.{Publish}
use Rattle.mqtt_packet.specs.codec.Packets.{shortest_of}
use Rattle.mqtt_topic.specs.declared.sending.form.Form.{Form}
use Rattle.mqtt_topic.specs.declared.sending.form.Form.TheVariants.{Plain}
use Rattle.mqtt_topic.specs.sending.Told.{ToldTopics}
use Rattle.mqtt_records.specs.declared.messages.message.MessageCopy.{MessageCopy}
use Rattle.mqtt_records.specs.messages.Queue.{CopyRow}
use Rattle.mqtt_rules.specs.step.Deeds.{Act}
use Rattle.mqtt_rules.specs.step.Fitting.{form_of, is_due, offer_copy, told_behind}
use Rattle.mqtt_rules.specs.step.Forms.{form_size, in_form}
use Rattle.mqtt_rules.specs.step.State.{Line, line_at}
use Rattle.mqtt_broker_step.specs.declared.outputs.Outgoing.{Outgoing}
use Rattle.mqtt_broker_step.specs.Tellings.{told_by}

-- a row that is too large with its whole topic: its place and the bytes of its form, if it has one
abbrev pub listed : ℕ → Option Form → CopyRow → List (ℕ × ℕ)
listed largest None e = []
listed largest (Some form) e = cond (nat_lt largest (form_size Plain e.copy)) ((e.place, form_size form e.copy) ∷ []) []

-- all that are listed, to a client that was told this, as `fitted` of the rules goes over the rows
abbrev pub fitting : Line → ℕ → ToldTopics → List CopyRow → List (ℕ × ℕ)
fitting l now told [] = []
fitting l now told (e ∷ es) =
    listed l.largest (form_of l.largest told e.copy) e
    ++ fitting l now (told_behind (is_due now l.went e) (form_of l.largest told e.copy) e.copy.content.topic told) es

-- a PUBLISH as it goes out in a form
pub record IsOutgoingIn (form : Form) (p : Publish) (out : Outgoing) : Type 0 where
  pub told : out.told ≡ told_by form p.topic
  pub bytes : out.bytes ≡ shortest_of (packets.Publish (in_form form p))

-- a copy of QoS 0 is offered on a line, if that stands
abbrev pub offers : ℕ → MessageCopy → Act
offers line copy b = offer_copy (line_at line b) copy b
