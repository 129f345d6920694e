-- Frames by their bytes, and how many bytes a copy's PUBLISH has (MQTT 5.0, 2.1, 3.3).
use Rattle.std.specs.Prelude.{◌≡◌, ℕ, ◌+◌, ◌<◌, ◌^◌, Bool, List, [], ◌∷◌, ◌++◌, length, Option, Some, None}
use Rattle.mqtt_base.specs.declared.session.Qos.{Qos}
use Rattle.mqtt_base.specs.declared.session.Qos.TheVariants.{AtMostOnce, AtLeastOnce, ExactlyOnce}
use Rattle.mqtt_base.specs.Values.{varint, blob, two_bytes}
use Rattle.mqtt_props.specs.declared.table.PropName.TheVariants.{TopicAlias}
use Rattle.mqtt_props.specs.Properties.{Prop, U16, FitsBlock, block, props}
use Rattle.mqtt_topic.specs.declared.sending.form.Form.{Form}
use Rattle.mqtt_topic.specs.sending.Told.{alias_in, topic_in}
use Rattle.mqtt_topic.specs.sending.Sizes.{alias_size}
use Rattle.mqtt_packet.specs.declared.codec.packet.Packet.TheVariants as packets
use Rattle.mqtt_records.specs.declared.messages.message.MessageCopy.{MessageCopy}
use Rattle.mqtt_records.specs.messages.PassedOn.{property}
use Rattle.mqtt_records.specs.messages.Queue.{first_sent}
use Rattle.mqtt_rules.specs.step.Forms.{form_remaining, in_form, published_of, with_alias}
use Rattle.mqtt_rules.specs.step.Packets.{properties_sent, publish_of, size_of}
use Rattle.mqtt_broker_looks.specs.declared.sent.copies.Lengths.{Lengths}

-- a first byte, how many bytes follow, and these (2.1.1, 2.1.4)
abbrev pub frame : ℕ → List ℕ → List ℕ
frame first body = first ∷ varint (length body) ++ body

-- bytes of a copy's PUBLISH: the same at each moment, with DUP or without, under each identifier
abbrev pub IsSizeOf : MessageCopy → ℕ → Type 0
IsSizeOf copy size = (now id : ℕ) (dup : Bool) → size ≡ size_of (publish_of now dup id copy)

-- the packet identifier, if the QoS is above 0 (3.3.2.2)
abbrev pub identifier_bytes : Qos → ℕ → List ℕ
identifier_bytes AtMostOnce id = []
identifier_bytes AtLeastOnce id = two_bytes id
identifier_bytes ExactlyOnce id = two_bytes id

-- ---- in a form

-- a copy's PUBLISH has a spelling in a form: its other properties are a block, and the Remaining Length a Variable Byte
-- Integer (2.1.4)
pub record IsSpelledIn (form : Form) (copy : MessageCopy) : Type 0 where
  pub properties : FitsBlock (first_sent copy)
  pub short : form_remaining form copy < 2 ^ 28

-- bytes of a copy's PUBLISH in a form: the same at each moment, with DUP or without, under each identifier
abbrev pub IsSizeIn : Form → MessageCopy → ℕ → Type 0
IsSizeIn form copy size =
    (now id : ℕ) (dup : Bool) → size ≡ size_of (packets.Publish (in_form form (published_of now dup id copy)))

-- the Topic Alias alone, if there is one (3.3.2.3.4)
abbrev pub alias_alone : Option ℕ → List Prop
alias_alone None = []
alias_alone (Some alias) = property TopicAlias (U16 alias) ∷ []

-- all behind the fixed header of a copy's PUBLISH in a form (3.3.2, 3.3.3)
abbrev pub sent_body : ℕ → ℕ → Form → MessageCopy → List ℕ
sent_body now id form copy =
    blob (topic_in form copy.content.topic)
    ++ (identifier_bytes copy.qos id
    ++ (block (with_alias (alias_in form) (properties_sent now copy)) ++ copy.content.payload))

-- the lengths of a copy's PUBLISH in a form in which it has a spelling
pub record Measures (form : Form) (copy : MessageCopy) (lengths : Lengths) : Type 0 where
  pub spelled : IsSpelledIn form copy
  pub pairs : lengths.pairs ≡ length (props (first_sent copy)) + alias_size form
  pub remaining : lengths.remaining ≡ form_remaining form copy
