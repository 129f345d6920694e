-- The forms in which a PUBLISH goes out to a client that is told topics by aliases (MQTT 5.0, 3.1.2.11.4, 3.3.2.1, 3.3.2.3.4).
use Rattle.std.specs.Prelude.{ℕ, ◌+◌, Bool, ◌&&◌, cond, nat_le, List, [], ◌∷◌, ◌++◌, length, Option, Some, None}
use Rattle.mqtt_props.specs.declared.table.PropName.TheVariants.{TopicAlias, UserProperty}
use Rattle.mqtt_props.specs.Properties.{Prop, U16, props}
use Rattle.mqtt_props.specs.Edits.{only, without}
use Rattle.mqtt_topic.specs.declared.sending.form.Form.{Form}
use Rattle.mqtt_topic.specs.declared.sending.sizes.OtherBytes.{OtherBytes}
use Rattle.mqtt_topic.specs.sending.Told.{ToldTopics, forms, topic_in, alias_in}
use Rattle.mqtt_topic.specs.sending.Sizes.{is_spelled, remaining_in, whole_size}
use Rattle.mqtt_packet.specs.declared.codec.publish.Publish.{Publish}
use Rattle.mqtt_packet.specs.declared.codec.packet.Packet.TheVariants as packets
use Rattle.mqtt_packet.specs.codec.Publish.{publish_body, identifier_field}
use Rattle.mqtt_records.specs.declared.messages.message.MessageCopy.{MessageCopy}
use Rattle.mqtt_records.specs.messages.PassedOn.{property}
use Rattle.mqtt_records.specs.messages.Queue.{identifier_len, first_sent}
use Rattle.mqtt_rules.specs.step.Packets.{delivery_by, properties_sent, size_of}

-- ---- a form

-- a block with a Topic Alias: behind the Subscription Identifiers, and before the User Properties (3.3.2.3, ours)
abbrev pub with_alias : Option ℕ → List Prop → List Prop
with_alias None ps = ps
with_alias (Some alias) ps = without UserProperty ps ++ property TopicAlias (U16 alias) ∷ only UserProperty ps

-- a PUBLISH in a form, which says its topic and its alias; all else stays
abbrev pub in_form : Form → Publish → Publish
in_form form p = record {
  delivery = p.delivery;
  retain = p.retain;
  topic = topic_in form p.topic;
  properties = with_alias (alias_in form) p.properties;
  payload = p.payload;
}

-- ---- the form in which it goes out

-- in this form it has a spelling (2.1.4), and is no larger than the client takes (3.1.2.11.4)
abbrev pub is_within : ℕ → Publish → Form → Bool
is_within largest p form =
    is_spelled (length (publish_body (in_form form p))) && nat_le (size_of (packets.Publish (in_form form p))) largest

-- the first of these forms that is within
abbrev pub first_within : ℕ → Publish → List Form → Option Form
first_within largest p [] = None
first_within largest p (f ∷ fs) = cond (is_within largest p f) (Some f) (first_within largest p fs)

-- the form in which a PUBLISH goes out, to a client that takes so many bytes and was told this; none if it is too large
abbrev pub form_for : ℕ → ToldTopics → Publish → Option Form
form_for largest told p = first_within largest p (forms told p.topic)

-- the bytes that a PUBLISH has besides its topic and its alias
abbrev pub other_of : Publish → OtherBytes
other_of p = record {
  properties = length (props p.properties);
  rest = length (identifier_field p.delivery) + length p.payload;
}

-- ---- a copy

-- a copy's PUBLISH at a moment, with its DUP flag and its packet identifier, of which `publish_of` makes the packet (3.3)
abbrev pub published_of : ℕ → Bool → ℕ → MessageCopy → Publish
published_of now dup id copy = record {
  delivery = delivery_by copy.qos dup id;
  retain = copy.retain;
  topic = copy.content.topic;
  properties = properties_sent now copy;
  payload = copy.content.payload;
}

-- the bytes that it has besides its topic and its alias, by those of the copy
abbrev pub other_bytes : MessageCopy → OtherBytes
other_bytes copy = record {
  properties = length (props (first_sent copy));
  rest = identifier_len copy.qos + length copy.content.payload;
}

-- its Remaining Length in a form
abbrev pub form_remaining : Form → MessageCopy → ℕ
form_remaining form copy = remaining_in form copy.content.topic (other_bytes copy)

-- its bytes in a form, fixed header included
abbrev pub form_size : Form → MessageCopy → ℕ
form_size form copy = whole_size (form_remaining form copy)
