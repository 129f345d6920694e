-- A row that says nothing but its topic (MQTT 5.0, 3.3).
use Rattle.std.specs.Prelude.{ℕ, zero, suc, ◌-◌, List, [], ◌∷◌, ◌++◌, length, Option, Some, None}
use Rattle.mqtt_props.specs.Properties.{Prop, Byte, U32, Binary, props}
use Rattle.mqtt_props.specs.declared.table.PropName.TheVariants.{PayloadFormatIndicator, MessageExpiryInterval, CorrelationData}
use Rattle.mqtt_records.specs.declared.messages.message.MessageCopy.{MessageCopy}
use Rattle.mqtt_records.specs.messages.PassedOn.{property, number_at}
use Rattle.mqtt_records.specs.messages.Queue.{CopyRow, first_sent}

abbrev pub zeros : ℕ → List ℕ
zeros zero = []
zeros (suc n) = 0 ∷ zeros n

-- ---- properties of so many bytes that say nothing; there are none of one byte

-- those of two bytes, which stand first
abbrev pub front_filler : ℕ → List Prop
front_filler zero = []
front_filler (suc zero) = []
front_filler (suc (suc zero)) = property PayloadFormatIndicator (Byte 0) ∷ []
front_filler (suc (suc (suc zero))) = []
front_filler (suc (suc (suc (suc n)))) = property PayloadFormatIndicator (Byte 0) ∷ front_filler (suc (suc n))

-- the one of three bytes, if their number is odd, which stands last
abbrev pub back_filler : ℕ → List Prop
back_filler zero = []
back_filler (suc zero) = []
back_filler (suc (suc zero)) = []
back_filler (suc (suc (suc zero))) = property CorrelationData (Binary []) ∷ []
back_filler (suc (suc (suc (suc n)))) = back_filler (suc (suc n))

-- ---- properties that tell a Message Expiry Interval alone (3.3.2.3.3)

abbrev pub interval_alone : Option ℕ → List Prop
interval_alone None = []
interval_alone (Some n) = property MessageExpiryInterval (U32 n) ∷ []

-- its bytes
abbrev pub interval_bytes : Option ℕ → ℕ
interval_bytes None = 0
interval_bytes (Some n) = 5

-- so many bytes of properties, in the order in which they are passed on
abbrev pub bare_properties : ℕ → Option ℕ → List Prop
bare_properties bytes interval =
    front_filler (bytes - interval_bytes interval) ++ interval_alone interval ++ back_filler (bytes - interval_bytes interval)

-- ---- copies and rows that say nothing but their topic

-- no Subscription Identifiers, so many bytes of properties with this Message Expiry Interval, so many zeros as payload
abbrev pub bare : ℕ → Option ℕ → ℕ → MessageCopy → MessageCopy
bare bytes interval payload copy = record copy {
  identifiers = [];
  content = record copy.content { properties = bare_properties bytes interval; payload = zeros payload };
}

-- its PUBLISH has as many bytes, and its Message Expiry Interval is the same
abbrev pub slim_copy : MessageCopy → MessageCopy
slim_copy copy =
    bare (length (props (first_sent copy))) (number_at MessageExpiryInterval copy.content.properties) (length copy.content.payload) copy

abbrev pub slim : CopyRow → CopyRow
slim e = record e { copy = slim_copy e.copy }
