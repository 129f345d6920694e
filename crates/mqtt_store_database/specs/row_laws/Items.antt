-- The rows that are written from copies, retained messages and messages in schema 2 (4.1).
use Rattle.std.specs.Prelude.{◌≡◌, ℕ, ℤ, ◌∷◌, map}
use Rattle.sqlite_value.specs.declared.value.Value.TheVariants.{Int}
use Rattle.sqlite_value.specs.Order.{Row}
use Rattle.mqtt_base.specs.Service.{qos_number}
use Rattle.mqtt_props.specs.Properties.{props, block}
use Rattle.mqtt_records.specs.declared.messages.message.RetainedMessage.{RetainedMessage}
use Rattle.mqtt_records.specs.messages.PassedOn.{identified}
use Rattle.mqtt_records.specs.messages.Queue.{CopyRow}
use Rattle.mqtt_records.specs.state.Contents.{StoredMessage}
use Rattle.mqtt_store_database.specs.item_laws.Items.{cause_number, cause_text, cause_n, packet_identifier, phase_number, release_order}
use Rattle.mqtt_store_tables.specs.messages.Rows.{MessageColumns, message_row, QueuedColumns, queued_row, KeptColumns, kept_row}

-- ---- what stands behind a row's key

-- the properties as a block, as they are passed on
abbrev pub message_columns : StoredMessage → MessageColumns
message_columns m = record { topic = m.topic; props = block m.properties; payload = m.payload }

-- the Subscription Identifiers as they are sent, without a length in front; topic, properties and payload are the message's
abbrev pub queued_columns : CopyRow → QueuedColumns
queued_columns x = record {
  publication = x.copy.id.publication;
  cause = cause_number x.copy.id.cause;
  cause_text = cause_text x.copy.id.cause;
  cause_n = cause_n x.copy.id.cause;
  pid = packet_identifier x.phase;
  phase = phase_number x.phase;
  rel = release_order x.phase;
  qos = qos_number x.copy.qos;
  retain = x.copy.retain;
  idents = props (map identified x.copy.identifiers);
  arrived = x.copy.content.arrived;
}

-- properties and payload are the message's; the topic stands here too, since no two may have one
abbrev pub kept_columns : RetainedMessage → KeptColumns
kept_columns m = record {
  topic = m.content.topic;
  sender = m.sender;
  publication = m.publication;
  qos = qos_number m.qos;
  arrived = m.content.arrived;
}

-- ---- which rows are written from an item

abbrev pub IsMessageRow : StoredMessage → Row → Type 0
IsMessageRow m row = row ≡ message_row m.publication (message_columns m)

-- of the session with that birth, behind the number that the table gives the row
abbrev pub IsQueuedRow : ℕ × CopyRow → Row → Type 0
IsQueuedRow x row = (id : ℤ) × (row ≡ Int id ∷ queued_row x.0 x.1.place (queued_columns x.1))

abbrev pub IsKeptRow : RetainedMessage → Row → Type 0
IsKeptRow m row = row ≡ kept_row m.place (kept_columns m)
