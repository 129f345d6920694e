-- Which rows are written from a copy and from a retained message in schema 1 (4.1).
use Rattle.std.specs.Prelude.{◌≡◌, ℕ, ℤ, cond, ◌∷◌}
use Rattle.sqlite_value.specs.declared.value.Value.TheVariants.{Int}
use Rattle.sqlite_value.specs.Order.{Row}
use Rattle.mqtt_base.specs.Service.{qos_number}
use Rattle.mqtt_props.specs.Properties.{block}
use Rattle.mqtt_records.specs.declared.messages.message.RetainedMessage.{RetainedMessage}
use Rattle.mqtt_records.specs.messages.Queue.{CopyRow, first_sent}
use Rattle.mqtt_store_tables.specs.statements.Columns.{RetainedColumns, retained_row}
use Rattle.mqtt_store_tables.specs.statements.Copy.{CopyColumns, copy_row}
use Rattle.mqtt_store_database.specs.item_laws.Items.{cause_n, cause_number, cause_text, packet_identifier, phase_number, release_order}

-- the properties as a block, with the Subscription Identifiers, as they are sent when nothing was waited
abbrev pub copy_columns : CopyRow → CopyColumns
copy_columns x = record {
  publication = x.copy.id.publication;
  cause = cause_number x.copy.id.cause;
  cause_text = cause_text x.copy.id.cause;
  cause_n = cause_n x.copy.id.cause;
  pid = packet_identifier x.phase;
  phase = phase_number x.phase;
  rel = release_order x.phase;
  topic = x.copy.content.topic;
  qos = qos_number x.copy.qos;
  retain = cond x.copy.retain 1 0;
  props = block (first_sent x.copy);
  payload = x.copy.content.payload;
  arrived = x.copy.content.arrived;
}

-- the properties as a block, as they are passed on
abbrev pub retained_columns : RetainedMessage → RetainedColumns
retained_columns m = record {
  topic = m.content.topic;
  sender = m.sender;
  publication = m.publication;
  qos = qos_number m.qos;
  props = block m.content.properties;
  payload = m.content.payload;
  arrived = m.content.arrived;
}

abbrev pub IsCopyRow : ℕ × CopyRow → Row → Type 0
IsCopyRow x row = (id : ℤ) × (row ≡ Int id ∷ copy_row x.0 x.1.place (copy_columns x.1))

abbrev pub IsRetainedRow : RetainedMessage → Row → Type 0
IsRetainedRow m row = row ≡ retained_row m.place (retained_columns m)
