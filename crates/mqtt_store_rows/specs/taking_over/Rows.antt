-- What a row of `retained` says in schema 1, its range included (4.1).
use Rattle.std.specs.Prelude.{◌≡◌}
use Rattle.sqlite_value.specs.declared.value.Value.TheVariants.{Text, Blob}
use Rattle.sqlite_value.specs.Order.{Row, column}
use Rattle.mqtt_base.specs.Values.{FitsText}
use Rattle.mqtt_base.specs.Service.{qos_number}
use Rattle.mqtt_records.specs.declared.messages.message.Content.{Content}
use Rattle.mqtt_records.specs.declared.messages.message.RetainedMessage.{RetainedMessage}
use Rattle.mqtt_records.specs.state.Records.{IsNumber}
use Rattle.mqtt_store_rows.specs.values.Values.{number, IsCounted, IsShort}
use Rattle.mqtt_store_rows.specs.values.Blocks.{SaysPassed}

pub record SaysContent (c : Content) (row : Row) : Type 0 where
  pub topic : column row 1 ≡ Text c.topic
  pub topic_range : FitsText c.topic
  pub properties : SaysPassed c.properties (column row 5)
  pub payload : column row 6 ≡ Blob c.payload
  pub arrived : column row 7 ≡ number c.arrived
  pub arrived_range : IsNumber c.arrived
  pub short : IsShort (column row 1) (column row 5) (column row 6)

pub record SaysRetained (kept : RetainedMessage) (row : Row) : Type 0 where
  pub place : column row 0 ≡ number kept.place
  pub place_range : IsCounted kept.place
  pub sender : column row 2 ≡ Text kept.sender
  pub sender_range : FitsText kept.sender
  pub publication : column row 3 ≡ number kept.publication
  pub publication_range : IsCounted kept.publication
  pub qos : column row 4 ≡ number (qos_number kept.qos)
  pub content : SaysContent kept.content row
