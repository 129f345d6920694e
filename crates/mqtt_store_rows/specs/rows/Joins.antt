-- What a copy or a retained message is, out of its row and the messages that stand (4.1).
use Rattle.std.specs.Prelude.{◌≡◌, ℕ, List, Some}
use Rattle.sqlite_value.specs.Order.{Row}
use Rattle.mqtt_records.specs.declared.messages.message.MessageCopy.{MessageCopy}
use Rattle.mqtt_records.specs.declared.messages.message.RetainedMessage.{RetainedMessage}
use Rattle.mqtt_records.specs.messages.Queue.{CopyRow, IsSpelled}
use Rattle.mqtt_records.specs.lists.Order.{row_at}
use Rattle.mqtt_records.specs.state.Contents.{StoredMessage, stored_message, copy_message, retained_message}
use Rattle.mqtt_store_rows.specs.rows.Rows.{SaysOwn, SaysQueued, SaysKept}

abbrev pub publication_of : StoredMessage → ℕ
publication_of m = m.publication

-- the message that stands under its number is this one
abbrev pub Stands : List StoredMessage → StoredMessage → Type 0
Stands messages m = row_at publication_of m.publication messages ≡ Some m

-- topic, properties and payload are those of the message to which the row refers
pub record SaysSent (messages : List StoredMessage) (copy : MessageCopy) (row : Row) : Type 0 where
  pub own : SaysOwn copy row
  pub message : Stands messages (stored_message copy.id.publication copy.content)

-- the same of a copy in a queue
pub record SaysCopy (messages : List StoredMessage) (x : CopyRow) (row : Row) : Type 0 where
  pub own : SaysQueued x row
  pub message : Stands messages (copy_message x)
  pub spelled : IsSpelled x.copy

-- properties and payload are those of the message; its topic is the row's
pub record SaysRetained (messages : List StoredMessage) (kept : RetainedMessage) (row : Row) : Type 0 where
  pub own : SaysKept kept row
  pub message : Stands messages (retained_message kept)
