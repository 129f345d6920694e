-- Which rows of the eight tables of schema 2 give which records (4.1).
use Rattle.std.specs.Prelude.{◌≡◌, ℕ, Bool, List, [], ◌∷◌, ◌++◌, map, ◌==◌, IsTrue}
use Rattle.std.specs.List.{AllByRecursion, list_any, flat_map}
use Rattle.sqlite_value.specs.Order.{Row}
use Rattle.mqtt_records.specs.declared.messages.message.RetainedMessage.{RetainedMessage}
use Rattle.mqtt_records.specs.messages.Queue.{CopyRow}
use Rattle.mqtt_records.specs.declared.state.session.Session.{Session}
use Rattle.mqtt_records.specs.declared.state.records.Records.{Records}
use Rattle.mqtt_records.specs.lists.Order.{IsTable}
use Rattle.mqtt_records.specs.state.Contents.{StoredMessage}
use Rattle.mqtt_store_rows.specs.values.Rows.{SaysNumbers}
use Rattle.mqtt_store_rows.specs.values.Lists.{AreRows, Takes}
use Rattle.mqtt_store_rows.specs.values.Gives.{Parts, counters_of, AreSessions}
use Rattle.mqtt_store_rows.specs.declared.rows.message.TheConstants.{MESSAGE_LIMIT}
use Rattle.mqtt_store_rows.specs.rows.Rows.{SaysMessage}
use Rattle.mqtt_store_rows.specs.rows.Joins.{publication_of, SaysCopy, SaysRetained}

-- the rows of the tables: meta by name, session and will by birth, sub by birth and place, inbound by birth and
-- identifier, message by number, queued by birth and place, kept by place
pub record Rows : Type 0 where
  pub meta : List Row
  pub sessions : List Row
  pub wills : List Row
  pub subscriptions : List Row
  pub inbound : List Row
  pub messages : List Row
  pub queued : List Row
  pub kept : List Row

-- ---- sessions

-- of what sessions have beside their queues
abbrev pub parts_of : Rows → Parts
parts_of rows = record { wills = rows.wills; subscriptions = rows.subscriptions; inbound = rows.inbound; copies = [] }

abbrev pub without_queue : Session → Session
without_queue s = record s { queue = [] }

-- rows in the order of births say the queues of these sessions, and no row is of another
abbrev pub AreQueues : List StoredMessage → List Row → List Session → Type 0
AreQueues messages rows [] = rows ≡ []
AreQueues messages rows (s ∷ ss) = (rest : List Row) × Takes (SaysCopy messages) s.birth s.queue rows rest × AreQueues messages rest ss

-- rows say these sessions with these messages; what they have beside their queues is said as in schema 1
pub record AreSessionsWith (messages : List StoredMessage) (rows : Rows) (ss : List Session) : Type 0 where
  pub others : AreSessions rows.sessions (parts_of rows) (map without_queue ss)
  pub queues : AreQueues messages rows.queued ss

-- ---- all tables

-- with these messages
pub record GivesBy (messages : List StoredMessage) (rows : Rows) (r : Records) : Type 0 where
  pub numbers : SaysNumbers 2 (counters_of r) rows.meta
  pub sessions : AreSessionsWith messages rows r.sessions
  pub retained : AreRows (SaysRetained messages) rows.kept r.retained

-- the same of all tables but `queued`: no session has a queue
pub record AreHeads (messages : List StoredMessage) (rows : Rows) (r : Records) : Type 0 where
  pub numbers : SaysNumbers 2 (counters_of r) rows.meta
  pub sessions : AreSessions rows.sessions (parts_of rows) r.sessions
  pub bare : map without_queue r.sessions ≡ r.sessions
  pub retained : AreRows (SaysRetained messages) rows.kept r.retained

-- the number to which a copy refers, those to which the copies of a session's queue do, and that of a retained message
abbrev pub copy_number : CopyRow → ℕ
copy_number x = x.copy.id.publication

abbrev pub queue_numbers : Session → List ℕ
queue_numbers s = map copy_number s.queue

abbrev pub kept_number : RetainedMessage → ℕ
kept_number kept = kept.publication

-- those of all
abbrev pub numbers_in : Records → List ℕ
numbers_in r = flat_map queue_numbers r.sessions ++ map kept_number r.retained

abbrev pub is_among : ℕ → List ℕ → Bool
is_among number numbers = list_any (λ n. n == number) numbers

-- something refers to the message
abbrev pub IsReferred : Records → StoredMessage → Type 0
IsReferred r m = IsTrue (is_among m.publication (numbers_in r))

pub record Gives (rows : Rows) (r : Records) : Type 0 where
  pub messages : List StoredMessage
  pub said : AreRows SaysMessage rows.messages messages
  pub order : IsTable publication_of MESSAGE_LIMIT messages
  pub by : GivesBy messages rows r
  pub referred : AllByRecursion (IsReferred r) messages
