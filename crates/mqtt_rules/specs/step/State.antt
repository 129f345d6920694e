-- The state of a broker: what it stores, and the lines that clients have opened (MQTT 5.0, 4.1).
use Rattle.std.specs.Prelude.{ℕ, suc, ◌+◌, min, Bool, false, List, find, map, nat_eq, bytes_eq, Option, Some, None, is_none}
use Rattle.mqtt_flow.specs.declared.outbound.entry.Entry.{Entry as FlowEntry}
use Rattle.mqtt_flow.specs.declared.outbound.entry.QueuedCopy.{QueuedCopy}
use Rattle.mqtt_flow.specs.inbound.Identifiers.{is_among}
use Rattle.mqtt_base.specs.declared.limits.TheConstants.{LAST_NUMBER}
use Rattle.mqtt_props.specs.declared.table.PropName.TheVariants.{MessageExpiryInterval}
use Rattle.mqtt_topic.specs.names.Aliases.{AliasTable}
use Rattle.mqtt_topic.specs.sending.Told.{ToldTopics, none_told}
use Rattle.mqtt_records.specs.declared.messages.message.MessageCopy.{MessageCopy}
use Rattle.mqtt_records.specs.messages.Queue.{CopyRow}
use Rattle.mqtt_records.specs.declared.state.session.Session.{Session}
use Rattle.mqtt_records.specs.declared.state.records.Records.{Records}
use Rattle.mqtt_records.specs.lists.Order.{row_at}
use Rattle.mqtt_records.specs.state.Session.{birth_of}
use Rattle.mqtt_routes.specs.routing.Intended.{greatest}
use Rattle.mqtt_rules.specs.declared.step.Capacity.{Capacity}
use Rattle.mqtt_records.specs.messages.PassedOn.{number_at}
use Rattle.mqtt_rules.specs.step.Packets.{publish_of, size_of}

-- a line: one connection
pub record Line : Type 0 where
  pub number : ℕ
  pub heard : ℕ  -- when it was linked, or its last whole packet came
  pub session : Option ℕ  -- the birth of the session that is connected on it
  pub keep_alive : ℕ  -- seconds, 0 turns it off (3.1.2.10)
  pub window : ℕ  -- the client's Receive Maximum (3.1.2.11.3)
  pub largest : ℕ  -- the client's Maximum Packet Size (3.1.2.11.4)
  pub aliases : AliasTable  -- what Topic Aliases stand for (3.3.2.3.4)
  pub went : List ℕ  -- the places of the copies whose PUBLISH went out on it

-- the topics that the client on a line was told by aliases, from its CONNECT on (3.3.2.3.4)
pub record Telling : Type 0 where
  pub line : ℕ
  pub topics : ToldTopics

pub record Broker : Type 0 where
  pub records : Records  -- what is stored
  pub lines : List Line  -- in the order in which they were linked
  pub given : ℕ  -- lines so far
  pub now : ℕ  -- the greatest moment handed in
  pub tellings : List Telling  -- of lines whose clients take aliases, in the order of the lines

-- Stored: the part of the state that the store keeps
abbrev pub stored : Broker → Records
stored b = b.records

-- the free choice, for the publication of a number by a sender, of a member for each group in order; a Will that is
-- refused takes no number, so if several sessions close in one step the number alone doesn't tell their publications
-- apart (ours)
abbrev pub MemberChoice : Type 0
MemberChoice = ℕ → List ℕ → List ℕ

-- what surrounds a step: the limits, the free choice, and what was stored before the step
pub record Env : Type 0 where
  pub limits : Capacity
  pub choice : MemberChoice
  pub start : Records

-- ---- who is there

abbrev pub session_at : ℕ → Records → Option Session
session_at birth r = row_at birth_of birth r.sessions

abbrev pub session_named : List ℕ → Records → Option Session
session_named client r = find (λ s. bytes_eq s.client client) r.sessions

abbrev pub is_connected : Session → Bool
is_connected s = is_none s.closed

abbrev pub line_at : ℕ → Broker → Option Line
line_at n b = find (λ l. nat_eq l.number n) b.lines

-- what the client on a line was told; nothing, and nothing may be, if its CONNECT was not accepted
abbrev pub topics_in : Option Telling → ToldTopics
topics_in None = none_told 0
topics_in (Some t) = t.topics

abbrev pub told_line : Telling → ℕ
told_line t = t.line

abbrev pub told_on : ℕ → List Telling → ToldTopics
told_on n ts = topics_in (row_at told_line n ts)

abbrev pub is_of : Option ℕ → ℕ → Bool
is_of None birth = false
is_of (Some x) birth = nat_eq x birth

-- the line that a session is connected on
abbrev pub line_of : ℕ → Broker → Option Line
line_of birth b = find (λ l. is_of l.session birth) b.lines

-- ---- a session's queue as the session rules see it

abbrev pub queued_copy : MessageCopy → QueuedCopy
queued_copy copy = record {
  id = copy.id;
  qos = copy.qos;
  size = size_of (publish_of copy.content.arrived false 1 copy);
  arrived = copy.content.arrived;
  expiry = number_at MessageExpiryInterval copy.content.properties;
}

abbrev pub entry_on : List ℕ → CopyRow → FlowEntry
entry_on went e = record { place = e.place; copy = queued_copy e.copy; phase = e.phase; here = is_among e.place went }

-- the queue, with the copies whose PUBLISH went out on a line
abbrev pub queue_on : List ℕ → Session → List FlowEntry
queue_on went s = map (entry_on went) s.queue

-- ---- numbers and moments

-- a new number is one above the greatest that stands (ours)
abbrev pub next_of : {X : Type 0} → (X → ℕ) → List X → ℕ
next_of number xs = suc (greatest (map number xs))

-- a moment above the last one is taken as the last one (ours)
abbrev pub capped : ℕ → ℕ
capped moment = min moment LAST_NUMBER

abbrev pub later : ℕ → ℕ → ℕ
later moment wait = capped (moment + wait)
