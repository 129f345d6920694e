-- Where a publisher is in the world: its session, its line, and the line that it gave up last (MQTT 5.0, 3.1.4, 4.1, 4.4).
use Rattle.std.specs.Prelude.{◌≡◌, ℕ, ◌≤◌, ⊤, ◌⊎◌, Bool, true, false, List, [], ◌∷◌, find, filter_map, length, nat_eq}
use Rattle.std.specs.Prelude.{nat_lt, Option, Some, None, option_map, is_some}
use Rattle.std.specs.List.{AllByRecursion, starts_with}
use Rattle.mqtt_base.specs.declared.limits.TheConstants.{CLIENT_LIMIT, OPEN_LIMIT, SESSION_LIMIT}
use Rattle.mqtt_topic.specs.names.Names.{is_empty}
use Rattle.mqtt_flow.specs.inbound.Line.{asked, live}
use Rattle.mqtt_flow.specs.inbound.Publisher.{CONNECT, in_flight}
use Rattle.mqtt_flow.specs.inbound.InboundWorld.{Event as HopEvent, run}
use Rattle.mqtt_rules.specs.declared.step.Capacity.{Capacity}
use Rattle.mqtt_rules.specs.step.State.{Line as BrokerLine, Broker, session_named}
use Rattle.mqtt_rules.specs.step.Step.{Call, NewLine, Input, BadInput, Lost, Pump, Tick}
use Rattle.mqtt_world_model.specs.model.Lines.{Line}
use Rattle.mqtt_world_model.specs.model.Ends.{Sent, shake, Publisher}
use Rattle.mqtt_world_model.specs.model.Seen.{heard_in, seen}
use Rattle.mqtt_world_model.specs.model.Hops.{Own, IsInOrder, IsNoConnect}
use Rattle.mqtt_records.specs.state.Session.{auto}
use Rattle.mqtt_records.specs.declared.state.records.Records.{Records}

-- ---- a line of the broker

-- what is seen of it: its session, and its Keep Alive
pub record Glance : Type 0 where
  pub session : Option ℕ
  pub keep_alive : ℕ

abbrev pub glance : BrokerLine → Glance
glance l = record { session = l.session; keep_alive = l.keep_alive }

abbrev pub glance_at : ℕ → List BrokerLine → Option Glance
glance_at n ls = option_map glance (find (λ (l : BrokerLine). nat_eq l.number n) ls)

-- it waits for CONNECT
abbrev pub waits_there : Option Glance
waits_there = Some (record { session = None; keep_alive = 0 })

-- the session that is connected there
abbrev pub connected_at : ℕ → List BrokerLine → Option (Option ℕ)
connected_at n ls = option_map (λ (l : BrokerLine). l.session) (find (λ (l : BrokerLine). nat_eq l.number n) ls)

-- nobody is connected on a line of this number, and it was given
abbrev pub HasNobody : ℕ → BrokerLine → Type 0
HasNobody n l = l.number ≡ n → l.session ≡ None

pub record IsIdle (n : ℕ) (b : Broker) : Type 0 where
  pub lines : AllByRecursion (HasNobody n) b.lines
  pub given : n ≤ b.given

-- ---- where a publisher is

-- its session, by its birth, with the number of the line that it may be connected on; or none of its name stands
abbrev pub IsHis : List ℕ → Option ℕ → ℕ → Broker → Type 0
IsHis client None k b = session_named client b.records ≡ None
IsHis client (Some birth) k b = Own client birth k b × (is_some (session_named client b.records) ≡ true)

-- its line: it has none; CONNECT is under way there; the broker has closed it; or the session is connected there
pub data Present (o : Option ℕ) (k : ℕ) (l : Line Sent) (b : Broker) : Type 0 where
  absent : l.number ≡ None → l.up ≡ [] → Present o k l b
  waiting : (n : ℕ) (clean : Bool) → l.number ≡ Some n → l.link ≡ asked → l.clean ≡ clean
      → l.up ≡ shake (CONNECT clean) ∷ [] → filter_map heard_in l.down ≡ []
      → IsIdle n b → glance_at n b.lines ≡ waits_there → Present o k l b
  closed : (n : ℕ) → l.number ≡ Some n → l.up ≡ [] → IsIdle n b → glance_at n b.lines ≡ None → Present o k l b
  joined : (birth : ℕ) → o ≡ Some birth → l.number ≡ Some k → connected_at k b.lines ≡ Some (Some birth)
      → Present o k l b

-- the line that it gave up last: nothing is under way there; a late CONNECT is; or the session is connected there
pub data Former (o : Option ℕ) (k : ℕ) (l : Line Sent) (b : Broker) : Type 0 where
  over : l.old ≡ [] → Former o k l b
  late : (m : ℕ) → l.old_number ≡ Some m → l.old ≡ shake (CONNECT false) ∷ [] → IsIdle m b
      → glance_at m b.lines ≡ waits_there → Former o k l b
  lingers : (birth : ℕ) → o ≡ Some birth → l.old_number ≡ Some k → AllByRecursion IsNoConnect l.old
      → connected_at k b.lines ≡ Some (Some birth) → Former o k l b

pub record Seat (o : Option ℕ) (k : ℕ) (p : Publisher) (b : Broker) : Type 0 where
  pub his : IsHis p.client o k b
  pub present : Present o k p.line b
  pub former : Former o k p.line b

-- ---- what is asked of it besides

-- its client identifier is one that the broker takes, and doesn't assign
pub record IsNamed (client : List ℕ) : Type 0 where
  pub some : is_empty client ≡ false
  pub short : nat_lt CLIENT_LIMIT (length client) ≡ false
  pub plain : starts_with nat_eq client auto ≡ false

-- its line isn't the one that it gave up
abbrev pub IsApart : Option ℕ → Option ℕ → Type 0
IsApart x y = (n : ℕ) → x ≡ Some n → y ≡ Some n → ⊥

-- once CONNACK was read, all has gone out, or the Receive Maximum is reached (4.9)
abbrev pub IsFull : Publisher → Type 0
IsFull p = nat_lt (length (in_flight p.fates)) OPEN_LIMIT ≡ false

abbrev pub IsSettled : Publisher → Type 0
IsSettled p = p.line.link ≡ live → (p.unsent ≡ []) ⊎ IsFull p

-- if a session of this client stands, the table of sessions is within its limit: its session began where there was a place,
-- and a table above its limit, stored under a larger one, only shrinks
abbrev pub HasPlace : Capacity → List ℕ → Records → Type 0
HasPlace limits client r = is_some (session_named client r) ≡ true → length r.sessions ≤ limits.sessions

-- of the broker: sessions and lines are in order, and this client's session has a place
pub record IsSound (limits : Capacity) (client : List ℕ) (b : Broker) : Type 0 where
  pub order : IsInOrder b
  pub place : HasPlace limits client b.records
  pub within : limits.sessions ≤ SESSION_LIMIT

-- ---- calls on other lines; a pump of any line

abbrev pub IsElsewhere : ℕ → Call → Type 0
IsElsewhere n NewLine = ⊤
IsElsewhere n (Input m packet) = nat_eq m n ≡ false
IsElsewhere n (BadInput m is_connect code) = nat_eq m n ≡ false
IsElsewhere n (Lost m) = nat_eq m n ≡ false
IsElsewhere n (Pump m) = ⊤
IsElsewhere n Tick = ⊤

abbrev pub IsOff : Option ℕ → Call → Type 0
IsOff None call = ⊤
IsOff (Some n) call = IsElsewhere n call

-- ---- what a call makes of a publisher: it is somewhere again, and what it saw is some events of its hop

pub record Comes (k : ℕ) (p q : Publisher) (b c : Broker) (accepted more : List ℕ) : Type 0 where
  pub birth : Option ℕ
  pub line : ℕ
  pub seat : Seat birth line q c
  pub its_line : (line ≡ k) ⊎ ((p.line.number ≡ Some line) ⊎ (p.line.old_number ≡ Some line))
  pub events : List HopEvent
  pub seen_is : seen more q c ≡ run events (seen accepted p b)

-- and what its own doings make of it, which the broker sees nothing of
pub record Does (o : Option ℕ) (k : ℕ) (p q : Publisher) (b : Broker) (accepted : List ℕ) : Type 0 where
  pub client : q.client ≡ p.client
  pub seat : Seat o k q b
  pub settled : IsSettled q
  pub number : (q.line.number ≡ p.line.number) ⊎ (q.line.number ≡ None)
  pub old_number : (q.line.old_number ≡ p.line.old_number)
      ⊎ ((q.line.number ≡ None) × (q.line.old_number ≡ p.line.number))
  pub events : List HopEvent
  pub seen_is : seen accepted q b ≡ run events (seen accepted p b)
