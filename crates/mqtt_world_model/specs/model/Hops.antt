-- When a step of the broker is what one publisher's hop does: its line and its session, and the steps of others (MQTT
-- 5.0, 4.3, 4.4).
use Rattle.std.specs.Prelude.{◌≡◌, suc, ℕ, ◌≤◌, ⊤, Bool, true, false, List, [], ◌∷◌, ◌++◌, length, filter_map, map}
use Rattle.std.specs.Prelude.{nat_eq, nat_lt, Option, Some, None}
use Rattle.std.specs.List.{AllByRecursion, starts_with}
use Rattle.mqtt_packet.specs.declared.codec.packet.Packet.{Packet}
use Rattle.mqtt_packet.specs.declared.codec.packet.Packet.TheVariants.{Connect}
use Rattle.mqtt_flow.specs.inbound.Line.{Link, away, asked, live}
use Rattle.mqtt_flow.specs.inbound.Publisher.{CONNECT, PUBLISH_1, PUBLISH_2}
use Rattle.mqtt_flow.specs.inbound.InboundWorld.{Event as HopEvent, spared, step, run, after}
use Rattle.mqtt_records.specs.declared.messages.message.Will.{Will}
use Rattle.mqtt_records.specs.declared.state.session.Session.{Session}
use Rattle.mqtt_records.specs.declared.state.records.Records.{Records}
use Rattle.mqtt_rules.specs.declared.step.Capacity.{Capacity}
use Rattle.mqtt_rules.specs.step.State.{MemberChoice, Line as BrokerLine, Broker, session_at, session_named, line_at}
use Rattle.mqtt_rules.specs.step.State.{line_of}
use Rattle.mqtt_rules.specs.step.Closing.{never}
use Rattle.mqtt_rules.specs.step.Step.{Call, NewLine, Input, BadInput, Lost, Pump, Tick, can_link, deeds, stepped, told}
use Rattle.mqtt_base.specs.declared.limits.TheConstants.{CLIENT_LIMIT, SESSION_LIMIT}
use Rattle.mqtt_topic.specs.names.Names.{is_empty}
use Rattle.mqtt_rules.specs.step.Numbers.{HasGivenBirths}
use Rattle.mqtt_rules.specs.step.Lines.{line_number, HasUniqueLines}
use Rattle.mqtt_records.specs.lists.Order.{IsAscending, IsBelow}
use Rattle.mqtt_records.specs.state.Session.{birth_of, auto}
use Rattle.mqtt_world_model.specs.model.Lines.{Line, is_one_of, unless_closed, left, joined}
use Rattle.mqtt_world_model.specs.model.Ends.{Sent, shake, Publisher, wire}
use Rattle.mqtt_world_model.specs.model.World.{publisher_told, taken_up, taken_old}
use Rattle.mqtt_world_model.specs.model.Run.{client_number}
use Rattle.mqtt_world_model.specs.model.Seen.{shaken, is_linked, seen}

-- ---- its session's name

-- a session with this client identifier has this birth
abbrev pub IsIts : List ℕ → ℕ → Session → Type 0
IsIts client birth s = s.client ≡ client → s.birth ≡ birth

abbrev pub IsOnly : List ℕ → ℕ → Records → Type 0
IsOnly client birth r = AllByRecursion (IsIts client birth) r.sessions

-- ---- whose the session and the line are

-- of a session's client identifier, birth, expiry and Will: one with this identifier has this birth, and one with this
-- birth has no Will and doesn't expire
pub record About (client : List ℕ) (birth : ℕ) (its : List ℕ) (b expiry : ℕ) (will : Option Will) : Type 0 where
  pub named : its ≡ client → b ≡ birth
  pub name : b ≡ birth → its ≡ client
  pub no_will : b ≡ birth → will ≡ None
  pub no_end : b ≡ birth → expiry ≡ never

abbrev pub IsOurs : List ℕ → ℕ → Session → Type 0
IsOurs client birth s = About client birth s.client s.birth s.expiry s.will

-- of a line's number, session and Keep Alive: one with this number is the session's, without Keep Alive, and the
-- session is on no other
pub record AboutLine (birth n m : ℕ) (session : Option ℕ) (keep_alive : ℕ) : Type 0 where
  pub ours : m ≡ n → session ≡ Some birth
  pub quiet : m ≡ n → keep_alive ≡ 0
  pub alone : session ≡ Some birth → m ≡ n

abbrev pub IsOurLine : ℕ → ℕ → BrokerLine → Type 0
IsOurLine birth n l = AboutLine birth n l.number l.session l.keep_alive

pub record Own (client : List ℕ) (birth n : ℕ) (b : Broker) : Type 0 where
  pub sessions : AllByRecursion (IsOurs client birth) b.records.sessions
  pub lines : AllByRecursion (IsOurLine birth n) b.lines
  pub births : birth ≤ b.records.births
  pub given : n ≤ b.given

-- sessions and lines are in order, as they are after every step and opening (laws of mqtt_rules)
pub record IsInOrder (b : Broker) : Type 0 where
  pub sessions : IsAscending birth_of b.records.sessions
  pub births : HasGivenBirths b.records
  pub lines : HasUniqueLines b

-- ---- the publisher's line is connected to its session

pub record IsConnected (p : Publisher) (l : BrokerLine) (s : Session) (b : Broker) : Type 0 where
  pub number : p.line.number ≡ Some l.number
  pub line : line_at l.number b ≡ Some l
  pub connected : l.session ≡ Some s.birth
  pub session : session_at s.birth b.records ≡ Some s
  pub client : s.client ≡ p.client
  pub only : IsOnly p.client s.birth b.records
  pub no_will : s.will ≡ None
  pub no_end : s.expiry ≡ never
  -- the line that it gave up is another one
  pub apart : is_one_of p.line.old_number (l.number ∷ []) ≡ false

-- ---- the steps of others

-- a packet that isn't a CONNECT of this client
abbrev pub IsOthers : List ℕ → Packet → Type 0
IsOthers client (Connect c) = c.client_identifier ≡ client → ⊥
IsOthers client packet = ⊤

-- each call but those on this line, and CONNECT of this client
abbrev pub IsFarCall : List ℕ → ℕ → Call → Type 0
IsFarCall client n NewLine = ⊤
IsFarCall client n (Input m packet) = (nat_eq m n ≡ false) × IsOthers client packet
IsFarCall client n (BadInput m is_connect code) = nat_eq m n ≡ false
IsFarCall client n (Lost m) = nat_eq m n ≡ false
IsFarCall client n (Pump m) = ⊤
IsFarCall client n Tick = ⊤

-- ---- after a step in which the first packet of its line was read

abbrev pub after_step : Capacity → MemberChoice → ℕ → Call → Publisher → Broker → Publisher
after_step limits choice now call p b =
    let q = record p { line = taken_up p.line } in
    publisher_told (stepped limits choice now call b) (told limits choice now call b) q

abbrev pub counted : ℕ → List ℕ → List ℕ
counted k numbers = map (λ number. k) numbers

abbrev pub wire_1 : Publisher → ℕ → ℕ → Bool → Packet
wire_1 p id k dup = wire p.client p.contents (shake (PUBLISH_1 id k dup))

abbrev pub wire_2 : Publisher → ℕ → ℕ → Bool → Packet
wire_2 p id k dup = wire p.client p.contents (shake (PUBLISH_2 id k dup))

abbrev pub numbers_of : Capacity → MemberChoice → ℕ → Call → Broker → List ℕ
numbers_of limits choice now call b = filter_map client_number (deeds limits choice now call b)

-- what the publisher saw, with the messages that the step accepted from message k
abbrev pub Becomes : Capacity → MemberChoice → ℕ → Call → ℕ → Publisher → Broker → List ℕ → HopEvent → Type 0
Becomes limits choice now call k p b accepted e =
    seen (accepted ++ counted k (numbers_of limits choice now call b)) (after_step limits choice now call p b)
    (stepped limits choice now call b)
    ≡ step (seen accepted p b) e

-- or what it saw is some events, with no message accepted
abbrev pub IsUnheard : Capacity → MemberChoice → ℕ → Call → Publisher → Broker → List ℕ → Type 0
IsUnheard limits choice now call p b accepted =
    (es : List HopEvent)
    × (seen accepted (after_step limits choice now call p b) (stepped limits choice now call b)
    ≡ run es (seen accepted p b))

-- ---- the line that it gave up

-- the publisher as if it had kept that line
abbrev pub turned_back : Publisher → Publisher
turned_back p =
    let l = p.line in
    record p { line = record l { number = l.old_number; up = l.old; old_number = l.number; old = l.up } }

-- its session is connected there
abbrev pub IsLingering : Publisher → BrokerLine → Session → Broker → Type 0
IsLingering p l s b = IsConnected (turned_back p) l s b

-- after a step in which the first packet of that line was read
abbrev pub after_old_step : Capacity → MemberChoice → ℕ → Call → Publisher → Broker → Publisher
after_old_step limits choice now call p b =
    let q = record p { line = taken_old p.line } in
    publisher_told (stepped limits choice now call b) (told limits choice now call b) q

abbrev pub BecomesOld : Capacity → MemberChoice → ℕ → Call → ℕ → Publisher → Broker → List ℕ → HopEvent → Type 0
BecomesOld limits choice now call k p b accepted e =
    seen (accepted ++ counted k (numbers_of limits choice now call b)) (after_old_step limits choice now call p b)
    (stepped limits choice now call b)
    ≡ step (seen accepted p b) e

abbrev pub IsUnheardOld : Capacity → MemberChoice → ℕ → Call → Publisher → Broker → List ℕ → Type 0
IsUnheardOld limits choice now call p b accepted =
    (es : List HopEvent)
    × (seen accepted (after_old_step limits choice now call p b) (stepped limits choice now call b)
    ≡ run es (seen accepted p b))

-- a PUBLISH or a PUBREL
abbrev pub IsNoConnect : Sent → Type 0
IsNoConnect (shake (CONNECT clean)) = ⊥
IsNoConnect packet = ⊤

-- ---- CONNECT

-- the line that the session is connected on
abbrev pub lines_left : Option BrokerLine → List ℕ
lines_left None = []
lines_left (Some l) = l.number ∷ []

-- the session's line, if it has one, and it isn't the line of the CONNECT
pub record IsTaken (o : Option BrokerLine) (birth n : ℕ) : Type 0 where
  pub connected : (l : BrokerLine) → o ≡ Some l → l.session ≡ Some birth
  pub another : (l : BrokerLine) → o ≡ Some l → nat_eq l.number n ≡ false

-- what is asked of the publisher's session, and of its name
pub record IsKept (client : List ℕ) (s : Session) (b : Broker) : Type 0 where
  pub session : session_at s.birth b.records ≡ Some s
  pub name : s.client ≡ client
  pub only : IsOnly client s.birth b.records
  pub no_will : s.will ≡ None
  pub no_end : s.expiry ≡ never
  pub short : nat_lt 64 (length client) ≡ false
  pub plain : starts_with nat_eq client auto ≡ false

pub record IsAsking (p : Publisher) (l : BrokerLine) (s : Session) (b : Broker) : Type 0 where
  pub number : p.line.number ≡ Some l.number
  pub line : line_at l.number b ≡ Some l
  pub waits : l.session ≡ None
  pub kept : IsKept p.client s b
  pub taken : IsTaken (line_of s.birth b) s.birth l.number
  -- what is under way on the line that was given up is a CONNECT, or the session is connected there, or it is nothing
  pub old : filter_map shaken (unless_closed (is_one_of p.line.old_number (lines_left (line_of s.birth b))) p.line.old)
      ≡ spared (filter_map shaken p.line.old)

-- there is a place for a new session once its own has ended
pub record MayBegin (limits : Capacity) (client : List ℕ) (b : Broker) : Type 0 where
  pub births : HasGivenBirths b.records
  pub within : limits.sessions ≤ SESSION_LIMIT
  pub room : length b.records.sessions ≤ limits.sessions
  pub some : is_empty client ≡ false

abbrev pub connect_packet : Bool → Publisher → Packet
connect_packet clean p = wire p.client p.contents (shake (CONNECT clean))

-- the publisher's line waits, and no session of its name stands
pub record IsFirst (limits : Capacity) (p : Publisher) (l : BrokerLine) (b : Broker) : Type 0 where
  pub number : p.line.number ≡ Some l.number
  pub line : line_at l.number b ≡ Some l
  pub waits : l.session ≡ None
  pub none : session_named p.client b.records ≡ None
  pub births : HasGivenBirths b.records
  pub within : limits.sessions ≤ SESSION_LIMIT
  pub some : is_empty p.client ≡ false
  pub short : nat_lt CLIENT_LIMIT (length p.client) ≡ false
  pub plain : starts_with nat_eq p.client auto ≡ false
  -- the line that it gave up is another one, and a CONNECT is under way there, or nothing
  pub apart : is_one_of p.line.old_number (l.number ∷ []) ≡ false
  pub old : filter_map shaken p.line.old ≡ spared (filter_map shaken p.line.old)

-- its session stands, and the line that it gave up waits: the session is connected on the publisher's line, or nobody
-- is connected there
pub record IsLate (p : Publisher) (l : BrokerLine) (s : Session) (b : Broker) : Type 0 where
  pub number : p.line.old_number ≡ Some l.number
  pub line : line_at l.number b ≡ Some l
  pub waits : l.session ≡ None
  pub kept : IsKept p.client s b
  pub taken : IsTaken (line_of s.birth b) s.birth l.number
  pub apart : is_one_of p.line.number (l.number ∷ []) ≡ false
  pub linked : is_linked p.line.number b ≡ is_one_of p.line.number (lines_left (line_of s.birth b))

abbrev pub hello_packet : Publisher → Packet
hello_packet p = wire p.client p.contents (shake (CONNECT false))

-- ---- its line is lost, and it leaves it

abbrev pub lost_by : Capacity → MemberChoice → ℕ → ℕ → Publisher → Broker → Publisher
lost_by limits choice now n p b =
    let q = publisher_told (stepped limits choice now (Lost n) b) (told limits choice now (Lost n) b) p in
    record q { line = left q.line }

-- ---- it gives its line up

-- not while a Clean Start is carried through
abbrev pub MayGiveUp : Link → Bool → Type 0
MayGiveUp away clean = ⊤
MayGiveUp asked clean = clean ≡ false
MayGiveUp live clean = ⊤

-- ---- it joins by a new line

abbrev pub joined_by : Capacity → MemberChoice → ℕ → Bool → Publisher → Broker → Publisher
joined_by limits choice now clean p b =
    let q = publisher_told (stepped limits choice now NewLine b) (told limits choice now NewLine b) p in
    record q { line = joined (shake (CONNECT clean)) (suc b.given) clean q.line }

-- a CONNECT for which there is a line, by an end that has none, which carries a Clean Start through
pub record MayConnect {U : Type 0} (limits : Capacity) (clean : Bool) (line : Line U) (b : Broker) : Type 0 where
  pub can : can_link limits b ≡ true
  pub given : IsBelow line_number (suc b.given) b.lines
  pub away : line.link ≡ away
  pub carried : line.clean ≡ true → clean ≡ true

abbrev pub MayJoin : Capacity → Bool → Publisher → Broker → Type 0
MayJoin limits clean p b = MayConnect limits clean p.line b

-- ---- runs of a hop

-- the publisher sees what some events of its hop make
pub record IsRun (accepted : List ℕ) (p : Publisher) (b : Broker) : Type 0 where
  pub events : List HopEvent
  pub seen_is : seen accepted p b ≡ after events
