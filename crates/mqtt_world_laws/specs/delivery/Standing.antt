-- Where a receiver is in a run of the world: what it sees is a run of its hop, its session and its lines are its own, and all
-- others have other lines (MQTT 5.0, 3.1.2.4, 3.1.4, 4.4).
use Rattle.std.specs.Prelude.{◌≡◌, ℕ, ◌≤◌, ⊤, ◌⊎◌, false, true, List, [], ◌∷◌, ◌++◌, map, Option, Some, None, is_some}
use Rattle.std.specs.List.{AllByRecursion}
use Rattle.mqtt_base.specs.declared.session.CopyId.{CopyId}
use Rattle.mqtt_flow.specs.outbound.Receiver.{connect, puback, pubrec, pubcomp}
use Rattle.mqtt_world_laws.specs.receiver.Apart.{AreToldApart}
use Rattle.mqtt_world_laws.specs.receiver.Own.{IsAwaiting, IsInStep}
use Rattle.mqtt_world_laws.specs.receiver.Served.{IsTidy}
use Rattle.mqtt_flow.specs.inbound.Publisher.{CONNECT}
use Rattle.mqtt_world_model.specs.model.Ends.{Back, Publisher, Receiver, Sent, answers, asks_for, no_content, plain, shake}
use Rattle.mqtt_world_model.specs.model.Lines.{Line, is_one_of}
use Rattle.mqtt_world_model.specs.model.Seats.{HasPlace, IsApart, IsNamed, Seat}
use Rattle.mqtt_world_model.specs.model.World.{Asking, Stranger, World, break, old_to_broker, publisher_named, pump, receiver_named}
use Rattle.mqtt_world_model.specs.model.World.{stranger, tick, to_broker}
use Rattle.mqtt_rules.specs.step.Laws.{AreWithin}
use Rattle.mqtt_rules.specs.step.State.{Broker}
use Rattle.mqtt_rules.specs.declared.step.Capacity.{Capacity}
use Rattle.mqtt_world_laws.specs.acceptance.Fair.{IsSteady}
use Rattle.mqtt_world_laws.specs.acceptance.LineNumbers.{HasApart, IsApartFrom}

-- ---- its lines, as those of a publisher that sends the same CONNECTs, and something else if it sends something else

abbrev pub packet_like : Back → Sent
packet_like (answers (connect clean)) = shake (CONNECT clean)
packet_like (answers (puback i code)) = plain no_content
packet_like (answers (pubrec i code)) = plain no_content
packet_like (answers (pubcomp i code)) = plain no_content
packet_like (asks_for w) = plain no_content

abbrev pub line_like : Line Back → Line Sent
line_like l = record {
  link = l.link;
  clean = l.clean;
  number = l.number;
  up = map packet_like l.up;
  down = l.down;
  old_number = l.old_number;
  old = map packet_like l.old;
  known = l.known;
}

abbrev pub publisher_like : Receiver → Publisher
publisher_like r = record { client = r.client; fates = []; contents = []; unsent = []; line = line_like r.line }

-- ---- the receiver

-- it awaits its session, or is in step with the one of this birth
abbrev pub GoesAlong : Option ℕ → ℕ → List CopyId → List ℕ → Receiver → Broker → Type 0
GoesAlong None largest ids ns r b = IsAwaiting largest ids ns r b
GoesAlong (Some birth) largest ids ns r b = IsInStep largest ids birth ns r b

-- what it sees is a run of its hop, with copies of these identities; these are the numbers of the lines that it had
pub record IsPlaced (largest : ℕ) (ids : List CopyId) (ns : List ℕ) (r : Receiver) (b : Broker) : Type 0 where
  pub birth : Option ℕ
  pub line : ℕ  -- the one that its session may be connected on; 0, which no line has, if it never was
  pub along : GoesAlong birth largest ids ns r b
  pub seat : Seat birth line (publisher_like r) b
  pub its_line : is_one_of (Some line) (0 ∷ ns) ≡ true
  pub apart : IsApart r.line.number r.line.old_number
  pub named : IsNamed r.client
  pub told : AreToldApart ids b.records

-- ---- the others

-- no line of this number was ever its own, and 0 is the number of none
abbrev pub IsOutOf : List ℕ → ℕ → Type 0
IsOutOf ns n = is_one_of (Some n) (0 ∷ ns) ≡ false

-- a line of this number was given, and not to the receiver
abbrev pub IsAnothers : List ℕ → ℕ → Option ℕ → Type 0
IsAnothers ns given x = IsApartFrom (IsOutOf ns) given x

-- so were those of another end's line
abbrev pub HasOthers : {U : Type 0} → List ℕ → ℕ → Line U → Type 0
HasOthers ns given l = HasApart (IsOutOf ns) given l

abbrev pub IsOtherPublisher : List ℕ → ℕ → Publisher → Type 0
IsOtherPublisher ns given p = HasOthers ns given p.line

abbrev pub IsOtherReceiver : List ℕ → List ℕ → ℕ → Receiver → Type 0
IsOtherReceiver client ns given r = (r.client ≡ client) ⊎ HasOthers ns given r.line

abbrev pub IsOtherStranger : List ℕ → ℕ → Stranger → Type 0
IsOtherStranger ns given s = IsAnothers ns given s.number

-- the broker is in order, and these lines are nobody's but this receiver's, whose name no publisher has, and whose session has a
-- place
pub record IsAround (client : List ℕ) (limits : Capacity) (ns : List ℕ) (w : World) : Type 0 where
  pub within : AreWithin limits
  pub steady : IsSteady w.broker
  pub tidy : IsTidy limits w.broker
  pub known : (n : ℕ) → is_one_of (Some n) ns ≡ true → n ≤ w.broker.given
  pub publishers : AllByRecursion (IsOtherPublisher ns w.broker.given) w.publishers
  pub receivers : AllByRecursion (IsOtherReceiver client ns w.broker.given) w.receivers
  pub strangers : AllByRecursion (IsOtherStranger ns w.broker.given) w.strangers
  pub alone : is_some (receiver_named client w) ≡ true → publisher_named client w ≡ None
  pub place : is_some (receiver_named client w) ≡ true → HasPlace limits client w.broker.records

-- ---- together

-- who hasn't come yet has no copies and no lines
abbrev pub IsSeen : ℕ → List CopyId → List ℕ → Broker → Option Receiver → Type 0
IsSeen largest ids ns b None = (ids ≡ []) × (ns ≡ [])
IsSeen largest ids ns b (Some r) = IsPlaced largest ids ns r b

-- with copies of these identities, and these lines
pub record StandsWith (client : List ℕ) (largest : ℕ) (limits : Capacity) (ids : List CopyId) (ns : List ℕ) (w : World)
    : Type 0 where
  pub around : IsAround client limits ns w
  pub seen : IsSeen largest ids ns w.broker (receiver_named client w)

-- these copies, and some more behind them, or none
abbrev pub BeginWith : List CopyId → List CopyId → Type 0
BeginWith first ids = (more : List CopyId) × (ids ≡ first ++ more)

-- with copies that begin with these, and whatever lines
pub record Stands (first : List CopyId) (client : List ℕ) (largest : ℕ) (limits : Capacity) (w : World) : Type 0 where
  pub ids : List CopyId
  pub grown : BeginWith first ids
  pub ns : List ℕ
  pub standing : StandsWith client largest limits ids ns w

-- ---- stops

-- what the broker is asked for is made for others than this client, or for none; whoever's line is lost
abbrev pub IsForOthers : List ℕ → Asking → Type 0
IsForOthers client (to_broker name) = name ≡ client → ⊥
IsForOthers client (old_to_broker name) = name ≡ client → ⊥
IsForOthers client (break name) = ⊤
IsForOthers client (pump name) = name ≡ client → ⊥
IsForOthers client tick = ⊤
IsForOthers client (stranger name bytes) = ⊤
