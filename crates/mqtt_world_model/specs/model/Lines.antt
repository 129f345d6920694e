-- A line between an end and the broker as the end sees it, with the line that the end gave up last (MQTT 5.0, 4.2,
-- 4.4).
use Rattle.std.specs.Prelude.{ℕ, Bool, true, false, cond, List, [], ◌∷◌, ◌++◌, filter_map, nat_eq, Option, Some, None}
use Rattle.std.specs.Prelude.{is_some}
use Rattle.std.specs.List.{list_any}
use Rattle.mqtt_base.specs.declared.session.CopyId.{CopyId}
use Rattle.mqtt_packet.specs.declared.codec.publish.Delivery.{Delivery}
use Rattle.mqtt_packet.specs.declared.codec.publish.Delivery.TheVariants as delivery
use Rattle.mqtt_packet.specs.declared.codec.packet.Packet.{Packet}
use Rattle.mqtt_packet.specs.declared.codec.packet.Packet.TheVariants.{Publish}
use Rattle.mqtt_flow.specs.inbound.Line.{Link, away, asked, live}
use Rattle.mqtt_topic.specs.names.Aliases.{AliasTable, no_aliases}
use Rattle.mqtt_rules.specs.step.State.{Broker, line_at}
use Rattle.mqtt_rules.specs.step.Step.{Outcome, copy_of}
use Rattle.mqtt_rules.specs.telling.Meaning.{after_reading_all, on_line}

-- a packet under way to an end; a PUBLISH of QoS 1 or 2 with its copy, which isn't on the wire
pub record Down : Type 0 where
  pub packet : Packet
  pub copy : Option CopyId

-- U is what the end sends
pub record Line (U : Type 0) : Type 0 where
  pub link : Link
  pub clean : Bool  -- its last CONNECT had Clean Start 1, and no CONNACK was read since
  pub number : Option ℕ  -- the broker's number of its line
  pub up : List U
  pub down : List Down
  pub old_number : Option ℕ  -- the line that it gave up last, and what is under way there
  pub old : List U
  pub known : AliasTable  -- what aliases stand for to the end, once it has read all that is under way to it (3.3.2.3.4)

abbrev pub no_line : {U : Type 0} → Line U
no_line = record {
  link = away;
  clean = false;
  number = None;
  up = [];
  down = [];
  old_number = None;
  old = [];
  known = no_aliases 0;
}

-- of an end that takes so many topic aliases (3.1.2.11.5)
abbrev pub no_line_taking : {U : Type 0} → ℕ → Line U
no_line_taking aliases = record no_line { known = no_aliases aliases }

-- the broker still has the line; what goes out on another is lost
abbrev pub stands : Option ℕ → Broker → Bool
stands None b = false
stands (Some n) b = is_some (line_at n b)

-- ---- what the end does

-- it leaves its line, and what is under way there is lost
abbrev pub left : {U : Type 0} → Line U → Line U
left l = record l { link = away; number = None; up = []; down = [] }

-- it gives its line up, and the broker may still read it
abbrev pub given_up : {U : Type 0} → Line U → Line U
given_up l = record l { link = away; number = None; up = []; down = []; old_number = l.number; old = l.up }

abbrev pub gives_up : {U : Type 0} → Link → Line U → Line U
gives_up away l = l
gives_up asked l = given_up l
gives_up live l = given_up l

-- nothing is under way to the end, and no alias stands for anything: an alias is of one Network Connection (3.3.2.3.4)
abbrev pub emptied : {U : Type 0} → Line U → Line U
emptied l = record l { down = []; known = no_aliases l.known.max }

-- CONNECT on a new line
abbrev pub joined : {U : Type 0} → U → ℕ → Bool → Line U → Line U
joined connect n clean l = record (emptied l) { link = asked; clean = clean; number = Some n; up = connect ∷ [] }

-- the broker was restarted
abbrev pub restarted : {U : Type 0} → Line U → Line U
restarted l = record (emptied l) { link = away; number = None; up = []; old_number = None; old = [] }

-- ---- what a step of the broker does to it

-- the copy that a PUBLISH is of
abbrev pub copy_by : ℕ → Broker → Delivery → Option CopyId
copy_by n b delivery.AtMostOnce = None
copy_by n b (delivery.AtLeastOnce dup id) = copy_of n id b
copy_by n b (delivery.ExactlyOnce dup id) = copy_of n id b

abbrev pub copy_in : ℕ → Broker → Packet → Option CopyId
copy_in n b (Publish p) = copy_by n b p.delivery
copy_in n b packet = None

abbrev pub down_on : ℕ → Broker → ℕ × Packet → Option Down
down_on n b x = cond (nat_eq x.0 n) (Some (record { packet = x.1; copy = copy_in n b x.1 })) None

abbrev pub sent_to : Option ℕ → Broker → List (ℕ × Packet) → List Down
sent_to None b outputs = []
sent_to (Some n) b outputs = filter_map (down_on n b) outputs

abbrev pub is_one_of : Option ℕ → List ℕ → Bool
is_one_of None ns = false
is_one_of (Some n) ns = list_any (λ m. nat_eq m n) ns

-- what aliases stand for to the end, once it has read what goes out to it
abbrev pub known_by : Option ℕ → List (ℕ × Packet) → AliasTable → AliasTable
known_by None wires known = known
known_by (Some n) wires known = after_reading_all known (on_line n wires)

-- what is under way to the broker on a line that it closes isn't read
abbrev pub unless_closed : {U : Type 0} → Bool → List U → List U
unless_closed true packets = []
unless_closed false packets = packets

-- after a step that leaves the broker b and gives this outcome
abbrev pub told_by : {U : Type 0} → Broker → Outcome → Line U → Line U
told_by b out l = record l {
  up = unless_closed (is_one_of l.number out.closed) l.up;
  down = l.down ++ sent_to l.number b out.outputs;
  old = unless_closed (is_one_of l.old_number out.closed) l.old;
  known = known_by l.number out.wires l.known;
}
