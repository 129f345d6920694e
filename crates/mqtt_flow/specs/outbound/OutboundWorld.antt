-- One session that runs by its session rules, a conforming receiver, the line between them, and the line that was given
-- up last (MQTT 5.0, 4.3, 4.4).
use Rattle.std.specs.Prelude.{ℕ, suc, Bool, true, false, List, [], ◌∷◌, ◌++◌, map, nat_eq, if◌then◌else◌, Option, Some, None, Ok, Err}
use Rattle.mqtt_base.specs.declared.Ending.{Ending}
use Rattle.mqtt_base.specs.declared.Ending.TheVariants.{SessionEnded}
use Rattle.mqtt_base.specs.declared.Qos.{Qos}
use Rattle.mqtt_base.specs.declared.Qos.TheVariants.{AtMostOnce, AtLeastOnce, ExactlyOnce}
use Rattle.mqtt_base.specs.Codes.{success, identifier_not_found}
use Rattle.mqtt_flow.specs.declared.outbound.entry.Entry.{Entry}
use Rattle.mqtt_flow.specs.declared.outbound.entry.QueuedCopy.{QueuedCopy}
use Rattle.mqtt_flow.specs.declared.outbound.entry.QueueLimits.{QueueLimits}
use Rattle.mqtt_flow.specs.declared.outbound.entry.Turn.{Turn}
use Rattle.mqtt_flow.specs.declared.outbound.entry.Turn.TheVariants.{Send, Resend, Release, Outgrow, Repeat, Unknown, Leave}
use Rattle.mqtt_flow.specs.outbound.Queue.{entering, marked}
use Rattle.mqtt_flow.specs.outbound.Outbound as rules
use Rattle.mqtt_flow.specs.outbound.Outbound.{has_room, way_made, expired, unsent, resumed_with}
use Rattle.mqtt_flow.specs.inbound.Line.{away, sent_on}
use Rattle.mqtt_flow.specs.outbound.Receiver.{Body, Output, connack, no_connack, publish, pubrel, disconnect, Answer, connect, puback, pubrec, pubcomp, Hop, spared, leaves, down_comes, gives_up, joins}

-- what a copy carries
pub record TopicAndPayload : Type 0 where
  pub topic : List ℕ
  pub payload : List ℕ

-- a copy that entered stands in the queue, or has ended; its number is its place in the list of all copies
pub data Lot : Type 0 where
  standing : (e : Entry) (m : TopicAndPayload) → Lot
  past : (ending : Ending) (e : Entry) (m : TopicAndPayload) → Lot

-- the session's queue
abbrev pub queue_of : List Lot → List Entry
queue_of [] = []
queue_of (standing e m ∷ ls) = e ∷ queue_of ls
queue_of (past ending e m ∷ ls) = queue_of ls

abbrev pub World : Type 0
World = Hop (List Lot)

-- a copy has a handshake at QoS 1 and 2 (4.3)
abbrev pub is_granted : Qos → Bool
is_granted AtMostOnce = false
is_granted AtLeastOnce = true
is_granted ExactlyOnce = true

abbrev pub is_twice : Qos → Bool
is_twice AtMostOnce = false
is_twice AtLeastOnce = false
is_twice ExactlyOnce = true

abbrev pub body : Entry → TopicAndPayload → Body
body e m = record { twice = is_twice e.copy.qos; topic = m.topic; payload = m.payload }

-- a turn moves the copy at its place: this is `after`, with the copies that have ended beside the queue
abbrev pub ended_by : Bool → Ending → Entry → TopicAndPayload → Lot
ended_by true ending e m = past ending e m
ended_by false ending e m = standing e m

abbrev pub lot_after : Turn → Lot → Lot
lot_after t (past ending e m) = past ending e m
lot_after (Send place i) (standing e m) = standing (marked (Send place i) e) m
lot_after (Resend place i) (standing e m) = standing (marked (Resend place i) e) m
lot_after (Release place i order) (standing e m) = standing (marked (Release place i order) e) m
lot_after (Outgrow place i order) (standing e m) = standing (marked (Outgrow place i order) e) m
lot_after (Repeat i) (standing e m) = standing e m
lot_after (Unknown i) (standing e m) = standing e m
lot_after (Leave place ending) (standing e m) = ended_by (nat_eq e.place place) ending e m

abbrev pub lots_after : Turn → List Lot → List Lot
lots_after t lots = map (lot_after t) lots

-- its packets: a PUBLISH carries what the copy at that place does
abbrev pub sent_at : Bool → Output → List Output → List Output
sent_at true p rest = p ∷ []
sent_at false p rest = rest

abbrev pub sends : Bool → ℕ → ℕ → ℕ → List Lot → List Output
sends dup i place n [] = []
sends dup i place n (standing e m ∷ ls) = sent_at (nat_eq e.place place) (publish i n dup (body e m)) (sends dup i place (suc n) ls)
sends dup i place n (past ending e m ∷ ls) = sends dup i place (suc n) ls

abbrev pub packets : Turn → List Lot → List Output
packets (Send place i) lots = sends false i place 0 lots
packets (Resend place i) lots = sends true i place 0 lots
packets (Release place i order) lots = pubrel i success ∷ []
packets (Outgrow place i order) lots = pubrel i success ∷ []
packets (Repeat i) lots = pubrel i success ∷ []
packets (Unknown i) lots = pubrel i identifier_not_found ∷ []
packets (Leave place ending) lots = []

abbrev pub all_packets : List Turn → List Lot → List Output
all_packets [] lots = []
all_packets (t ∷ ts) lots = packets t lots ++ all_packets ts lots

abbrev pub told : List Output → World → World
told [] w = w
told (p ∷ ps) w = record w { down = sent_on w.linked w.down (p ∷ ps) }

abbrev pub take_turn : Turn → World → World
take_turn t w = told (packets t w.copies) (record w { copies = lots_after t w.copies })

abbrev pub take_turns : List Turn → World → World
take_turns [] w = w
take_turns (t ∷ ts) w = take_turns ts (take_turn t w)

-- a copy of QoS 1 or 2 enters the queue of a session that stands and has room
abbrev pub pushes : QueuedCopy → TopicAndPayload → World → World
pushes copy m w = record w { copies = w.copies ++ standing (entering copy (queue_of w.copies)) m ∷ [] }

abbrev pub enters : Bool → Bool → Bool → QueueLimits → ℕ → QueuedCopy → TopicAndPayload → World → World
enters false granted room limits since copy m w = w
enters true false room limits since copy m w = w
enters true true false limits since copy m w = w
enters true true true limits since copy m w = pushes copy m (take_turns (way_made limits since (queue_of w.copies)) w)

-- a session that ends, and one that is connected anew
abbrev pub cut : Lot → Lot
cut (standing e m) = past SessionEnded e m
cut (past ending e m) = past ending e m

abbrev pub renewed : Lot → Lot
renewed (standing e m) = standing (unsent e) m
renewed (past ending e m) = past ending e m

abbrev pub made_new : List Answer → World → World
made_new rest w = record w { up = rest; old = spared w.old; stands = true; linked = true; copies = map cut w.copies; down = w.down ++ connack false ∷ [] }

abbrev pub resumed : List Answer → World → World
resumed rest w = record w { up = rest; old = spared w.old; linked = true; copies = map renewed w.copies; down = w.down ++ connack true ∷ all_packets (resumed_with (queue_of w.copies)) w.copies }

-- CONNECT: by whether the session stands, Clean Start, and whether there is no room for a new one (3.1.2.4)
abbrev pub connects : Bool → Bool → Bool → List Answer → World → World
connects false c true rest w = record w { up = rest; down = w.down ++ no_connack ∷ [] }
connects false c false rest w = made_new rest w
connects true true r rest w = made_new rest w
connects true false r rest w = resumed rest w

-- the same from the line that was given up. The receiver's line is closed if the session is connected there
abbrev pub connects_old : Bool → Bool → Bool → List Answer → World → World
connects_old false c true rest w = record w { old = rest }
connects_old false c false rest w = record w { old = rest; stands = true; copies = map cut w.copies }
connects_old true true r rest w = record w { old = rest; copies = map cut w.copies; down = sent_on w.linked w.down (disconnect ∷ []); up = if w.linked then [] else w.up; linked = false }
connects_old true false r rest w = record w { old = rest; copies = map renewed w.copies; down = sent_on w.linked w.down (disconnect ∷ []); up = if w.linked then [] else w.up; linked = false }

-- an answer is a turn, or none; a protocol error closes the line
abbrev pub settles : Option Turn → World → World
settles None w = w
settles (Some t) w = take_turn t w

abbrev pub replied : rules.Answer → List Answer → World → World
replied (Err fault) rest w = record w { up = []; linked = false; down = sent_on w.linked w.down (disconnect ∷ []) }
replied (Ok t) rest w = settles t (record w { up = rest })

-- what goes out on the line that was given up is lost
abbrev pub settles_old : Option Turn → World → World
settles_old None w = w
settles_old (Some t) w = record w { copies = lots_after t w.copies }

abbrev pub replied_old : rules.Answer → List Answer → World → World
replied_old (Err fault) rest w = record w { old = [] }
replied_old (Ok t) rest w = settles_old t (record w { old = rest })

-- the broker reads a packet of the receiver's line
abbrev pub up_comes : Bool → List Answer → World → World
up_comes r [] w = w
up_comes r (connect c ∷ rest) w = connects w.stands c r rest w
up_comes r (puback i code ∷ rest) w = replied (rules.puback i code (queue_of w.copies)) rest w
up_comes r (pubrec i code ∷ rest) w = replied (rules.pubrec i code (queue_of w.copies)) rest w
up_comes r (pubcomp i code ∷ rest) w = replied (rules.pubcomp i (queue_of w.copies)) rest w

-- and of the line that was given up
abbrev pub old_comes : Bool → List Answer → World → World
old_comes r [] w = w
old_comes r (connect c ∷ rest) w = connects_old w.stands c r rest w
old_comes r (puback i code ∷ rest) w = replied_old (rules.puback i code (queue_of w.copies)) rest w
old_comes r (pubrec i code ∷ rest) w = replied_old (rules.pubrec i code (queue_of w.copies)) rest w
old_comes r (pubcomp i code ∷ rest) w = replied_old (rules.pubcomp i (queue_of w.copies)) rest w

-- what can happen. A stop of the broker is `restart`, before the commit of an event in its place, after it behind it
pub data Event : Type 0 where
  enter : (limits : QueueLimits) (since : ℕ) (copy : QueuedCopy) (m : TopicAndPayload) → Event
  expire : (now : ℕ) → Event
  pump : (window now : ℕ) → Event
  to_broker : (refuse : Bool) → Event
  old_to_broker : (refuse : Bool) → Event
  to_end : Event
  give_up : Event
  break_line : Event
  make_line : (clean : Bool) → Event
  close : Event
  close_old : Event
  restart : Event

-- `largest` is the receiver's Maximum Packet Size, on each of its lines
abbrev pub step : ℕ → World → Event → World
step largest w (enter limits since copy m) = enters w.stands (is_granted copy.qos) (has_room limits since (queue_of w.copies)) limits since copy m w
step largest w (expire now) = take_turns (expired now (queue_of w.copies)) w
step largest w (pump window now) = take_turns (rules.pump (record { window = window; largest = largest; now = now }) (queue_of w.copies)) w
step largest w (to_broker r) = up_comes r w.up w
step largest w (old_to_broker r) = old_comes r w.old w
step largest w to_end = down_comes w.down w
step largest w give_up = gives_up w.clean w.link w
step largest w break_line = leaves w
step largest w (make_line c) = joins w.link c w
step largest w close = record w { up = []; linked = false; down = sent_on w.linked w.down (disconnect ∷ []) }
step largest w close_old = record w { old = [] }
step largest w restart = record w { link = away; linked = false; up = []; down = []; old = []; copies = map renewed w.copies }

abbrev pub start : World
start = record { copies = []; stands = false; linked = false; link = away; clean = false; up = []; down = []; old = []; kept = []; ledger = []; reads = [] }

abbrev pub run : ℕ → List Event → World → World
run largest [] w = w
run largest (e ∷ es) w = run largest es (step largest w e)
