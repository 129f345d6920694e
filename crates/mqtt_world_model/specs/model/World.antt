-- The world: a broker, any number of conforming ends and strangers, and the lines between them; what can happen (MQTT
-- 5.0, 4.2 to 4.4).
use Rattle.std.specs.Prelude.{ℕ, zero, suc, ◌^◌, Bool, true, false, cond, not, ◌&&◌, ◌||◌, List, [], ◌∷◌, ◌++◌}
use Rattle.std.specs.Prelude.{length, drop, find, map, nat_eq, nat_lt, nat_le, bytes_eq, Option, Some, None, is_some}
use Rattle.std.specs.Prelude.{is_none, option_map, Ok, Err}
use Rattle.std.specs.List.{list_all, starts_with}
use Rattle.mqtt_base.specs.Values.{is_text}
use Rattle.mqtt_base.specs.declared.limits.TheConstants.{CLIENT_LIMIT, PACKET_LIMIT}
use Rattle.mqtt_base.specs.declared.session.Qos.{Qos as Quality}
use Rattle.mqtt_base.specs.declared.session.Qos.TheVariants.{AtMostOnce, AtLeastOnce, ExactlyOnce}
use Rattle.mqtt_packet.specs.declared.codec.publish.Delivery.{Delivery}
use Rattle.mqtt_packet.specs.declared.codec.publish.Delivery.TheVariants as delivery
use Rattle.mqtt_rules.specs.step.Packets.{size_of}
use Rattle.mqtt_packet.specs.declared.codec.packet.Packet.{Packet}
use Rattle.mqtt_packet.specs.declared.codec.packet.Packet.TheVariants.{Connect}
use Rattle.mqtt_packet.specs.codec.Packets.{is_lawful}
use Rattle.mqtt_packet.specs.stream.Front.{first_of}
use Rattle.mqtt_flow.specs.inbound.Line.{Link, away, asked, live}
use Rattle.mqtt_flow.specs.inbound.Publisher.{CONNECT}
use Rattle.mqtt_flow.specs.outbound.Receiver.{connect}
use Rattle.mqtt_records.specs.state.Records.{nothing}
use Rattle.mqtt_rules.specs.declared.step.Capacity.{Capacity}
use Rattle.mqtt_rules.specs.step.State.{Broker, MemberChoice, later}
use Rattle.mqtt_rules.specs.step.Piece.{Front, first_call}
use Rattle.mqtt_rules.specs.step.Step.{Call, NewLine, Input, Lost, Pump, Tick, can_link, stepped, Outcome, told, unopened}
use Rattle.mqtt_rules.specs.step.Step.{opened}
use Rattle.mqtt_world_model.specs.model.Lines.{Line, stands, left, gives_up, joined, restarted, told_by}
use Rattle.mqtt_world_model.specs.model.Ends.{Draft, Sent, shake, Publisher, new_publisher, publish_with, wire, published}
use Rattle.mqtt_world_model.specs.model.Ends.{publisher_reads, Wish, subscribe_with, Back, answers, asks_for, Receiver}
use Rattle.mqtt_world_model.specs.model.Ends.{new_receiver, wire_back, receiver_reads, goes}
use Rattle.mqtt_records.specs.state.Session.{auto}

-- a stranger sends any bytes on its line; those that are not answered yet are held
pub record Stranger : Type 0 where
  pub name : List ℕ
  pub number : Option ℕ
  pub held : List ℕ

pub record World : Type 0 where
  pub broker : Broker
  pub now : ℕ  -- the moment that is handed in
  pub publishers : List Publisher
  pub receivers : List Receiver
  pub strangers : List Stranger

-- nothing is stored, and nobody is there
abbrev pub start : World
start = record { broker = unopened 0 nothing; now = 0; publishers = []; receivers = []; strangers = [] }

-- ---- who is there

abbrev pub publisher_named : List ℕ → World → Option Publisher
publisher_named client w = find (λ p. bytes_eq p.client client) w.publishers

abbrev pub receiver_named : List ℕ → World → Option Receiver
receiver_named client w = find (λ r. bytes_eq r.client client) w.receivers

abbrev pub stranger_named : List ℕ → World → Option Stranger
stranger_named name w = find (λ s. bytes_eq s.name name) w.strangers

abbrev pub is_end : List ℕ → World → Bool
is_end client w = is_some (publisher_named client w) || is_some (receiver_named client w)

-- one end changed
abbrev pub with_publisher : List ℕ → (Publisher → Publisher) → World → World
with_publisher client f w = record w { publishers = map (λ p. cond (bytes_eq p.client client) (f p) p) w.publishers }

abbrev pub with_receiver : List ℕ → (Receiver → Receiver) → World → World
with_receiver client f w = record w { receivers = map (λ r. cond (bytes_eq r.client client) (f r) r) w.receivers }

abbrev pub with_stranger : List ℕ → (Stranger → Stranger) → World → World
with_stranger name f w = record w { strangers = map (λ s. cond (bytes_eq s.name name) (f s) s) w.strangers }

-- its line changed, whichever end it is
abbrev pub with_line : List ℕ → (Line Sent → Line Sent) → (Line Back → Line Back) → World → World
with_line client f g w =
    with_publisher client (λ p. record p { line = f p.line })
    (with_receiver client (λ r. record r { line = g r.line }) w)

-- ---- a step of the broker

pub record Setting : Type 0 where
  pub limits : Capacity
  pub choice : MemberChoice  -- the members of groups that the broker chooses

abbrev pub publisher_told : Broker → Outcome → Publisher → Publisher
publisher_told b out p = record p { line = told_by b out p.line }

abbrev pub receiver_told : Broker → Outcome → Receiver → Receiver
receiver_told b out r = record r { line = told_by b out r.line }

-- the call, with its outputs on the lines
abbrev pub calls : Setting → Call → World → World
calls set call w =
    let b = stepped set.limits set.choice w.now call w.broker in
    let out = told set.limits set.choice w.now call w.broker in
    record w {
      broker = b;
      publishers = map (publisher_told b out) w.publishers;
      receivers = map (receiver_told b out) w.receivers;
    }

abbrev pub calls_if : Setting → Option Call → World → World
calls_if set None w = w
calls_if set (Some call) w = calls set call w

abbrev pub publisher_restarted : Publisher → Publisher
publisher_restarted p = record p { line = restarted p.line }

abbrev pub receiver_restarted : Receiver → Receiver
receiver_restarted r = record r { line = restarted r.line }

abbrev pub unlinked : Stranger → Stranger
unlinked s = record s { number = None; held = [] }

-- the broker stops, and is opened on what is stored: no line is left
abbrev pub restarts : Setting → World → World
restarts set w = record w {
  broker = opened set.limits set.choice w.now w.broker.records;
  publishers = map publisher_restarted w.publishers;
  receivers = map receiver_restarted w.receivers;
  strangers = map unlinked w.strangers;
}

-- ---- what the broker is asked for

pub data Asking : Type 0 where
  to_broker : (client : List ℕ) → Asking  -- the first packet of the end's line is read
  old_to_broker : (client : List ℕ) → Asking  -- and of the line that it gave up last
  break : (client : List ℕ) → Asking
  pump : (client : List ℕ) → Asking
  tick : Asking
  stranger : (name bytes : List ℕ) → Asking

pub data Event : Type 0 where
  publisher : (client : List ℕ) → Event
  receiver : (client : List ℕ) (window aliases : ℕ) → Event
  connect_end : (client : List ℕ) (clean : Bool) → Event
  give_up : (client : List ℕ) → Event
  publish : (client : List ℕ) (d : Draft) → Event
  subscribe : (client : List ℕ) (w : Wish) → Event
  to_end : (client : List ℕ) → Event
  clock : (wait : ℕ) → Event
  ask : (a : Asking) → Event
  restart : Event
  stop_before : (a : Asking) → Event  -- the broker stops before the commit of the first step, and restarts
  stop_after : (a : Asking) → Event  -- or after it; nothing goes out

-- ---- the first step that is asked for

abbrev pub input_on : Option ℕ → List Packet → Option Call
input_on None packets = None
input_on (Some n) [] = None
input_on (Some n) (packet ∷ rest) = Some (Input n packet)

abbrev pub lost_on : Option ℕ → Option Call
lost_on number = option_map Lost number

abbrev pub pump_on : Option ℕ → Option Call
pump_on number = option_map Pump number

-- what an end has under way, as packets; and the number of its line
pub record View : Type 0 where
  pub number : Option ℕ
  pub up : List Packet
  pub old_number : Option ℕ
  pub old : List Packet

abbrev pub view_line : {U : Type 0} → (U → Packet) → Line U → View
view_line f l = record { number = l.number; up = map f l.up; old_number = l.old_number; old = map f l.old }

abbrev pub view_publisher : Publisher → View
view_publisher p = view_line (wire p.client p.contents) p.line

abbrev pub view_receiver : Receiver → View
view_receiver r = view_line (wire_back r.client r.window r.aliases) r.line

abbrev pub nobody : View
nobody = record { number = None; up = []; old_number = None; old = [] }

abbrev pub view_by : Option Publisher → Option Receiver → View
view_by (Some p) r = view_publisher p
view_by None (Some r) = view_receiver r
view_by None None = nobody

abbrev pub view_of : List ℕ → World → View
view_of client w = view_by (publisher_named client w) (receiver_named client w)

-- what a stranger's bytes ask of the broker, on its line
abbrev pub call_on : Option ℕ → List ℕ → Option Call
call_on None held = None
call_on (Some n) held = first_call n held

-- what is held after it; nothing on a line that has a fault
abbrev pub held_by : Front → List ℕ → List ℕ
held_by (Ok None) bytes = bytes
held_by (Ok (Some x)) bytes = drop x.1 bytes
held_by (Err fault) bytes = []

abbrev pub held_after : List ℕ → List ℕ
held_after bytes = held_by (first_of bytes) bytes

-- bytes come on a stranger's line, which is linked at its first use
abbrev pub linked_at : Setting → Bool → List ℕ → List ℕ → World → World
linked_at set true name bytes w = with_stranger name (λ s. record s { held = s.held ++ bytes }) w
linked_at set false name bytes w =
    let number = cond (can_link set.limits w.broker) (Some (suc w.broker.given)) None in
    let s : Stranger = record { name = name; number = number; held = bytes } in
    record (calls set NewLine w) { strangers = w.strangers ++ s ∷ [] }

abbrev pub comes : Setting → List ℕ → List ℕ → World → World
comes set name bytes w = linked_at set (is_some (stranger_named name w)) name bytes w

abbrev pub call_of_stranger : Option Stranger → Option Call
call_of_stranger None = None
call_of_stranger (Some s) = call_on s.number s.held

-- the world in which the first step is asked for: the packet is taken off its line, the bytes have come
abbrev pub taken_up : {U : Type 0} → Line U → Line U
taken_up l = record l { up = drop 1 l.up }

abbrev pub taken_old : {U : Type 0} → Line U → Line U
taken_old l = record l { old = drop 1 l.old }

abbrev pub before : Setting → Asking → World → World
before set (to_broker client) w = with_line client taken_up taken_up w
before set (old_to_broker client) w = with_line client taken_old taken_old w
before set (break client) w = w
before set (pump client) w = w
before set tick w = w
before set (stranger name bytes) w = comes set name bytes w

abbrev pub call_of : Setting → Asking → World → Option Call
call_of set (to_broker client) w = let v = view_of client w in input_on v.number v.up
call_of set (old_to_broker client) w = let v = view_of client w in input_on v.old_number v.old
call_of set (break client) w = lost_on (view_of client w).number
call_of set (pump client) w = pump_on (view_of client w).number
call_of set tick w = Some Tick
call_of set (stranger name bytes) w = call_of_stranger (stranger_named name (comes set name bytes w))

-- the first step, with its outputs
abbrev pub first_step : Setting → Asking → World → World
first_step set a w = calls_if set (call_of set a w) (before set a w)

-- ---- the rest of what is asked for: a broken line is left by its end; a stranger's further packets are answered

abbrev pub next_held : List ℕ → World → World
next_held name w = with_stranger name (λ s. record s { held = held_after s.held }) w

abbrev pub answers_rest : Setting → ℕ → List ℕ → World → World
answers_rest set zero name w = w
answers_rest set (suc more) name w =
    answers_rest set more name (calls_if set (call_of_stranger (stranger_named name w)) (next_held name w))

abbrev pub held_count : Option Stranger → ℕ
held_count None = 0
held_count (Some s) = length s.held

abbrev pub asks : Setting → Asking → World → World
asks set (to_broker client) w = first_step set (to_broker client) w
asks set (old_to_broker client) w = first_step set (old_to_broker client) w
asks set (break client) w = with_line client left left (first_step set (break client) w)
asks set (pump client) w = first_step set (pump client) w
asks set tick w = first_step set tick w
asks set (stranger name bytes) w =
    let c = comes set name bytes w in
    answers_rest set (held_count (stranger_named name c)) name c

-- ---- what the ends do

-- an end joins by a new line and CONNECT, if there is a line for it
abbrev pub links : Setting → Option ℕ → List ℕ → Bool → World → World
links set None client clean w = w
links set (Some n) client clean w =
    with_publisher client (λ p. record p { line = joined (shake (CONNECT clean)) n clean p.line })
    (with_receiver client (λ r. record r { line = joined (answers (connect clean)) n clean r.line })
    (calls set NewLine w))

abbrev pub next_line : Capacity → Broker → Option ℕ
next_line limits b = cond (can_link limits b) (Some (suc b.given)) None

-- its line stands at the broker
abbrev pub is_open_line : {U : Type 0} → Line U → World → Bool
is_open_line l w = stands l.number w.broker

abbrev pub asks_wish : Bool → Wish → Receiver → Receiver
asks_wish stands w r = record r { asking = true; line = goes stands (asks_for w ∷ []) r.line }

-- an end reads the first packet under way to it
abbrev pub end_reads : List ℕ → World → World
end_reads client w =
    with_publisher client (λ p. publisher_reads (is_open_line p.line w) p.line.down p)
    (with_receiver client (λ r. receiver_reads (is_open_line r.line w) r.line.down r) w)

-- ---- what happens

abbrev pub happens : Setting → Event → World → World
happens set (publisher client) w = record w { publishers = w.publishers ++ new_publisher client ∷ [] }
happens set (receiver client window aliases) w =
    record w { receivers = w.receivers ++ new_receiver client window aliases w.broker.records.births ∷ [] }
happens set (connect_end client clean) w = links set (next_line set.limits w.broker) client clean w
happens set (give_up client) w = with_line client (λ l. gives_up l.link l) (λ l. gives_up l.link l) w
happens set (publish client d) w = with_publisher client (λ p. published (is_open_line p.line w) d p) w
happens set (subscribe client x) w = with_receiver client (λ r. asks_wish (is_open_line r.line w) x r) w
happens set (to_end client) w = end_reads client w
happens set (clock wait) w = record w { now = later w.now wait }
happens set (ask a) w = asks set a w
happens set restart w = restarts set w
happens set (stop_before a) w = restarts set (before set a w)
happens set (stop_after a) w = restarts set (first_step set a w)

-- ---- events that are bad: nothing happens

-- a name that is not one's own, that the broker would not take, or that is no text (1.5.4)
abbrev pub is_bad_name : List ℕ → Bool
is_bad_name client =
    nat_eq (length client) 0
    || (nat_lt CLIENT_LIMIT (length client) || (starts_with nat_eq client auto || not (is_text client)))

abbrev pub link_by : Option Publisher → Option Receiver → Option Link
link_by (Some p) r = Some p.line.link
link_by None (Some r) = Some r.line.link
link_by None None = None

abbrev pub link_of : List ℕ → World → Option Link
link_of client w = link_by (publisher_named client w) (receiver_named client w)

abbrev pub is_away : Option Link → Bool
is_away None = false
is_away (Some away) = true
is_away (Some asked) = false
is_away (Some live) = false

abbrev pub has_line : Option Link → Bool
has_line None = false
has_line (Some away) = false
has_line (Some asked) = true
has_line (Some live) = true

abbrev pub may_ask_on : Link → Bool → Bool
may_ask_on away asking = false
may_ask_on asked asking = false
may_ask_on live asking = not asking

abbrev pub may_ask : Option Receiver → Bool
may_ask None = false
may_ask (Some r) = may_ask_on r.line.link r.asking

-- a packet that the broker is handed is lawful, and not larger than a line lets through; its topic or filter is a text
abbrev pub delivery_at : Quality → Delivery
delivery_at AtMostOnce = delivery.AtMostOnce
delivery_at AtLeastOnce = delivery.AtLeastOnce false 1
delivery_at ExactlyOnce = delivery.ExactlyOnce false 1

abbrev pub is_input : Packet → Bool
is_input packet = is_lawful packet && nat_le (size_of packet) PACKET_LIMIT

abbrev pub message_packet : Draft → Packet
message_packet d = publish_with (delivery_at d.qos) d.content

abbrev pub is_message : Draft → Bool
is_message d = is_text d.content.topic && is_input (message_packet d)

-- a Subscription Identifier fits a Variable Byte Integer; that it isn't 0 is a law of the packet (3.8.2.1.2)
abbrev pub fits_number : Option ℕ → Bool
fits_number None = true
fits_number (Some n) = nat_lt n (2 ^ 28)

abbrev pub is_wish : Wish → Bool
is_wish x = fits_number x.identifier && (is_text x.filter && is_input (subscribe_with x))

-- a Receive Maximum is two bytes, and not 0 (3.1.2.11.3)
abbrev pub is_window : ℕ → Bool
is_window window = nat_lt 0 window && nat_lt window (2 ^ 16)

-- and so is a Topic Alias Maximum, which may be 0 (3.1.2.11.5)
abbrev pub are_aliases : ℕ → Bool
are_aliases aliases = nat_lt aliases (2 ^ 16)

-- what a receiver's CONNECT can say
abbrev pub may_take : ℕ → ℕ → Bool
may_take window aliases = is_window window && are_aliases aliases

-- a stranger's CONNECT that names an end
abbrev pub names_end : Packet → World → Bool
names_end (Connect c) w = is_end c.client_identifier w
names_end packet w = false

abbrev pub front_names : Front → World → Bool
front_names (Ok None) w = false
front_names (Ok (Some x)) w = names_end x.0 w
front_names (Err fault) w = false

abbrev pub bytes_name : ℕ → List ℕ → World → Bool
bytes_name zero bytes w = false
bytes_name (suc more) bytes w = front_names (first_of bytes) w || bytes_name more (held_after bytes) w

abbrev pub bytes_held : Option Stranger → List ℕ
bytes_held None = []
bytes_held (Some s) = s.held

-- what can go over a line (2.1)
abbrev pub are_bytes : List ℕ → Bool
are_bytes bytes = list_all (λ b. nat_lt b 256) bytes

abbrev pub is_bad_asking : Asking → World → Bool
is_bad_asking (to_broker client) w = not (is_end client w)
is_bad_asking (old_to_broker client) w = not (is_end client w)
is_bad_asking (break client) w = not (has_line (link_of client w))
is_bad_asking (pump client) w = not (is_end client w)
is_bad_asking tick w = false
is_bad_asking (stranger name bytes) w =
    let all = bytes_held (stranger_named name w) ++ bytes in not (are_bytes bytes) || bytes_name (length all) all w

abbrev pub is_bad : Event → World → Bool
is_bad (publisher client) w = is_bad_name client || is_end client w
is_bad (receiver client window aliases) w =
    is_bad_name client || (is_end client w || not (may_take window aliases))
is_bad (connect_end client clean) w = not (is_away (link_of client w))
is_bad (give_up client) w = not (has_line (link_of client w))
is_bad (publish client d) w = is_none (publisher_named client w) || not (is_message d)
is_bad (subscribe client x) w = not (may_ask (receiver_named client w)) || not (is_wish x)
is_bad (to_end client) w = not (is_end client w)
is_bad (clock wait) w = false
is_bad (ask a) w = is_bad_asking a w
is_bad restart w = false
is_bad (stop_before a) w = is_bad_asking a w
is_bad (stop_after a) w = is_bad_asking a w

abbrev pub step : Setting → Event → World → World
step set e w = cond (is_bad e w) w (happens set e w)
