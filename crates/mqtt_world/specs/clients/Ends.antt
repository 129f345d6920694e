-- All ends of a world, and the worlds in which they stand (MQTT 5.0, 4.2).
use Rattle.std.specs.Prelude.{◌≡◌, ℕ, Bool, true, false, List, cond, bytes_eq, Option, None, Some}
use Rattle.mqtt_packet.specs.declared.codec.packet.Packet.{Packet}
use Rattle.mqtt_rules.specs.step.State.{Broker}
use Rattle.mqtt_rules.specs.step.Step.{Call, Input}
use Rattle.mqtt_flow.specs.inbound.Publisher.{CONNECT}
use Rattle.mqtt_flow.specs.outbound.Receiver.{connect}
use Rattle.mqtt_world_model.specs.model.Lines.{Line, joined, stands}
use Rattle.mqtt_world_model.specs.model.Ends.{Back, Draft, Publisher, Receiver, Sent, Wish, answers, published, publisher_reads}
use Rattle.mqtt_world_model.specs.model.Ends.{receiver_reads, shake}
use Rattle.mqtt_world_model.specs.model.World.{Asking, View, World, asks_wish, input_on, old_to_broker, to_broker, with_publisher}
use Rattle.mqtt_world_model.specs.model.World.{with_receiver}

pub record Ends : Type 0 where
  pub publishers : List Publisher
  pub receivers : List Receiver

-- a world in which these ends stand, and no others
abbrev pub in_world : Ends → World → World
in_world e w = record w { publishers = e.publishers; receivers = e.receivers }

-- in any world, what stands there afterwards is what f makes of what stood there
abbrev pub Become : (World → World) → Ends → Ends → Type 0
Become f old new = (w : World) → in_world new w ≡ f (in_world old w)

-- in any world of this broker
abbrev pub BecomeAt : Broker → (World → World) → Ends → Ends → Type 0
BecomeAt b f old new = (w : World) → w.broker ≡ b → in_world new w ≡ f (in_world old w)

-- ---- one end of many

abbrev pub on_publisher_line : (Line Sent → Line Sent) → Publisher → Publisher
on_publisher_line f p = record p { line = f p.line }

abbrev pub on_receiver_line : (Line Back → Line Back) → Receiver → Receiver
on_receiver_line f r = record r { line = f r.line }

-- what f makes of it, if it has the name
abbrev pub if_publisher : List ℕ → (Publisher → Publisher) → Publisher → Publisher
if_publisher client f p = cond (bytes_eq p.client client) (f p) p

abbrev pub if_receiver : List ℕ → (Receiver → Receiver) → Receiver → Receiver
if_receiver client f r = cond (bytes_eq r.client client) (f r) r

-- ---- what an end does

-- it joins by CONNECT on a new line (3.1)
abbrev pub publisher_joined : ℕ → Bool → Publisher → Publisher
publisher_joined number clean p = record p { line = joined (shake (CONNECT clean)) number clean p.line }

abbrev pub receiver_joined : ℕ → Bool → Receiver → Receiver
receiver_joined number clean r = record r { line = joined (answers (connect clean)) number clean r.line }

abbrev pub joins : ℕ → List ℕ → Bool → World → World
joins number client clean w =
    with_publisher client (publisher_joined number clean) (with_receiver client (receiver_joined number clean) w)

-- what it sends is lost on a line that the broker no longer has
abbrev pub published_at : Draft → Broker → Publisher → Publisher
published_at d b p = published (stands p.line.number b) d p

abbrev pub asks_at : Wish → Broker → Receiver → Receiver
asks_at x b r = asks_wish (stands r.line.number b) x r

abbrev pub publisher_reads_at : Broker → Publisher → Publisher
publisher_reads_at b p = publisher_reads (stands p.line.number b) p.line.down p

abbrev pub receiver_reads_at : Broker → Receiver → Receiver
receiver_reads_at b r = receiver_reads (stands r.line.number b) r.line.down r

-- ---- what is under way

-- what is asked of the broker when the first packet of an end's line is read, or of the line that it gave up last
abbrev pub reading : Bool → List ℕ → Asking
reading false client = to_broker client
reading true client = old_to_broker client

-- a packet on its line
abbrev pub input_of : ℕ × Packet → Call
input_of x = Input x.0 x.1

abbrev pub paired : Option ℕ → Option Packet → Option Call
paired None packet = None
paired (Some number) None = None
paired (Some number) (Some packet) = Some (Input number packet)

abbrev pub asked_by : Bool → View → Option Call
asked_by false v = input_on v.number v.up
asked_by true v = input_on v.old_number v.old
