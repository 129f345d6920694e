-- How copies end in a drain of a receiver (MQTT 5.0, 3.1.2.4, 3.1.2.11, 3.3.2.3.3, 4.3).
use Rattle.std.specs.Prelude.{◌≡◌, ℕ, ⊤, true, List, [], ◌∷◌, Option, Some}
use Rattle.std.specs.List.{AllByRecursion}
use Rattle.mqtt_base.specs.declared.session.Ending.{Ending}
use Rattle.mqtt_base.specs.declared.session.Ending.TheVariants.{Taken, Refused, Expired, TooLarge, SessionEnded, Dropped}
use Rattle.mqtt_packet.specs.declared.codec.packet.Packet.TheVariants as packets
use Rattle.mqtt_packet.specs.declared.connect.connect.Connect.{Connect}
use Rattle.mqtt_packet.specs.declared.subscribe.subscribe.Subscribe.{Subscribe}
use Rattle.mqtt_rules.specs.step.State.{MemberChoice}
use Rattle.mqtt_rules.specs.step.Step.{Call, Input, at_moment}
use Rattle.mqtt_rules.specs.declared.step.Capacity.{Capacity}
use Rattle.mqtt_world_model.specs.model.Run.{Turn, run}
use Rattle.mqtt_world_model.specs.model.World.{World}
use Rattle.mqtt_world_laws.specs.receiver.Drains.{Doing, drain_turns, drains, happens, turns_of}
use Rattle.mqtt_world_laws.specs.causes.Causes.{HasCause}
use Rattle.mqtt_world_laws.specs.causes.Endings.{EndAt, ends_over}

-- CONNECT of this client with Clean Start 1 is read (3.1.2.4)
pub record StartsClean (client : List ℕ) (call : Option Call) : Type 0 where
  pub number : ℕ
  pub packet : Connect
  pub asked : call ≡ Some (Input number (packets.Connect packet))
  pub clean : packet.clean_start ≡ true
  pub named : packet.client_identifier ≡ client

-- SUBSCRIBE is read (3.8)
pub record Subscribes (call : Option Call) : Type 0 where
  pub number : ℕ
  pub packet : Subscribe
  pub asked : call ≡ Some (Input number (packets.Subscribe packet))

-- a copy of the receiver is taken, or expires, or is too large for it; it ends with its session as a CONNECT with Clean Start
-- is read, or makes way in a full queue as a SUBSCRIBE is; and none is refused
abbrev pub EndsBy : List ℕ → Option Call → Ending → Type 0
EndsBy client call Taken = ⊤
EndsBy client call Refused = ⊥
EndsBy client call Expired = ⊤
EndsBy client call TooLarge = ⊤
EndsBy client call SessionEnded = StartsClean client call
EndsBy client call Dropped = Subscribes call

-- the moment of what is asked of the broker in this world
abbrev pub moment_of : World → ℕ
moment_of w = (at_moment w.now w.broker).now

-- an end is of the receiver's copies, by one of these, at the drain's moment, and for its cause
pub record IsOfDrain (client : List ℕ) (moment : ℕ) (x : EndAt) : Type 0 where
  pub its : x.who.client ≡ client
  pub by : EndsBy client x.asked.call x.ending
  pub at : x.broker.now ≡ moment
  pub cause : HasCause x

abbrev pub AreOfDrain : List ℕ → Capacity → List Turn → World → Type 0
AreOfDrain client limits ts w = AllByRecursion (IsOfDrain client (moment_of w)) (ends_over limits ts w)

-- each end of a drain that takes so many rounds at most
abbrev pub EndOfDrain : Capacity → MemberChoice → List ℕ → ℕ → World → Type 0
EndOfDrain limits choice client most w = AreOfDrain client limits (drain_turns limits choice client most w) w

-- and of each drain of a script, from where the script has come to
abbrev pub EndWhere : Capacity → Doing → World → Type 0
EndWhere limits (happens t) w = ⊤
EndWhere limits (drains choice client most) w = AreOfDrain client limits (turns_of limits (drains choice client most) w) w

abbrev pub AllDrainsEndSo : Capacity → List Doing → World → Type 0
AllDrainsEndSo limits [] w = ⊤
AllDrainsEndSo limits (d ∷ ds) w = EndWhere limits d w × AllDrainsEndSo limits ds (run limits (turns_of limits d w) w)
