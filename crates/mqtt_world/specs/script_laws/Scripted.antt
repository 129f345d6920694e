-- What a run of a script is: each event comes to turns of the world, of one step of the broker each (MQTT 5.0, 2.1, 4.1 to
-- 4.4).
use Rattle.std.specs.Prelude.{◌≡◌, ◌⊎◌, ℕ, Bool, true, false, List, [], ◌∷◌, ◌++◌, Option, Some, None}
use Rattle.mqtt_packet.specs.declared.codec.packet.Packet.{Packet}
use Rattle.mqtt_rules.specs.step.Contents.{IsTaken}
use Rattle.mqtt_rules.specs.declared.step.Capacity.{Capacity}
use Rattle.mqtt_rules.specs.step.Step.{Call, NewLine, Input, BadInput, Lost, Pump, Tick}
use Rattle.mqtt_world_model.specs.model.Run.{Turn, deeds_over, run}
use Rattle.mqtt_world_model.specs.model.Tellings.{Telling, silent, telling}
use Rattle.mqtt_world_model.specs.model.World as world
use Rattle.mqtt_world_model.specs.model.World.{World, is_bad, input_on, view_of}
use Rattle.mqtt_world_ends.specs.peers.Publishers.{draft_of}
use Rattle.mqtt_world_ends.specs.peers.Receivers.{wish_of}
use Rattle.mqtt_script.specs.declared.event.Asking.{Asking}
use Rattle.mqtt_script.specs.declared.event.Asking.TheVariants as asking
use Rattle.mqtt_script.specs.declared.event.Event.{Event}
use Rattle.mqtt_script.specs.declared.event.Event.TheVariants.{Publisher, Receiver, Connect, GiveUp, Publish, Subscribe}
use Rattle.mqtt_script.specs.declared.event.Event.TheVariants.{ToBroker, ToEnd, Break, Pump as PumpEvent, Clock, Tick as TickEvent}
use Rattle.mqtt_script.specs.declared.event.Event.TheVariants.{Restart, StopBefore, StopAfter, Stranger, Drain}
use Rattle.mqtt_world_laws.specs.receiver.Drains.{is_bad_drain}
use Rattle.mqtt_world_model.specs.single_steps.Unrolled.{Unrolls}
use Rattle.mqtt_world_laws.specs.acceptance.Spending.{run_spends}
use Rattle.mqtt_world.specs.script_laws.Drains.{AreTurnsOfDrain, DrainHappens}
use Rattle.mqtt_world.specs.script_laws.Turns.{events_of}

-- ---- the events of the world that a script's mean

-- on the end's line, or on the one that it gave up last
abbrev pub reading : Bool → List ℕ → world.Asking
reading false client = world.to_broker client
reading true client = world.old_to_broker client

abbrev pub asking_of : Asking → world.Asking
asking_of (asking.ToBroker client old) = reading old client
asking_of (asking.Break client) = world.break client
asking_of (asking.Pump client) = world.pump client
asking_of asking.Tick = world.tick
asking_of (asking.Stranger name bytes) = world.stranger name bytes

-- a drain is none of them
abbrev pub event_of : Event → Option world.Event
event_of (Publisher client) = Some (world.publisher client)
event_of (Receiver client window aliases) = Some (world.receiver client window aliases)
event_of (Connect client clean_start) = Some (world.connect_end client clean_start)
event_of (GiveUp client) = Some (world.give_up client)
event_of (Publish client draft) = Some (world.publish client (draft_of draft))
event_of (Subscribe client wish) = Some (world.subscribe client (wish_of wish))
event_of (ToBroker client old) = Some (world.ask (reading old client))
event_of (ToEnd client) = Some (world.to_end client)
event_of (Break client) = Some (world.ask (world.break client))
event_of (PumpEvent client) = Some (world.ask (world.pump client))
event_of (Clock wait) = Some (world.clock wait)
event_of TickEvent = Some (world.ask world.tick)
event_of Restart = Some world.restart
event_of (StopBefore a) = Some (world.stop_before (asking_of a))
event_of (StopAfter a) = Some (world.stop_after (asking_of a))
event_of (Stranger name bytes) = Some (world.ask (world.stranger name bytes))
event_of (Drain client) = None

-- ---- what an event comes to

-- the broker's packets are lost, and nobody hears of what it did, if it stops or restarts
abbrev pub is_heard : world.Event → Bool
is_heard (world.publisher client) = true
is_heard (world.receiver client window aliases) = true
is_heard (world.connect_end client clean) = true
is_heard (world.give_up client) = true
is_heard (world.publish client d) = true
is_heard (world.subscribe client x) = true
is_heard (world.to_end client) = true
is_heard (world.clock wait) = true
is_heard (world.ask a) = true
is_heard world.restart = false
is_heard (world.stop_before a) = false
is_heard (world.stop_after a) = false

abbrev pub tells_if : Bool → Telling → Telling
tells_if true t = t
tells_if false t = silent

-- what the turns tell to which an event comes
abbrev pub tells_in : Capacity → world.Event → List Turn → World → Telling
tells_in limits e turns w = tells_if (is_heard e) (telling (deeds_over limits turns w))

-- an event that is not bad comes to turns of one step each, of which none spends a number
pub record Happens (limits : Capacity) (e : world.Event) (t : Telling) (w after : World) : Type 0 where
  pub good : is_bad e w ≡ false
  pub turns : List Turn
  pub unrolls : Unrolls e w (events_of turns)
  pub unspent : run_spends limits turns w ≡ false
  pub is : after ≡ run limits turns w
  pub told : t ≡ tells_in limits e turns w

-- an event of a script: it happens as the world's that it means, or it is a drain
pub data Passes (limits : Capacity) (e : Event) (t : Telling) (w after : World) : Type 0 where
  as_event : (x : world.Event) → event_of e ≡ Some x → Happens limits x t w after → Passes limits e t w after
  as_drain : (client : List ℕ) → e ≡ Drain client → DrainHappens limits client t w after → Passes limits e t w after

-- a script's events happen, one after the other, with what each tells
abbrev pub RunsTo : Capacity → List Event → List Telling → World → World → Type 0
RunsTo limits [] tells w after = (tells ≡ []) × (after ≡ w)
RunsTo limits (e ∷ es) [] w after = ⊥
RunsTo limits (e ∷ es) (t ∷ ts) w after =
    (mid : World) × Passes limits e t w mid × RunsTo limits es ts mid after

-- ---- an event that can't happen

-- the packet that an asking has the broker read
abbrev pub packet_of : Option Call → Option Packet
packet_of None = None
packet_of (Some NewLine) = None
packet_of (Some (Input n packet)) = Some packet
packet_of (Some (BadInput n is_connect code)) = None
packet_of (Some (Lost n)) = None
packet_of (Some (Pump n)) = None
packet_of (Some Tick) = None

abbrev pub front_of : world.Asking → World → Option Packet
front_of (world.to_broker client) w = let v = view_of client w in packet_of (input_on v.number v.up)
front_of (world.old_to_broker client) w = let v = view_of client w in packet_of (input_on v.old_number v.old)
front_of (world.break client) w = None
front_of (world.pump client) w = None
front_of world.tick w = None
front_of (world.stranger name bytes) w = None

abbrev pub IsRefused : Option Packet → Type 0
IsRefused None = ⊥
IsRefused (Some packet) = IsTaken packet → ⊥

-- the broker would not take the packet in front
abbrev pub HasBadFront : world.Event → World → Type 0
HasBadFront (world.ask a) w = IsRefused (front_of a w)
HasBadFront (world.stop_before a) w = IsRefused (front_of a w)
HasBadFront (world.stop_after a) w = IsRefused (front_of a w)
HasBadFront e w = ⊥

abbrev pub IsBadEvent : world.Event → World → Type 0
IsBadEvent e w = (is_bad e w ≡ true) ⊎ HasBadFront e w

-- an event of a script: it is bad as the world's that it means, or the broker would not take the packet in front; or it is a drain
-- that is bad
pub data IsBadHere (e : Event) (w : World) : Type 0 where
  bad_event : (x : world.Event) → event_of e ≡ Some x → IsBadEvent x w → IsBadHere e w
  bad_drain : (client : List ℕ) → e ≡ Drain client → is_bad_drain client w ≡ true → IsBadHere e w

-- an event of a script that is bad: as the world's that it means, or as a drain
pub data IsBad (e : Event) (w : World) : Type 0 where
  bad_as_event : (x : world.Event) → event_of e ≡ Some x → is_bad x w ≡ true → IsBad e w
  bad_as_drain : (client : List ℕ) → e ≡ Drain client → is_bad_drain client w ≡ true → IsBad e w

-- ---- turns to which events come

-- the turns of one event: those of the world's that it means, or of a drain
pub data AreTurnsFor (limits : Capacity) (e : Event) (turns : List Turn) (w : World) : Type 0 where
  of_event : (x : world.Event) → event_of e ≡ Some x → is_bad x w ≡ false → Unrolls x w (events_of turns)
      → AreTurnsFor limits e turns w
  of_drain : (client : List ℕ) → e ≡ Drain client → AreTurnsOfDrain limits client turns w → AreTurnsFor limits e turns w

-- the turns of each event, one event after the other, from where those before it have come to
abbrev pub AreTurnsOf : Capacity → List Event → List Turn → World → Type 0
AreTurnsOf limits [] turns w = turns ≡ []
AreTurnsOf limits (e ∷ es) turns w =
    (first : List Turn) × (rest : List Turn) × AreTurnsFor limits e first w × (turns ≡ first ++ rest)
    × AreTurnsOf limits es rest (run limits first w)

-- some turns to which the events come lead from the one world to the other, and spend no number
pub record IsRunOf (limits : Capacity) (es : List Event) (w after : World) : Type 0 where
  pub turns : List Turn
  pub are : AreTurnsOf limits es turns w
  pub unspent : run_spends limits turns w ≡ false
  pub is : after ≡ run limits turns w
