-- What an event of a script makes of a broker and its ends, in the world in which they stand (MQTT 5.0, 4.1 to 4.4).
use Rattle.std.specs.Prelude.{◌≡◌, ⊤, ℕ, false, List, Option, Some, None}
use Rattle.mqtt_packet.specs.parts.Faults.{answer_to}
use Rattle.mqtt_packet.specs.declared.parts.fault.Fault.{Fault}
use Rattle.mqtt_keep.specs.lawful.Lawful.{IsLawful}
use Rattle.mqtt_keep.specs.declared.keeping.keep.Keep.{Ghosts}
use Rattle.mqtt_records.specs.declared.state.records.Records.{Records}
use Rattle.mqtt_world_model.specs.model.Tellings.{Telling}
use Rattle.mqtt_world_model.specs.model.World.{Event, Stranger, World}
use Rattle.mqtt_rules.specs.step.Contents.{IsTaken}
use Rattle.mqtt_rules.specs.step.Piece.{code_of}
use Rattle.mqtt_rules.specs.step.State.{Broker, MemberChoice}
use Rattle.mqtt_rules.specs.step.Step.{Call, NewLine, Input, BadInput, Lost, Pump, Tick, is_opening_spent, is_step_spent, opened, stepped, told}
use Rattle.mqtt_rules.specs.declared.step.Capacity.{Capacity}
use Rattle.mqtt_broker.specs.engine.Serving.{Serving}
use Rattle.mqtt_world.specs.clients.Ends.{Ends}
use Rattle.mqtt_world.specs.clients.Telling.{AreSpelled}
use Rattle.mqtt_world.specs.script_laws.Scripted.{Happens, IsBadEvent}
use Rattle.mqtt_rules.specs.spelling.Sending.{HaveSentPhases}
use Rattle.mqtt_world_laws.specs.knowing.Knowing.{HasKnowingEnds}
use Rattle.mqtt_world.specs.scene.Scenes.{IsPlayable, Played, WasSound}

-- ---- the brokers that there are: what opens on lawful records with identifiers of two bytes, what steps lead to, and what opens again on what they left

-- a packet that is taken, or the code of a fault
abbrev pub TakesPacket : Call → Type 0
TakesPacket NewLine = ⊤
TakesPacket (Input line packet) = IsTaken packet
TakesPacket (BadInput line is_connect code) = (fault : Fault) × (code ≡ code_of (answer_to fault))
TakesPacket (Lost line) = ⊤
TakesPacket (Pump line) = ⊤
TakesPacket Tick = ⊤

pub data IsReached (limits : Capacity) : Broker → Type 0 where
  opens : (choice : MemberChoice) (now : ℕ) (r : Records) → IsLawful r → HaveSentPhases r → is_opening_spent limits choice now r ≡ false
      → IsReached limits (opened limits choice now r)
  opens_again : (choice : MemberChoice) (now : ℕ) (b : Broker) → IsReached limits b
      → is_opening_spent limits choice now b.records ≡ false → IsReached limits (opened limits choice now b.records)
  steps : (choice : MemberChoice) (now : ℕ) (call : Call) (b : Broker) → IsReached limits b → TakesPacket call
      → is_step_spent limits choice now call b ≡ false → IsReached limits (stepped limits choice now call b)

-- whatever such a broker sends has a spelling, so that its bytes are read as it (2.1)
abbrev pub SpellsAll : Capacity → Type 0
SpellsAll limits =
    (choice : MemberChoice) (now : ℕ) (call : Call) (b : Broker) → IsReached limits b → TakesPacket call
    → is_step_spent limits choice now call b ≡ false → AreSpelled (told limits choice now call b)

abbrev pub played : {K : Type 0} → Serving K → Ends → Played K
played engine ends = record { engine = engine; ends = ends }

-- ---- a world, with these strangers, at a moment

abbrev pub world_of : {K : Type 0} → ℕ → List Stranger → Played K → World
world_of now strangers s = record {
  broker = s.engine.running.broker;
  now = now;
  publishers = s.ends.publishers;
  receivers = s.ends.receivers;
  strangers = strangers;
}

-- the event happens, and this is what it tells; or it can't happen there, and nothing changed
abbrev pub IsDone : Capacity → Event → Option Telling → World → World → Type 0
IsDone limits e None w after = IsBadEvent e w × (after ≡ w)
IsDone limits e (Some t) w after = Happens limits e t w after

-- ---- what an event leaves that leaves strangers alone, at a moment, whatever strangers there are; over a store whose device is
-- sound after it

pub record Does {K : Type 0} (g : Ghosts K) (now : ℕ) (e : Event) (old : Played K) (t : Option Telling) (new : Played K) : Type 0 where
  pub playable : IsPlayable g new
  pub limits : new.engine.running.limits ≡ old.engine.running.limits
  pub sound : WasSound g old new
  pub reached : g.is_sound new.engine.running.keep → IsReached old.engine.running.limits old.engine.running.broker
      → IsReached old.engine.running.limits new.engine.running.broker
  pub done : g.is_sound new.engine.running.keep → SpellsAll old.engine.running.limits
      → IsReached old.engine.running.limits old.engine.running.broker → (strangers : List Stranger) → HasKnowingEnds (world_of now strangers old)
      → IsDone old.engine.running.limits e t (world_of now strangers old) (world_of now strangers new)
