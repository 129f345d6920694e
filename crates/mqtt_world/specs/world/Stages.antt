-- A world that stands: a broker with its ends, strangers and the moment, and what an event makes of it (MQTT 5.0, 4.1 to 4.4).
use Rattle.std.specs.Prelude.{◌≡◌, ℕ, List, map, Option, Some, option_map}
use Rattle.mqtt_keep.specs.declared.keeping.keep.Keep.{Ghosts}
use Rattle.mqtt_world_model.specs.model.Tellings.{Telling, silent}
use Rattle.mqtt_world_model.specs.model.World.{Event, Stranger, World, unlinked}
use Rattle.mqtt_rules.specs.step.Laws.{AreWithin}
use Rattle.mqtt_rules.specs.step.State.{Broker}
use Rattle.mqtt_rules.specs.declared.step.Capacity.{Capacity}
use Rattle.mqtt_world_laws.specs.knowing.Knowing.{HasKnowingEnds}
use Rattle.mqtt_world.specs.scene.Draining.{IsDrainDone}
use Rattle.mqtt_world.specs.scene.Events.{IsDone, IsReached, SpellsAll, world_of}
use Rattle.mqtt_world.specs.scene.Openings.{Reopens}
use Rattle.mqtt_world.specs.scene.Scenes.{IsPlayable, Played, WasSound}

pub record Staged (K : Type 0) : Type 0 where
  pub played : Played K
  pub strangers : List Stranger
  pub now : ℕ
  pub limits : Capacity

-- the world that it is
abbrev pub world_at : {K : Type 0} → Staged K → World
world_at s = world_of s.now s.strangers s.played

abbrev pub broker_of : {K : Type 0} → Staged K → Broker
broker_of s = s.played.engine.running.broker

-- the device of its store has returned what was written, so far
abbrev pub IsSoundAt : {K : Type 0} → Ghosts K → Staged K → Type 0
IsSoundAt g s = g.is_sound s.played.engine.running.keep

-- where it can go on
pub record IsStanding {K : Type 0} (g : Ghosts K) (s : Staged K) : Type 0 where
  pub playable : IsPlayable g s.played
  pub limits : s.limits ≡ s.played.engine.running.limits
  pub within : AreWithin s.limits

-- an event happens there, or can't; over a store whose device is sound after it
pub record Plays {K : Type 0} (g : Ghosts K) (e : Event) (old : Staged K) (t : Option Telling) (new : Staged K) : Type 0 where
  pub standing : IsStanding g new
  pub limits : new.limits ≡ old.limits
  pub sound : WasSound g old.played new.played
  pub reached : IsSoundAt g new → IsReached old.limits (broker_of old) → IsReached old.limits (broker_of new)
  pub done : IsSoundAt g new → SpellsAll old.limits → IsReached old.limits (broker_of old)
      → HasKnowingEnds (world_at old) → IsDone old.limits e t (world_at old) (world_at new)

-- the broker is opened again on what is stored; no line is left, of an end or of a stranger, and nothing is told
pub record Restages {K : Type 0} (g : Ghosts K) (old : Staged K) (t : Option Telling) (new : Staged K) : Type 0 where
  pub reopens : Reopens g old.limits old.now old.played new.played
  pub strangers : new.strangers ≡ map unlinked old.strangers
  pub now : new.now ≡ old.now
  pub limits : new.limits ≡ old.limits
  pub told : t ≡ Some silent

-- ---- a drain

-- it happens in a world that stands, or can't; over a store whose device is sound after it
pub record PlaysDrain {K : Type 0} (g : Ghosts K) (client : List ℕ) (old : Staged K) (x : Option (Telling × ℕ)) (new : Staged K) : Type 0 where
  pub standing : IsStanding g new
  pub limits : new.limits ≡ old.limits
  pub sound : WasSound g old.played new.played
  pub reached : IsSoundAt g new → IsReached old.limits (broker_of old) → IsReached old.limits (broker_of new)
  pub done : IsSoundAt g new → SpellsAll old.limits → IsReached old.limits (broker_of old)
      → HasKnowingEnds (world_at old) → IsDrainDone old.limits client x (world_at old) (world_at new)

-- and it is told, but for its rounds
abbrev pub TellsDrain : {K : Type 0} → Ghosts K → List ℕ → Staged K → Option Telling → Staged K → Type 0
TellsDrain g client old t new = (x : Option (Telling × ℕ)) × (t ≡ option_map (λ (y : Telling × ℕ). y.0) x) × PlaysDrain g client old x new
