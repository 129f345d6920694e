-- The bytes of a stranger, as they come to a broker piece by piece (MQTT 5.0, 2.1, 4.1, 4.13).
use Rattle.std.specs.Prelude.{◌≡◌, ◌≤◌, ◌<◌, ◌⊎◌, ℕ, Bool, false, true, List, [], length, take, drop, None, is_some, Ok}
use Rattle.mqtt_keep.specs.declared.keeping.keep.Keep.{Ghosts}
use Rattle.mqtt_packet.specs.stream.Front.{first_of}
use Rattle.mqtt_world_model.specs.model.Tellings.{Telling, silent}
use Rattle.mqtt_world_model.specs.model.World.{Event, World, ask, is_bad, stranger}
use Rattle.mqtt_world_model.specs.single_steps.Unrolled.{AreAlike}
use Rattle.mqtt_world.specs.script_laws.Scripted.{Happens}
use Rattle.mqtt_world.specs.script_laws.Turns.{IsReopened, IsTurn, both_tell}
use Rattle.mqtt_world_ends.specs.strangers.Fronts.{IsNextPiece}
use Rattle.mqtt_world_ends.specs.strangers.Strangers.{held_of, named}
use Rattle.mqtt_world_laws.specs.knowing.Knowing.{HasKnowingEnds}
use Rattle.mqtt_world.specs.scene.Events.{IsReached, SpellsAll}
use Rattle.mqtt_world.specs.scene.Scenes.{WasSound}
use Rattle.mqtt_world.specs.world.Stages.{IsSoundAt, IsStanding, Staged, broker_of, world_at}

-- what is said of brokers and of worlds is said over a store whose device is sound after it

-- ---- a stranger is there, as if it had been linked before, and had sent nothing, if it comes first

pub record Welcomes {K : Type 0} (g : Ghosts K) (name : List ℕ) (old new : Staged K) : Type 0 where
  pub standing : IsStanding g new
  pub limits : new.limits ≡ old.limits
  pub sound : WasSound g old.played new.played
  pub reached : IsSoundAt g new → IsReached old.limits (broker_of old) → IsReached old.limits (broker_of new)
  pub there : is_some (named name new.strangers) ≡ true
  pub same : held_of name new.strangers ≡ held_of name old.strangers
  pub waits : first_of (held_of name new.strangers) ≡ Ok None
  pub were_alike : AreAlike name (world_at old)
  pub alike : AreAlike name (world_at new)
  pub knowing : IsSoundAt g new → SpellsAll old.limits → IsReached old.limits (broker_of old) → HasKnowingEnds (world_at old)
      → HasKnowingEnds (world_at new)
  pub good : IsSoundAt g new → SpellsAll old.limits → IsReached old.limits (broker_of old) → HasKnowingEnds (world_at old)
      → (piece : List ℕ)
      → is_bad (ask (stranger name piece)) (world_at old) ≡ false → is_bad (ask (stranger name piece)) (world_at new) ≡ false
  pub turn : IsSoundAt g new → SpellsAll old.limits → IsReached old.limits (broker_of old) → HasKnowingEnds (world_at old)
      → (piece : List ℕ) (t : Telling) (after : World)
      → is_bad (ask (stranger name piece)) (world_at old) ≡ false
      → IsTurn old.limits (ask (stranger name piece)) t (world_at new) after
      → IsTurn old.limits (ask (stranger name piece)) t (world_at old) after

-- ---- the first piece of what comes is one turn of the world: it ends with the first packet, or nothing is behind it

pub record TakesPiece {K : Type 0} (g : Ghosts K) (name bytes : List ℕ) (old : Staged K) (taken : ℕ) (t : Telling) (new : Staged K) : Type 0 where
  pub standing : IsStanding g new
  pub limits : new.limits ≡ old.limits
  pub sound : WasSound g old.played new.played
  pub reached : IsSoundAt g new → IsReached old.limits (broker_of old) → IsReached old.limits (broker_of new)
  pub within : taken ≤ length bytes
  pub next : IsNextPiece (held_of name old.strangers) (take taken bytes) (drop taken bytes)
  pub further : (drop taken bytes ≡ []) ⊎ (0 < taken)
  pub alike : AreAlike name (world_at old)
  pub turn : IsSoundAt g new → SpellsAll old.limits → IsReached old.limits (broker_of old) → HasKnowingEnds (world_at old)
      → is_bad (ask (stranger name (take taken bytes))) (world_at old) ≡ false
      → IsTurn old.limits (ask (stranger name (take taken bytes))) t (world_at old) (world_at new)

-- and what it tells is told behind what was told before
pub record TellsPiece {K : Type 0} (g : Ghosts K) (name bytes : List ℕ) (old : Staged K) (taken : ℕ) (before after : Telling) (new : Staged K) : Type 0 where
  pub t : Telling
  pub takes : TakesPiece g name bytes old taken t new
  pub told : after ≡ both_tell before t

-- ---- a stop after the commit of what is asked for, or before it, leads to a world that is to be opened again

pub record StopsAt {K : Type 0} (g : Ghosts K) (e : Event) (old new : Staged K) : Type 0 where
  pub standing : IsStanding g new
  pub limits : new.limits ≡ old.limits
  pub sound : WasSound g old.played new.played
  pub reached : IsSoundAt g new → IsReached old.limits (broker_of old) → IsReached old.limits (broker_of new)
  pub done : IsSoundAt g new → SpellsAll old.limits → IsReached old.limits (broker_of old) → HasKnowingEnds (world_at old)
      → (after : World)
      → IsReopened old.limits (world_at new) after → Happens old.limits e silent (world_at old) after

-- or it can't happen, and nothing changed
abbrev pub MayStopAt : {K : Type 0} → Ghosts K → Event → Staged K → Bool → Staged K → Type 0
MayStopAt g e old true new = StopsAt g e old new
MayStopAt g e old false new = (is_bad e (world_at old) ≡ true) × (new ≡ old)
