-- What is asked of a broker, if anything is, and what it tells (MQTT 5.0, 4.1).
use Rattle.std.specs.Prelude.{◌≡◌, ⊤, ℕ, false, List, Option, Some, None}
use Rattle.mqtt_keep.specs.declared.keeping.keep.Keep.{Ghosts}
use Rattle.mqtt_world_model.specs.model.Run.{read_if, the_deeds}
use Rattle.mqtt_world_model.specs.model.Tellings.{Telling, telling}
use Rattle.mqtt_world_model.specs.model.World.{Stranger, World, calls_if}
use Rattle.mqtt_rules.specs.step.State.{MemberChoice}
use Rattle.mqtt_rules.specs.step.Step.{Call}
use Rattle.mqtt_world_laws.specs.acceptance.Spending.{spending}
use Rattle.mqtt_world.specs.script_laws.Turns.{both_tell, by_choice}
use Rattle.mqtt_world_laws.specs.knowing.Knowing.{HasKnowingEnds, TakesAsEnds}
use Rattle.mqtt_world.specs.scene.Events.{IsReached, SpellsAll, world_of}
use Rattle.mqtt_world.specs.scene.Scenes.{IsPlayable, Played, WasSound}

-- the call, if there is one, brings no CONNECT on the line of an end that takes more aliases than that end (3.1.2.11.5)
abbrev pub TakesAsEndsIf : Option Call → World → Type 0
TakesAsEndsIf None w = ⊤
TakesAsEndsIf (Some call) w = TakesAsEnds call w

-- ---- the broker is asked for this, if for anything: for some choice of members that spends no number, whatever strangers
-- there are

pub record IsTrulyAsked {K : Type 0} (now : ℕ) (call : Option Call) (old : Played K) (t : Telling) (new : Played K) : Type 0 where
  pub choice : MemberChoice
  pub reached : IsReached old.engine.running.limits old.engine.running.broker → IsReached old.engine.running.limits new.engine.running.broker
  pub unspent : (strangers : List Stranger)
      → read_if spending (by_choice old.engine.running.limits choice) call (world_of now strangers old) ≡ false
  pub told : (strangers : List Stranger)
      → t ≡ telling (read_if the_deeds (by_choice old.engine.running.limits choice) call (world_of now strangers old))
  pub done : SpellsAll old.engine.running.limits → IsReached old.engine.running.limits old.engine.running.broker
      → (strangers : List Stranger) → HasKnowingEnds (world_of now strangers old)
      → TakesAsEndsIf call (world_of now strangers old)
      → world_of now strangers new ≡ calls_if (by_choice old.engine.running.limits choice) call (world_of now strangers old)

-- so it is over a store whose device is sound after it
pub record Asks {K : Type 0} (g : Ghosts K) (now : ℕ) (call : Option Call) (old : Played K) (t : Telling) (new : Played K) : Type 0 where
  pub truly : g.is_sound new.engine.running.keep → IsTrulyAsked now call old t new
  pub playable : IsPlayable g new
  pub limits : new.engine.running.limits ≡ old.engine.running.limits
  pub sound : WasSound g old new

-- and what it tells is told behind what was told before
pub record Hears {K : Type 0} (g : Ghosts K) (now : ℕ) (call : Option Call) (old : Played K) (before after : Telling) (new : Played K) : Type 0 where
  pub t : Telling
  pub asks : Asks g now call old t new
  pub told : after ≡ both_tell before t
