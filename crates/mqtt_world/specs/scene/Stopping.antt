-- What a stop before its commit leaves of what ends ask of the broker (MQTT 5.0, 4.1).
use Rattle.std.specs.Prelude.{◌≡◌, ℕ, Bool, true, false, List}
use Rattle.mqtt_world_model.specs.model.World.{Asking, Event, Setting, Stranger, before, is_bad_asking, stop_after, stop_before}
use Rattle.mqtt_world.specs.script_laws.Scripted.{IsBadEvent, IsRefused, front_of}
use Rattle.mqtt_world.specs.scene.Events.{world_of}
use Rattle.mqtt_world.specs.scene.Scenes.{Played}

-- before the commit, or after it
abbrev pub stop_at : Bool → Asking → Event
stop_at false a = stop_before a
stop_at true a = stop_after a

-- the packet that was to be read is taken off its line, and nothing else is done, whatever the moment and the strangers
pub record IsTakenOff {K : Type 0} (a : Asking) (old new : Played K) : Type 0 where
  pub engine : new.engine ≡ old.engine
  pub good : (now : ℕ) (strangers : List Stranger) → is_bad_asking a (world_of now strangers old) ≡ false
  pub taken : (now : ℕ) (strangers : List Stranger) → ¬ IsRefused (front_of a (world_of now strangers old))
  pub is : (set : Setting) (now : ℕ) (strangers : List Stranger)
      → world_of now strangers new ≡ before set a (world_of now strangers old)

-- or it can't be asked, and nothing changes
abbrev pub TakesOff : {K : Type 0} → Asking → Bool → Played K → Played K → Type 0
TakesOff a false old new =
    ((now : ℕ) (strangers : List Stranger) → IsBadEvent (stop_before a) (world_of now strangers old)) × (new ≡ old)
TakesOff a true old new = IsTakenOff a old new
