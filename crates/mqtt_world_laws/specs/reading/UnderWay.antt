-- What is under way from the ends of the world, and waits for the broker to read it (MQTT 5.0, 1.5.4, 2.1.4, 2.2.1).
use Rattle.std.specs.Prelude.{◌≡◌, ℕ, List, []}
use Rattle.std.specs.List.{AllByRecursion}
use Rattle.mqtt_rules.specs.step.Contents.{IsTaken}
use Rattle.mqtt_world_model.specs.model.World.{View, World, view_of}

-- the broker takes each packet that an end has under way, on its line and on the one that it gave up last
pub record IsViewTaken (v : View) : Type 0 where
  pub up : AllByRecursion IsTaken v.up
  pub old : AllByRecursion IsTaken v.old

-- so with every end that there is
abbrev pub TakesAllUnderWay : World → Type 0
TakesAllUnderWay w = (client : List ℕ) → IsViewTaken (view_of client w)

-- no end and no stranger is there yet
pub record IsUninhabited (w : World) : Type 0 where
  pub publishers : w.publishers ≡ []
  pub receivers : w.receivers ≡ []
  pub strangers : w.strangers ≡ []
