-- What a drain of a script has done (MQTT 5.0, 4.3, 4.4, 4.6).
use Rattle.std.specs.Prelude.{◌≡◌, ◌≤◌, ℕ, false, List}
use Rattle.mqtt_world_laws.specs.drains.Emptied.{copies_to_take, waiting_for}
use Rattle.mqtt_world_laws.specs.drain_causes.DrainEnds.{AreOfDrain, EndOfDrain}
use Rattle.mqtt_world_laws.specs.drain_causes.Fitting.{NoneTooLarge}
use Rattle.mqtt_world.specs.script_laws.Drains.{AreTurnsOfDrain}
use Rattle.mqtt_world_laws.specs.acceptance.Spending.{run_spends}
use Rattle.mqtt_world_laws.specs.receiver.Drains.{drained, enough_rounds, is_bad_drain}
use Rattle.mqtt_world_model.specs.model.Run.{Turn}
use Rattle.mqtt_world_model.specs.model.World.{World}
use Rattle.mqtt_rules.specs.step.State.{MemberChoice}
use Rattle.mqtt_rules.specs.declared.step.Capacity.{Capacity}

-- it made so many rounds, no more than two for each copy that stood at its start or entered in its first round, whatever the
-- broker chooses in that, and one; none waits after it, and the receiver's line stands still, so that it may be drained again.
-- Whatever turns it comes to that spend no number, each copy that ends in them is the receiver's own, and ends at its moment, for a
-- cause of a drain; none ends as too large. By any one choice, if so many rounds are allowed, it comes to the same world, and copies
-- end so
pub record IsEmptied (limits : Capacity) (client : List ℕ) (rounds : ℕ) (w after : World) : Type 0 where
  pub is_within : (choice : MemberChoice) → rounds ≤ enough_rounds (copies_to_take limits choice client w)
  pub empty : waiting_for client after ≡ 0
  pub good : is_bad_drain client after ≡ false
  pub ends : (turns : List Turn) → AreTurnsOfDrain limits client turns w → run_spends limits turns w ≡ false
      → AreOfDrain client limits turns w
  pub fit : (turns : List Turn) → AreTurnsOfDrain limits client turns w → run_spends limits turns w ≡ false
      → NoneTooLarge limits turns w
  pub is : (choice : MemberChoice) (most : ℕ) → rounds ≤ most → after ≡ drained limits choice client most w
  pub ends_by : (choice : MemberChoice) (most : ℕ) → rounds ≤ most → EndOfDrain limits choice client most w
