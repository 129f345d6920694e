-- An engine's store is told to write what waits to be written, and an engine over a store that has nothing so (MQTT 5.0, 4.1).
use Rattle.std.specs.Prelude.{◌≡◌, ◌≢◌, ◌⊎◌, ⊤, true, false, Result, OnOk, IsErrOf}
use Rattle.mqtt_keep.specs.declared.keeping.keep.Keep.{Ghosts}
use Rattle.mqtt_records.specs.declared.state.records.Records.{Records}
use Rattle.mqtt_rules.specs.step.State.{stored}
use Rattle.mqtt_broker_step.specs.declared.call.EngineError.{EngineError}
use Rattle.mqtt_broker_step.specs.declared.call.EngineError.TheVariants.{Stopped, Spent}
use Rattle.mqtt_broker.specs.stored.Calling.{KeepsLines}
use Rattle.mqtt_broker.specs.stored.Running.{Running}

-- ---- what waits to be written is written

-- what speaks of all that the broker has: so it is while the store's device returns what was written
pub record IsTrulySettled {K : Type 0} (g : Ghosts K) (old : Running K) (result : Result ⊤ EngineError) (new : Running K) : Type 0 where
  -- unless the engine stops its broker stays, and the store holds what is stored
  pub broker : (IsErrOf result Stopped → ⊥) → new.broker ≡ old.broker
  pub holds : (IsErrOf result Stopped → ⊥) → g.holds new.keep old.broker.records
  -- a crash leaves what it could leave before, or what is stored
  pub crash : old.stopped ≡ false → (left : Records) → g.leaves new.keep left → g.leaves old.keep left ⊎ (left ≡ stored old.broker)

pub record SettleCalled {K : Type 0} (g : Ghosts K) (old : Running K) (result : Result ⊤ EngineError) (new : Running K) : Type 0 where
  pub truly : g.is_sound new.keep → IsTrulySettled g old result new
  -- Ok: nothing waits to be written
  pub settled : OnOk result (g.is_settled new.keep)
  -- and whatever the device returns, the lines and the moment stay
  pub lines : KeepsLines old.broker new.broker
  pub moment : new.broker.now ≡ old.broker.now
  pub limits : new.limits ≡ old.limits
  pub runs : (IsErrOf result Stopped → ⊥) → new.stopped ≡ false
  -- it stops if the store counted a failure, and only then; and stays stopped
  pub stopped : IsErrOf result Stopped → new.stopped ≡ true
  pub cause : IsErrOf result Stopped → old.stopped ≡ false → g.counted new.keep ≢ g.counted old.keep
  pub uncounted : (IsErrOf result Stopped → ⊥) → g.counted new.keep ≡ g.counted old.keep
  pub still : old.stopped ≡ true → IsErrOf result Stopped × (new ≡ old)
  -- no number is given, and the store isn't asked what copies say
  pub spent : IsErrOf result Spent → ⊥
  pub reads : g.read_so_far new.keep ≡ g.read_so_far old.keep
  -- a device that is sound after it was sound before
  pub sound : g.is_sound new.keep → g.is_sound old.keep

-- ---- nothing waits to be written

-- an engine runs over a store that holds what is stored, and has nothing that waits to be written
pub record RunsSettled {K : Type 0} (g : Ghosts K) (engine : Running K) : Type 0 where
  pub runs : engine.stopped ≡ false
  pub holds : g.holds engine.keep engine.broker.records
  pub settled : g.is_settled engine.keep
