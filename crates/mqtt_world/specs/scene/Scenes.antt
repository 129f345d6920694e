-- A broker with the ends that it serves, and what its calls make of both (MQTT 5.0, 4.1, 4.2).
use Rattle.std.specs.Prelude.{◌≡◌, ℕ, false, List, []}
use Rattle.std.specs.List.{AllByRecursion}
use Rattle.mqtt_keep.specs.declared.keeping.keep.Keep.{Ghosts}
use Rattle.mqtt_world_model.specs.model.Tellings.{Telling, telling}
use Rattle.mqtt_rules.specs.step.State.{MemberChoice}
use Rattle.mqtt_rules.specs.step.Step.{Call, deeds, is_step_spent, stepped, told}
use Rattle.mqtt_broker.specs.engine.Serving.{Serving}
use Rattle.mqtt_broker.specs.engine.Framers.{HeldLine}
use Rattle.mqtt_world.specs.clients.Ends.{Ends}
use Rattle.mqtt_world_laws.specs.knowing.Knowing.{AllIsUnderstood}
use Rattle.mqtt_world.specs.clients.Telling.{AreSpelled, ends_told}

pub record Played (K : Type 0) : Type 0 where
  pub engine : Serving K
  pub ends : Ends

-- no part of a packet is held: bytes are given to the broker in whole packets
abbrev pub HoldsNone : HeldLine → Type 0
HoldsNone h = h.framing.held ≡ []

abbrev pub HoldNone : List HeldLine → Type 0
HoldNone held = AllByRecursion HoldsNone held

-- the broker runs, and its lines hold nothing; and while its store's device has returned what was written, the store holds what
-- is stored
pub record IsPlayable {K : Type 0} (g : Ghosts K) (s : Played K) : Type 0 where
  pub runs : s.engine.running.stopped ≡ false
  pub stored : g.is_sound s.engine.running.keep → g.holds s.engine.running.keep s.engine.running.broker.records
  pub clear : HoldNone s.engine.held

-- the device of the store has returned what was written, if it still has afterwards
abbrev pub WasSound : {K : Type 0} → Ghosts K → Played K → Played K → Type 0
WasSound g old new = g.is_sound new.engine.running.keep → g.is_sound old.engine.running.keep

-- A call was a step of the broker, for some choice of members, that spends no number; each end was told, if the packets
-- have spellings, and what went out means to it what was meant, and is read as that; and this is what it told.
pub record IsTrulyCall {K : Type 0} (now : ℕ) (call : Call) (old : Played K) (t : Telling) (new : Played K) : Type 0 where
  pub choice : MemberChoice
  pub unspent : is_step_spent old.engine.running.limits choice now call old.engine.running.broker ≡ false
  pub broker : new.engine.running.broker ≡ stepped old.engine.running.limits choice now call old.engine.running.broker
  pub ends : AreSpelled (told old.engine.running.limits choice now call old.engine.running.broker)
      → AllIsUnderstood (told old.engine.running.limits choice now call old.engine.running.broker)
      old.ends.publishers old.ends.receivers
      → new.ends ≡ ends_told (stepped old.engine.running.limits choice now call old.engine.running.broker)
      (told old.engine.running.limits choice now call old.engine.running.broker) old.ends
  pub told_is : t ≡ telling (deeds old.engine.running.limits choice now call old.engine.running.broker)

-- So it is over a store whose device is sound after it; and whatever the device returns, the broker runs on, and its lines hold
-- nothing.
pub record Calls {K : Type 0} (g : Ghosts K) (now : ℕ) (call : Call) (old : Played K) (t : Telling) (new : Played K) : Type 0 where
  pub truly : g.is_sound new.engine.running.keep → IsTrulyCall now call old t new
  pub limits : new.engine.running.limits ≡ old.engine.running.limits
  pub sound : WasSound g old new
  pub playable : IsPlayable g new
