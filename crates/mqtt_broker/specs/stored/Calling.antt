-- A call: the step that it is of the broker, and what is answered (MQTT 5.0, 4.1).
use Rattle.std.specs.Prelude.{◌≡◌, ◌≢◌, ◌⊎◌, ℕ, true, false, Result, IfOk, OnOk, OnErr, IsErrOf}
use Rattle.mqtt_keep.specs.declared.keeping.keep.Keep.{Ghosts}
use Rattle.mqtt_records.specs.declared.state.records.Records.{Records}
use Rattle.mqtt_rules.specs.declared.step.Capacity.{Capacity}
use Rattle.mqtt_rules.specs.step.State.{Broker, MemberChoice, stored}
use Rattle.mqtt_rules.specs.step.Step.{Call, NewLine, Input, BadInput, Lost, Pump, Tick, BrokerStep, SpentStep, bytes_out, is_step_spent, stepped, Outcome as Told}
use Rattle.mqtt_broker_step.specs.declared.call.EngineError.{EngineError}
use Rattle.mqtt_broker_step.specs.declared.call.EngineError.TheVariants.{Stopped, Spent}
use Rattle.mqtt_broker.specs.declared.stored.outcome.Outcome.{Outcome}
use Rattle.mqtt_broker.specs.stored.Running.{Running}

-- ---- what is answered

-- the answer tells what the rules tell, each packet in its shortest spelling (2.1.4)
pub record Tells (told : Told) (out : Outcome) : Type 0 where
  pub outputs : out.outputs.items ≡ bytes_out told
  pub closed : out.closed.items ≡ told.closed
  pub reports : out.reports.items ≡ told.reports
  pub taken : out.taken ≡ told.taken
  pub again : out.again ≡ told.again

-- a call, at a moment, was a step of the broker, and this is its answer
pub record IsAnswered (limits : Capacity) (old : Broker) (now : ℕ) (call : Call) (out : Outcome) (new : Broker) : Type 0 where
  pub told : Told
  pub tells : Tells told out
  pub step : BrokerStep limits old now call told new

-- the same lines are linked, and as many were linked so far
abbrev pub KeepsLines : Broker → Broker → Type 0
KeepsLines old new = (new.lines ≡ old.lines) × (new.given ≡ old.given)

-- it was answered as in a step of a broker with the same lines, whatever that one has in store
pub record IsAnsweredForLines (limits : Capacity) (old : Broker) (now : ℕ) (call : Call) (out : Outcome) (new : Broker) : Type 0 where
  pub before : Broker
  pub after : Broker
  pub begins : KeepsLines old before
  pub answered : IsAnswered limits before now call out after
  pub ends : KeepsLines after new

-- ---- what a crash leaves

-- what is stored after the call's step, for some choice of members
pub record IsStoredNext (limits : Capacity) (old : Broker) (now : ℕ) (call : Call) (r : Records) : Type 0 where
  pub choice : MemberChoice
  pub unspent : is_step_spent limits choice now call old ≡ false
  pub is : r ≡ stored (stepped limits choice now call old)

-- what was stored before the call, or is after it
abbrev pub IsLeftBy : Capacity → Broker → ℕ → Call → Records → Type 0
IsLeftBy limits old now call r = (r ≡ stored old) ⊎ IsStoredNext limits old now call r

-- ---- what a call makes of an engine over a store, and what it answers

-- what speaks of all that the broker has: so it is while the store's device returns what was written
pub record IsTrulyCalled {K : Type 0} (g : Ghosts K) (now : ℕ) (call : Call) (old : Running K) (result : Result Outcome EngineError) (new : Running K)
    : Type 0 where
  -- Ok: it was a step of the broker, and the store holds what is stored after it
  pub step : IfOk result (λ out. IsAnswered old.limits old.broker now call out new.broker)
  pub stored : OnOk result (g.holds new.keep new.broker.records)
  -- if memory is wanting or numbers are spent nothing changed here, nor in what the store holds
  pub same : (IsErrOf result Stopped → ⊥) → OnErr result (new.broker ≡ old.broker)
  pub kept : (IsErrOf result Stopped → ⊥) → OnErr result (g.holds new.keep old.broker.records)
  pub spent : IsErrOf result Spent → SpentStep old.limits old.broker now call
  -- a crash leaves what it could leave before the call, or what was stored before it or is after it
  pub crash : old.stopped ≡ false → (left : Records) → g.leaves new.keep left
      → g.leaves old.keep left ⊎ IsLeftBy old.limits old.broker now call left

-- a call of an engine over a store
pub record Called {K : Type 0} (g : Ghosts K) (now : ℕ) (call : Call) (old : Running K) (result : Result Outcome EngineError) (new : Running K)
    : Type 0 where
  pub truly : g.is_sound new.keep → IsTrulyCalled g now call old result new
  -- and whatever the device returns, an answer is one of a step with the same lines, and a refusal leaves the lines; of the
  -- broker of an engine that has stopped no more is said, since it may link more
  pub answered : IfOk result (λ out. IsAnsweredForLines old.limits old.broker now call out new.broker)
  pub lines : OnErr result (KeepsLines old.broker new.broker)
  pub runs : (IsErrOf result Stopped → ⊥) → new.stopped ≡ false
  pub limits : new.limits ≡ old.limits
  -- it stops if the store counted a failure, or what it tells of a copy isn't what was stored; and stays stopped
  pub stopped : IsErrOf result Stopped → new.stopped ≡ true
  pub cause : IsErrOf result Stopped → old.stopped ≡ false → (g.counted new.keep ≢ g.counted old.keep) ⊎ (g.is_sound new.keep → ⊥)
  pub still : old.stopped ≡ true → IsErrOf result Stopped × (new ≡ old)
  -- a device that is sound after the call was sound before it
  pub sound : g.is_sound new.keep → g.is_sound old.keep

-- ---- what is asked on a line

abbrev pub IsOn : ℕ → Call → Type 0
IsOn n NewLine = ⊥
IsOn n (Input line packet) = line ≡ n
IsOn n (BadInput line is_connect code) = line ≡ n
IsOn n (Lost line) = line ≡ n
IsOn n (Pump line) = line ≡ n
IsOn n Tick = ⊥
