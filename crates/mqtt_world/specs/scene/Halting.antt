-- Why a world that runs is over (MQTT 5.0, 4.1).
use Rattle.std.specs.Prelude.{◌≢◌, ⊤, ℕ, List, Err}
use Rattle.mqtt_keep.specs.declared.keeping.keep.Keep.{Ghosts}
use Rattle.mqtt_keep.specs.declared.keeping.keep.KeepError.{KeepError}
use Rattle.mqtt_keep.specs.declared.keeping.keep.KeepError.TheVariants as refusal
use Rattle.mqtt_world_ends.specs.declared.peers.told.RunFault.{RunFault}
use Rattle.mqtt_world_ends.specs.declared.peers.told.RunFault.TheVariants as fault
use Rattle.mqtt_rules.specs.step.Step.{Call, SpentStep}
use Rattle.mqtt_rules.specs.declared.step.Capacity.{Capacity}
use Rattle.mqtt_broker_step.specs.declared.call.EngineError.{EngineError}
use Rattle.mqtt_broker_step.specs.declared.call.EngineError.TheVariants.{Memory, Stopped, Spent}
use Rattle.mqtt_broker.specs.stored.Opening.{IsRefused}
use Rattle.mqtt_broker.specs.engine.Piece.{PieceCalled}
use Rattle.mqtt_broker.specs.engine.Serving.{Served, Serving}
use Rattle.mqtt_world.specs.scene.Scenes.{IsPlayable, Played}
use Rattle.mqtt_world.specs.declared.scene.over.Over.{Over}
use Rattle.mqtt_world.specs.declared.scene.over.Over.TheVariants as over

-- what each call of a world that is over answers
abbrev pub fault_of : Over → RunFault
fault_of over.Memory = fault.Memory
fault_of over.Store = fault.Store

-- ---- a broker is not opened

-- the broker's opening was refused so, and not for want of memory: the store failed, or holds what no broker begins with
pub record IsUnopened {K : Type 0} (g : Ghosts K) (limits : Capacity) (now : ℕ) (keep : K) : Type 0 where
  pub error : KeepError
  pub left : K
  pub refused : IsRefused g limits now keep error left
  pub not_memory : error ≢ refusal.Memory

-- the opening's memory was wanting
abbrev pub IsShortOfMemory : {K : Type 0} → Ghosts K → Capacity → ℕ → K → Type 0
IsShortOfMemory {K} g limits now keep = (left : K) × IsRefused g limits now keep refusal.Memory left

-- Memory if the opening answers 1; Store if it answers 2 to 5
abbrev pub IsUnbegun : {K : Type 0} → Ghosts K → Capacity → ℕ → K → Over → Type 0
IsUnbegun g limits now keep over.Memory = IsShortOfMemory g limits now keep
IsUnbegun g limits now keep over.Store = IsUnopened g limits now keep

-- the same of what a call answers
abbrev pub IsNoStart : {K : Type 0} → Ghosts K → Capacity → ℕ → K → RunFault → Type 0
IsNoStart g limits now keep fault.Memory = IsShortOfMemory g limits now keep
IsNoStart g limits now keep fault.Store = IsUnopened g limits now keep
IsNoStart g limits now keep (fault.BadEvent place) = ⊥

abbrev pub over_for : KeepError → Over
over_for refusal.Memory = over.Memory
over_for refusal.Disk = over.Store
over_for refusal.Size = over.Store
over_for refusal.Corrupt = over.Store
over_for refusal.Schema = over.Store

-- ---- why Store is answered, by what a store promises alone, whichever it is: over one that counts no failure, and whose device
-- is sound, only for numbers that are spent, or for what it holds if a broker is opened

-- a call of a broker, or a piece of bytes on a line of it, was refused so, and left this
pub data IsLeftRefused {K : Type 0} (g : Ghosts K) (s : Serving K) (error : EngineError) (left : Serving K) : Type 0 where
  by_call : (now : ℕ) (call : Call) → Served g now call s (Err error) left → IsLeftRefused g s error left
  by_piece : (now line : ℕ) (piece : List ℕ) → PieceCalled g now line piece s (Err error) left → IsLeftRefused g s error left

pub data IsStoreDue {K : Type 0} (g : Ghosts K) : Type 0 where
  -- in a call that a broker which ran refused, its store counted a failure
  store_failed : (s : Played K) (left : Serving K) → IsPlayable g s → IsLeftRefused g s.engine Stopped left
      → g.counted left.running.keep ≢ g.counted s.engine.running.keep → IsStoreDue g
  -- such a call left a store whose device isn't sound
  device_lied : (s : Played K) (error : EngineError) (left : Serving K) → IsPlayable g s → IsLeftRefused g s.engine error left
      → (g.is_sound left.running.keep → ⊥) → IsStoreDue g
  -- such a call needs a number above 2^62, if the device of the store that it left is sound
  numbers_spent : (s : Played K) (left : Serving K) (now : ℕ) (call : Call) → IsPlayable g s → IsLeftRefused g s.engine Spent left
      → (g.is_sound left.running.keep → SpentStep s.engine.running.limits s.engine.running.broker now call) → IsStoreDue g
  -- the opening of a broker was refused, and not for want of memory
  not_opened : (limits : Capacity) (now : ℕ) (keep : K) → IsUnopened g limits now keep → IsStoreDue g

-- ---- of each reason, and of each answer; want of memory needs no cause

abbrev pub IsOverDue : {K : Type 0} → Ghosts K → Over → Type 0
IsOverDue g over.Memory = ⊤
IsOverDue g over.Store = IsStoreDue g

abbrev pub IsErrorDue : {K : Type 0} → Ghosts K → EngineError → Type 0
IsErrorDue g Memory = ⊤
IsErrorDue g Stopped = IsStoreDue g
IsErrorDue g Spent = IsStoreDue g

abbrev pub IsFaultDue : {K : Type 0} → Ghosts K → RunFault → Type 0
IsFaultDue g fault.Memory = ⊤
IsFaultDue g fault.Store = IsStoreDue g
IsFaultDue g (fault.BadEvent place) = ⊤
