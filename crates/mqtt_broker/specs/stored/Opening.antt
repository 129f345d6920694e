-- A broker is opened over a store: with what it begins, and why it isn't (MQTT 5.0, 4.1).
use Rattle.std.specs.Prelude.{◌≡◌, ◌≢◌, ◌⊎◌, ⊤, ℕ, false, Result, IfOk, IfErr}
use Rattle.mqtt_keep.specs.lawful.Lawful.{IsLawful}
use Rattle.mqtt_keep.specs.declared.keeping.keep.Keep.{Ghosts}
use Rattle.mqtt_keep.specs.declared.keeping.keep.KeepError.{KeepError}
use Rattle.mqtt_keep.specs.declared.keeping.keep.KeepError.TheVariants.{Memory, Disk, Size, Corrupt, Schema}
use Rattle.mqtt_records.specs.declared.state.records.Records.{Records}
use Rattle.mqtt_rules.specs.declared.step.Capacity.{Capacity}
use Rattle.mqtt_rules.specs.step.State.{Broker}
use Rattle.mqtt_rules.specs.step.Step.{BrokerOpening, SpentOpening}
use Rattle.mqtt_records.specs.state.PassedOn.{StoresPassedOn}
use Rattle.mqtt_rules.specs.spelling.Sending.{HaveSentPhases}
use Rattle.mqtt_broker.specs.stored.Calling.{KeepsLines}
use Rattle.mqtt_broker.specs.stored.Running.{Running}
use Rattle.mqtt_broker.specs.stored.Closing.{IsStoredAfter}

-- the records that a load answered slim, and how it left the store: while the device is sound they are what the store has; and a
-- device that is sound after it was sound before
pub record IsLoad {K : Type 0} (g : Ghosts K) (keep : K) (r : Records) (loaded : K) : Type 0 where
  pub exact : (h : Records) → g.holds keep h → g.is_sound loaded → r ≡ h
  pub found : g.is_sound loaded → g.leaves keep r
  pub sound : g.is_sound loaded → g.is_sound keep

-- and what it left alone
pub record IsBegun {K : Type 0} (g : Ghosts K) (keep : K) (r : Records) (loaded : K) : Type 0 where
  pub load : IsLoad g keep r loaded
  pub same : (h : Records) → g.holds keep h → g.holds loaded h
  pub crash : (after : Records) → g.leaves loaded after → g.leaves keep after

-- what is stored after an opening of what a load answered, whose device returned what was written
pub record IsStoredOpening {K : Type 0} (g : Ghosts K) (limits : Capacity) (now : ℕ) (keep : K) (after : Records) : Type 0 where
  pub loaded : K
  pub records : Records
  pub load : IsLoad g keep records loaded
  pub sound : g.is_sound loaded
  pub is : IsStoredAfter limits now records after

-- ---- Ok: the engine begins with the opening of lawful records that a load answered, and its store holds what that leaves. What
-- copies say is so while the store's device returns what was written

pub record IsOpened {K : Type 0} (g : Ghosts K) (limits : Capacity) (now : ℕ) (keep : K) (engine : Running K) : Type 0 where
  pub loaded : K
  pub records : Records
  pub load : IsLoad g keep records loaded
  pub lawful : IsLawful records
  -- the properties of its copies and retained messages are such as publications pass on (3.3.2.3)
  pub passed : StoresPassedOn records
  -- and what was in flight has packet identifiers from 1, of two bytes (2.2.1)
  pub identifiers : HaveSentPhases records
  -- the opening, with whose lines it begins whatever the device returns, and with all of it if the device is sound
  pub after : Broker
  pub opening : BrokerOpening limits records now after
  pub lines : KeepsLines after engine.broker
  pub whole : g.is_sound engine.keep → engine.broker ≡ after
  pub holds : g.is_sound engine.keep → g.holds engine.keep engine.broker.records
  -- a crash leaves what was there before, or what is stored after the opening
  pub crash : (left : Records) → g.leaves engine.keep left → g.is_sound engine.keep → g.leaves keep left ⊎ IsStoredOpening g limits now keep left
  pub sound : g.is_sound engine.keep → g.is_sound loaded
  pub limits_are : engine.limits ≡ limits
  pub runs : engine.stopped ≡ false

-- ---- a refusal

-- what was loaded has an opening that spends a number
pub record IsUnfit {K : Type 0} (g : Ghosts K) (limits : Capacity) (now : ℕ) (keep : K) : Type 0 where
  pub loaded : K
  pub records : Records
  pub load : IsLoad g keep records loaded
  pub spent : SpentOpening limits records now

-- the store counted a failure after it was loaded
pub record HasFailedSince {K : Type 0} (g : Ghosts K) (keep left : K) : Type 0 where
  pub loaded : K
  pub records : Records
  pub load : IsLoad g keep records loaded
  pub counted : g.counted left ≢ g.counted loaded

-- or as it was loaded
abbrev pub HasFailed : {K : Type 0} (g : Ghosts K) (keep left : K) → Type 0
HasFailed g keep left = (g.counted left ≢ g.counted keep) ⊎ HasFailedSince g keep left

-- the store's own load refused so
abbrev pub IsLoadRefused : {K : Type 0} (g : Ghosts K) (keep : K) (error : KeepError) (left : K) → Type 0
IsLoadRefused g keep error left = g.is_sound left → g.refuses keep error

-- why it is answered
abbrev pub IsDue : {K : Type 0} (g : Ghosts K) (limits : Capacity) (now : ℕ) (keep : K) (error : KeepError) (left : K) → Type 0
IsDue g limits now keep Memory left = ⊤
IsDue g limits now keep Disk left = HasFailed g keep left
IsDue g limits now keep Size left = HasFailed g keep left
IsDue g limits now keep Corrupt left = IsLoadRefused g keep Corrupt left ⊎ IsUnfit g limits now keep
IsDue g limits now keep Schema left = IsLoadRefused g keep Schema left

pub record IsRefused {K : Type 0} (g : Ghosts K) (limits : Capacity) (now : ℕ) (keep : K) (error : KeepError) (left : K) : Type 0 where
  pub due : IsDue g limits now keep error left
  -- but for a failed device nothing changed
  pub same : (error ≡ Disk → ⊥) → (h : Records) → g.holds keep h → g.is_sound left → g.holds left h
  -- a crash leaves what was there before, or what is stored after the opening
  pub crash : (after : Records) → g.leaves left after → g.is_sound left → g.leaves keep after ⊎ IsStoredOpening g limits now keep after

-- ---- what is answered

pub record Opened {K : Type 0} (g : Ghosts K) (limits : Capacity) (now : ℕ) (keep : K) (result : Result (Running K) (K × KeepError)) : Type 0 where
  pub opened : IfOk result (λ engine. IsOpened g limits now keep engine)
  pub refused : IfErr result (λ e. IsRefused g limits now keep e.1 e.0)
