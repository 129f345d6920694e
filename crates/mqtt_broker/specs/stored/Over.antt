-- A broker is opened on rows that say less than its store has (MQTT 5.0, 3.3, 4.1).
use Rattle.std.specs.Prelude.{◌≡◌, ◌≢◌, ◌⊎◌, ⊤, ℕ, Result, OnOk, OnErr, IsErrOf}
use Rattle.mqtt_keep.specs.lawful.Lawful.{IsLawful}
use Rattle.mqtt_keep.specs.declared.keeping.keep.Keep.{Ghosts}
use Rattle.mqtt_keep.specs.declared.keeping.keep.KeepError.{KeepError}
use Rattle.mqtt_keep.specs.declared.keeping.keep.KeepError.TheVariants.{Disk, Size, Corrupt, Schema}
use Rattle.mqtt_records.specs.declared.state.records.Records.{Records}
use Rattle.mqtt_rules.specs.declared.step.Capacity.{Capacity}
use Rattle.mqtt_rules.specs.step.Laws.{AreWithin}
use Rattle.mqtt_rules.specs.step.State.{Broker}
use Rattle.mqtt_rules.specs.step.Step.{BrokerOpening, SpentOpening}
use Rattle.mqtt_rules.specs.alike.Alike.{AlikeRecords}
use Rattle.mqtt_broker_step.specs.Stepping.{Stepping, at_rest}
use Rattle.mqtt_broker.specs.stored.Closing.{DidOpen, IsStoredAfter, resting}
use Rattle.mqtt_broker.specs.stored.Finishing.{HoldsWhole}

-- these rows are alike to those of records that a broker may be opened with
pub record AreOfLawful (some : Records) : Type 0 where
  pub whole : Records
  pub alike : AlikeRecords some whole
  pub lawful : IsLawful whole

-- they are alike to those of records that a store holds, and a broker may be opened with
pub record AreOver {K : Type 0} (g : Ghosts K) (keep : K) (some whole : Records) : Type 0 where
  pub alike : AlikeRecords some whole
  pub lawful : IsLawful whole
  pub loaded : g.is_loaded keep
  pub holds : g.holds keep whole

-- a broker at rest on such rows
pub record IsUnopened {K : Type 0} (g : Ghosts K) (limits : Capacity) (now : ℕ) (whole : Records) (keep : K) (s : Stepping) : Type 0 where
  pub some : Records
  pub over : AreOver g keep some whole
  pub within : AreWithin limits
  pub is : s ≡ resting limits now some

-- a step that did the opening of such rows, with its moment
pub record HasOpened {K : Type 0} (g : Ghosts K) (limits : Capacity) (now : ℕ) (whole : Records) (keep : K) (s : Stepping) : Type 0 where
  pub some : Records
  pub over : AreOver g keep some whole
  pub within : AreWithin limits
  pub did : DidOpen limits now some s

-- the store holds what the opening of the whole records leaves, and the rows are alike to that
pub record IsOpeningHeld {K : Type 0} (g : Ghosts K) (limits : Capacity) (now : ℕ) (whole : Records) (keep : K) (s : Stepping) : Type 0 where
  pub after : Broker
  pub opening : BrokerOpening limits whole now after
  pub its : HoldsWhole g keep limits s.broker after
  pub rest : s ≡ at_rest limits s.broker

-- what a store, and a step, are left with that an opening was told to
pub record IsOpeningTold {K : Type 0} (g : Ghosts K) (limits : Capacity) (now : ℕ) (whole : Records) (old : K) (result : Result ⊤ KeepError) (keep : K) (s : Stepping)
    : Type 0 where
  pub held : OnOk result (IsOpeningHeld g limits now whole keep s)
  -- but for a failed device nothing changed in the store
  pub same : (IsErrOf result Disk → ⊥) → OnErr result (g.holds keep whole)
  pub spent : IsErrOf result Corrupt → SpentOpening limits whole now
  pub schema : IsErrOf result Schema → ⊥
  pub cause : IsErrOf result Disk ⊎ IsErrOf result Size → g.counted keep ≢ g.counted old
  -- a crash leaves what it left before, or what was held, or what is stored after the opening
  pub crash : (after : Records) → g.leaves keep after → g.leaves old after ⊎ ((after ≡ whole) ⊎ IsStoredAfter limits now whole after)
  pub sound : g.is_sound keep → g.is_sound old
