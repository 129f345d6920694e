-- What an engine has between its calls and in them, and how a call is finished (MQTT 5.0, 3.3, 4.1).
use Rattle.std.specs.Prelude.{◌≡◌, ◌≢◌, ◌⊎◌, ℕ, Bool, true, false, Result, ⊤, IfOk, OnOk, OnErr, IsErrOf}
use Rattle.mqtt_keep.specs.declared.keeping.keep.Keep.{Ghosts}
use Rattle.mqtt_records.specs.declared.state.records.Records.{Records}
use Rattle.mqtt_records.specs.state.Records.{FitAll, changed_all}
use Rattle.mqtt_rules.specs.declared.step.Capacity.{Capacity}
use Rattle.mqtt_rules.specs.step.Contents.{TakesLawful}
use Rattle.mqtt_rules.specs.step.Laws.{IsOrdered}
use Rattle.mqtt_rules.specs.step.Routing.{subscribers}
use Rattle.mqtt_rules.specs.step.State.{Broker, MemberChoice}
use Rattle.mqtt_rules.specs.step.Step.{Call, is_spent, told}
use Rattle.mqtt_rules.specs.alike.Alike.{AlikeBrokers}
use Rattle.mqtt_rules.specs.alike.Slim.{slim_broker}
use Rattle.mqtt_broker_looks.specs.at_hand.Hand.{Hand, SayWhatIsStored}
use Rattle.mqtt_broker_step.specs.declared.fault.StepFault.{StepFault}
use Rattle.mqtt_broker_step.specs.declared.call.EngineError.{EngineError}
use Rattle.mqtt_broker_step.specs.declared.call.EngineError.TheVariants.{Memory, Stopped, Spent}
use Rattle.mqtt_broker_step.specs.Stepping.{CanStore, Stepping, at_rest}
use Rattle.mqtt_broker_acts.specs.clock.Quiet.{AreQuietBefore}
use Rattle.mqtt_broker_queue.specs.subscribers.Following.{CanAllBeFollowed, CanBeIndexed}
use Rattle.mqtt_broker_queue.specs.subscribers.Indexing.{Serves}
use Rattle.mqtt_broker_acts.specs.calls.Doing.{IsCalled}
use Rattle.mqtt_broker_acts.specs.calls.Sound.{IsSound}
use Rattle.mqtt_broker.specs.declared.stored.outcome.Outcome.{Outcome}
use Rattle.mqtt_broker.specs.declared.stored.parts.EngineParts.{EngineParts}

-- ---- the whole broker of slim rows

-- a store holds a whole broker that is sound and alike to this one
pub record HoldsWhole {K : Type 0} (g : Ghosts K) (keep : K) (limits : Capacity) (some whole : Broker) : Type 0 where
  pub alike : AlikeBrokers some whole
  pub sound : IsSound limits whole
  pub loaded : g.is_loaded keep
  pub holds : g.holds keep whole.records

-- while the store's device returns what was written, what is at hand of its queues says what these records say
abbrev pub SaysAtHand : {K : Type 0} → Ghosts K → K → Hand → Records → Type 0
SaysAtHand g keep hand r = g.is_sound keep → SayWhatIsStored hand r

pub record HasWhole {K : Type 0} (g : Ghosts K) (keep : K) (hand : Hand) (limits : Capacity) (some : Broker) : Type 0 where
  pub whole : Broker
  pub its : HoldsWhole g keep limits some whole
  pub at_hand : SaysAtHand g keep hand whole.records

-- rows are alike to those of a whole broker that is sound
pub record IsOfSound (limits : Capacity) (some : Broker) : Type 0 where
  pub whole : Broker
  pub alike : AlikeBrokers some whole
  pub sound : IsSound limits whole

-- ---- what holds of an engine

-- the index is that of the subscriptions that stand, unless it is to be made anew; and nothing that is stored is due before the
-- moment `quiet`. Neither looks at what waiting copies say
pub record GoesAlong {K : Type 0} (b : Broker) (p : EngineParts K) : Type 0 where
  pub serves : p.is_stale ≡ false → Serves p.index.sessions (subscribers b.records)
  pub quiet : AreQuietBefore p.quiet b.records

-- between calls no step is under way and all rows are slim; if the store hasn't failed it holds the whole broker. Lines are
-- linked also after it has
pub record IsAtRest {K : Type 0} (g : Ghosts K) (p : EngineParts K) : Type 0 where
  pub rest : p.step ≡ at_rest p.step.limits p.step.broker
  pub slim : slim_broker p.step.broker ≡ p.step.broker
  pub sound : IsOfSound p.step.limits p.step.broker
  pub its : p.stopped ≡ false → HasWhole g p.keep p.hand p.step.limits p.step.broker
  pub goes : GoesAlong p.step.broker p

-- a step began on rows that are alike to those of the whole broker, say enough for the call, and it did the call's deeds or
-- was refused
pub record IsUnderWay {K : Type 0} (g : Ghosts K) (now : ℕ) (call : Call) (again : Bool) (done : Result ⊤ StepFault) (p : EngineParts K) : Type 0 where
  pub runs : p.stopped ≡ false
  pub whole : Broker
  pub its : HoldsWhole g p.keep p.step.limits p.step.start whole
  pub at_hand : SaysAtHand g p.keep p.hand whole.records
  pub tells : g.is_sound p.keep → (choice : MemberChoice) → told p.step.limits choice now call p.step.start ≡ told p.step.limits choice now call whole
  pub taken : TakesLawful call
  pub goes : GoesAlong p.step.start p
  pub called : IsCalled now call again done p.step

-- ---- how a call is finished

-- what the step told is answered, and whether to call again
pub record IsTold (s : Stepping) (again : Bool) (out : Outcome) : Type 0 where
  pub outputs : out.outputs.items ≡ s.outputs
  pub closed : out.closed.items ≡ s.closed
  pub reports : out.reports.items ≡ s.reports
  pub taken : out.taken ≡ 0
  pub again_is : out.again ≡ again

-- an index can follow a step's rows, and if they spend no number they leave tables in order
pub record CanFollow (s : Stepping) : Type 0 where
  pub indexed : CanBeIndexed s.start.records
  pub followed : CanAllBeFollowed s.rows s.start.records
  pub ordered : is_spent s.rows ≡ false → IsOrdered s.broker.records

-- whatever the store held that the step's rows fit, it holds what they make of it, and what is at hand goes along; or the step is
-- taken back. Then all rows are slim
pub record IsCommitted {K : Type 0} (g : Ghosts K) (old : EngineParts K) (again : Bool) (result : Result Outcome EngineError) (new : EngineParts K) : Type 0 where
  pub unspent : is_spent old.step.rows ≡ false
  pub told : IfOk result (λ out. IsTold old.step again out)
  pub done : OnOk result (new.step ≡ at_rest old.step.limits (slim_broker old.step.broker))
  pub stored : (r : Records) → g.holds old.keep r → CanStore old.step.rows r
      → OnOk result (g.is_loaded new.keep × g.holds new.keep (changed_all old.step.rows r))
  pub at_hand : (r : Records) → SayWhatIsStored old.hand r → FitAll old.step.rows r → OnOk result (SayWhatIsStored new.hand (changed_all old.step.rows r))
  pub same : OnErr result (new.step ≡ at_rest old.step.limits (slim_broker old.step.start))
  pub kept : OnErr result (new.hand ≡ old.hand)
  pub memory : (r : Records) → g.holds old.keep r → CanStore old.step.rows r → IsErrOf result Memory
      → g.is_loaded new.keep × g.holds new.keep r
  pub spent : IsErrOf result Spent → ⊥
  pub cause : IsErrOf result Stopped → g.counted new.keep ≢ g.counted old.keep
  pub stopped : IsErrOf result Stopped → new.stopped ≡ true
  pub runs : (IsErrOf result Stopped → ⊥) → new.stopped ≡ false
  pub crash : (r left : Records) → g.holds old.keep r → CanStore old.step.rows r → g.leaves new.keep left
      → g.leaves old.keep left ⊎ (left ≡ changed_all old.step.rows r)
  pub device : g.is_sound new.keep → g.is_sound old.keep
  pub reads : g.read_so_far new.keep ≡ g.read_so_far old.keep
  pub goes : GoesAlong new.step.broker new
