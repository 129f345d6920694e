-- A step under way: what stood when it began, what its deeds made of it, and what they wrote and told.
use Rattle.std.specs.Prelude.{◌≡◌, ℕ, true, false, List, [], ◌∷◌, ◌++◌, map, filter_map}
use Rattle.mqtt_packet.specs.declared.codec.packet.Packet.{Packet}
use Rattle.mqtt_packet.specs.codec.Packets.{shortest_of}
use Rattle.mqtt_records.specs.declared.state.change.Change.{Change}
use Rattle.mqtt_records.specs.declared.state.records.Records.{Records}
use Rattle.mqtt_records.specs.state.Contents.{FitContents}
use Rattle.mqtt_records.specs.state.Records.{FitAll, changed_all}
use Rattle.mqtt_records.specs.state.Saying.{AllSayable}
use Rattle.mqtt_keep.specs.by_name.Slimming.{slim_entered}
use Rattle.mqtt_rules.specs.declared.step.Capacity.{Capacity}
use Rattle.mqtt_rules.specs.declared.step.Report.{Report}
use Rattle.mqtt_rules.specs.step.State.{Broker, Env, MemberChoice}
use Rattle.mqtt_rules.specs.step.Deeds.{Part, Deed, Act, whose, At, after_all, rows_of_all, of_session, always, wires, closing, report}
use Rattle.mqtt_rules.specs.step.Step.{is_spent, stamped, with_moment}
use Rattle.mqtt_broker_step.specs.declared.fault.StepFault.{StepFault}
use Rattle.mqtt_broker_step.specs.declared.fault.StepFault.TheVariants.{Memory, Spent}
use Rattle.mqtt_broker_step.specs.Undoing.{with_change, with_records, moment_of}

pub record Stepping : Type 0 where
  pub limits : Capacity
  pub start : Broker  -- when the step began
  pub broker : Broker
  pub rows : List Change  -- what the store is to be told
  pub outputs : List (ℕ × List ℕ)  -- what goes out, each packet in its shortest spelling, with its line
  pub closed : List ℕ
  pub reports : List Report

-- a packet as it goes out
abbrev pub spelled : ℕ × Packet → ℕ × List ℕ
spelled x = (x.0, shortest_of x.1)

-- the step after further deeds
abbrev pub did : List Deed → Stepping → Stepping
did ds s = record s {
  broker = after_all ds s.broker;
  rows = s.rows ++ rows_of_all ds s.broker.records;
  outputs = s.outputs ++ map spelled (wires ds s.broker);
  closed = s.closed ++ filter_map closing ds;
  reports = s.reports ++ filter_map report ds;
}

-- what surrounds the step, for some choice of members
abbrev pub env_in : MemberChoice → Stepping → Env
env_in choice s = record { limits = s.limits; choice = choice; start = s.start.records }

-- ---- what a call made of the step

-- it did the deeds of an act
pub record Did (act : Act) (old new : Stepping) : Type 0 where
  pub is : new ≡ did (act old.broker) old

-- it did an act in which nothing is chosen
abbrev pub Does : (Env → Act) → Stepping → Stepping → Type 0
Does act old new = (choice : MemberChoice) → Did (act (env_in choice old)) old new

-- a refusal leaves a step that can be taken back, and numbers are spent only if the act's rows have one above the last
pub record IsLeft (act : Act) (fault : StepFault) (old new : Stepping) : Type 0 where
  pub start : new.start ≡ old.start
  pub limits : new.limits ≡ old.limits
  pub spent : fault ≡ Spent → is_spent (rows_of_all (act old.broker) old.broker.records) ≡ true

abbrev pub Leaves : (Env → Act) → StepFault → Stepping → Stepping → Type 0
Leaves act fault old new = (choice : MemberChoice) → IsLeft (act (env_in choice old)) fault old new

-- a deed of the session with a birth, if it stands
abbrev pub to_session : ℕ → Part → Act
to_session birth part = of_session birth (λ s. always (At (whose s) part ∷ []))

-- want of memory, or the row gives a number above the last
abbrev pub IsRefusedRow : Change → StepFault → Type 0
IsRefusedRow row Memory = Unit {0}
IsRefusedRow row Spent = is_spent (row ∷ []) ≡ true

-- a refusal where a deed of that row was to be done
pub record IsLeftRow (row : Change) (fault : StepFault) (old new : Stepping) : Type 0 where
  pub start : new.start ≡ old.start
  pub limits : new.limits ≡ old.limits
  pub spent : fault ≡ Spent → is_spent (row ∷ []) ≡ true

-- want of memory leaves a step that can be taken back
pub record IsKept (fault : StepFault) (old new : Stepping) : Type 0 where
  pub start : new.start ≡ old.start
  pub limits : new.limits ≡ old.limits
  pub memory : fault ≡ Memory

-- ---- one thing more

-- a row for the store
abbrev pub written : Change → Stepping → Stepping
written change s = record s { broker = with_change change s.broker; rows = s.rows ++ change ∷ [] }

abbrev pub told : Report → Stepping → Stepping
told report s = record s { reports = s.reports ++ report ∷ [] }

-- a line that closed
abbrev pub shut : ℕ → Stepping → Stepping
shut n s = record s { closed = s.closed ++ n ∷ [] }

-- bytes that go out on a line
abbrev pub sent : ℕ → List ℕ → Stepping → Stepping
sent n bytes s = record s { outputs = s.outputs ++ (n, bytes) ∷ [] }

-- lines or the moment, of which the store is told nothing
abbrev pub with_broker : Broker → Stepping → Stepping
with_broker b s = record s { broker = b }

-- with its moment, if it stores anything
abbrev pub with_stamp : Stepping → Stepping
with_stamp s = record s { broker = with_moment s.rows s.broker; rows = stamped (moment_of s.broker) s.broker.records.moment s.rows }

-- no step is under way
abbrev pub at_rest : Capacity → Broker → Stepping
at_rest limits b = record { limits = limits; start = b; broker = b; rows = []; outputs = []; closed = []; reports = [] }

-- the broker after a step, whose copies that the step's rows put say nothing but their topics, as far as they stand still
abbrev pub with_entered_slim : Stepping → Broker
with_entered_slim s = with_records (slim_entered s.rows s.broker.records) s.broker

-- what a step owes while it is under way: its rows make of the start what is stored now, and none gives a number above the last
pub record IsStep (start broker : Broker) (rows : List Change) : Type 0 where
  pub made : changed_all rows start.records ≡ broker.records
  pub unspent : is_spent rows ≡ false

-- what a step's rows have to be so that a store which holds these records makes of them what they say: they fit, can be
-- said in a table, and say what is said under a publication's number
pub record CanStore (rows : List Change) (r : Records) : Type 0 where
  pub fit : FitAll rows r
  pub sayable : AllSayable rows
  pub contents : FitContents rows r
