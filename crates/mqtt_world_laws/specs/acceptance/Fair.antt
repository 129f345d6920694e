-- Of which runs the laws speak: how a world begins, and what is asked of its events.
use Rattle.std.specs.Prelude.{◌≡◌, ℕ, false, true, List, []}
use Rattle.mqtt_records.specs.state.Records.{IsNumber}
use Rattle.mqtt_records.specs.declared.state.records.Records.{Records}
use Rattle.mqtt_rules.specs.declared.step.Capacity.{Capacity}
use Rattle.mqtt_rules.specs.step.State.{Broker, MemberChoice}
use Rattle.mqtt_rules.specs.step.Laws.{AreWithin, IsCoherent}
use Rattle.mqtt_rules.specs.step.Lines.{HasUniqueLines}
use Rattle.mqtt_rules.specs.step.Numbers.{IsTimed}
use Rattle.mqtt_rules.specs.step.Step.{opened, is_opening_spent}
use Rattle.mqtt_world_model.specs.model.World.{World}
use Rattle.mqtt_world_model.specs.model.Run.{Turn, are_beginnings_clean}
use Rattle.mqtt_world_laws.specs.acceptance.Spending.{run_spends}

-- the tables of the broker are in order, and so are its lines
pub record IsSteady (b : Broker) : Type 0 where
  pub coherent : IsCoherent b.records
  pub timed : IsTimed b
  pub moment : IsNumber b.now
  pub lines : HasUniqueLines b

-- a world in which nobody is yet; its broker may have been opened on what earlier runs stored
pub record IsNew (w : World) : Type 0 where
  pub steady : IsSteady w.broker
  pub publishers : w.publishers ≡ []
  pub receivers : w.receivers ≡ []
  pub strangers : w.strangers ≡ []

-- the world in which the broker has been opened on these records
abbrev pub opened_world : Capacity → MemberChoice → ℕ → Records → World
opened_world limits choice now r = record {
  broker = opened limits choice now r;
  now = now;
  publishers = [];
  receivers = [];
  strangers = [];
}

-- what may be opened so: tables in order, and opening them spends no number; more sessions may stand than the limit, if they
-- were stored under a larger one
pub record MayOpen (limits : Capacity) (choice : MemberChoice) (now : ℕ) (r : Records) : Type 0 where
  pub coherent : IsCoherent r
  pub unspent : is_opening_spent limits choice now r ≡ false

-- what is asked of a run where nothing is said of ends, whatever they do: the limits are within those of the tables, and no
-- number is spent
pub record IsCounted (limits : Capacity) (ts : List Turn) (w : World) : Type 0 where
  pub within : AreWithin limits
  pub unspent : run_spends limits ts w ≡ false

-- what is asked of a run: the limits are within those of the tables, no number is spent, no session of an end's name
-- stands when it is made, and each Clean Start is carried through (3.1.2.4, ours); whatever else its events are
pub record IsFair (limits : Capacity) (ts : List Turn) (w : World) : Type 0 where
  pub within : AreWithin limits
  pub unspent : run_spends limits ts w ≡ false
  pub clean : are_beginnings_clean limits ts w ≡ true
