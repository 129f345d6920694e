-- Calls of a broker and openings of what it stored, one after the other, whoever calls: what is asked of them, and what is read off
-- them (MQTT 5.0, 4.1, 4.2).
use Rattle.std.specs.Prelude.{◌≡◌, ⊤, ℕ, false, List, [], ◌∷◌, flat_map, map, Some, None}
use Rattle.mqtt_records.specs.declared.state.records.Records.{Records}
use Rattle.mqtt_rules.specs.declared.step.Capacity.{Capacity}
use Rattle.mqtt_rules.specs.step.Deeds.{Deed}
use Rattle.mqtt_rules.specs.step.Laws.{AreWithin, Asked as calls, Event, Reopened, after_event, after_events, blank}
use Rattle.mqtt_rules.specs.step.Numbers.{HasAcceptedNumbers}
use Rattle.mqtt_rules.specs.step.State.{Broker, MemberChoice, stored}
use Rattle.mqtt_rules.specs.step.Step.{Call, at_moment, deeds, env_of, is_opening_spent, is_step_spent, opening, stepped, unopened}
use Rattle.mqtt_world_model.specs.model.Run.{Acceptance, acceptances_of}
use Rattle.mqtt_world_laws.specs.acceptance.Fair.{IsSteady}
use Rattle.mqtt_world_laws.specs.acceptance.Identities.{TellsApart}
use Rattle.mqtt_world_laws.specs.acceptance.Steps.{Step}
use Rattle.mqtt_world_laws.specs.causes.Endings.{Asked}
use Rattle.mqtt_world_laws.specs.headline_in_forms.Reading.{Course}

-- ---- what is asked

-- of an event: its limits are within those of the tables, and it spends no number
abbrev pub SpendsNone : Event → Broker → Type 0
SpendsNone (calls limits choice now call) b = AreWithin limits × (is_step_spent limits choice now call b ≡ false)
SpendsNone (Reopened limits choice now) b = AreWithin limits × (is_opening_spent limits choice now (stored b) ≡ false)

-- of each, on what those before it left
abbrev pub SpendNone : List Event → Broker → Type 0
SpendNone [] b = ⊤
SpendNone (e ∷ es) b = SpendsNone e b × SpendNone es (after_event e b)

-- of the broker that they begin with: its tables and lines are in order, its copies told apart, and of publications that were accepted
pub record BeginsInOrder (b : Broker) : Type 0 where
  pub steady : IsSteady b
  pub apart : TellsApart b.records
  pub numbers : HasAcceptedNumbers b.records

-- ---- what they leave

-- what is stored after such events from nothing stored, whichever of them came last: so what a stop leaves, before the commit of a step or
-- behind it
pub record IsLeftByCalls (r : Records) : Type 0 where
  pub events : List Event
  pub fair : SpendNone events blank
  pub is : stored (after_events events blank) ≡ r

-- A moment that comes alone is a call too: one on a line that isn't there. It does nothing, and spends no number
pub record IsMomentAlone (limits : Capacity) (choice : MemberChoice) (now : ℕ) (call : Call) (b : Broker) : Type 0 where
  pub nothing : deeds limits choice now call b ≡ []
  pub unspent : is_step_spent limits choice now call b ≡ false
  pub moment : stepped limits choice now call b ≡ at_moment now b

-- ---- what is read off

-- the step of a call, with the call; and of an opening, which no call asks for
abbrev pub asked_at : Event → Broker → Asked
asked_at (calls limits choice now call) b = record {
  call = Some call;
  step = record {
    env = env_of limits choice b;
    deeds = deeds limits choice now call b;
    broker = at_moment now b;
  };
}
asked_at (Reopened limits choice now) b =
    let c = unopened now (stored b) in
    let env = env_of limits choice c in
    record { call = None; step = record { env = env; deeds = opening env c; broker = c } }

abbrev pub asked_in_all : List Event → Broker → List Asked
asked_in_all [] b = []
asked_in_all (e ∷ es) b = asked_at e b ∷ asked_in_all es (after_event e b)

abbrev pub step_of : Asked → Step
step_of x = x.step

abbrev pub deeds_in : Step → List Deed
deeds_in x = x.deeds

-- what a step accepts
abbrev pub accepted_in : Step → List Acceptance
accepted_in x = acceptances_of x.env x.deeds x.broker

-- how they begin and end, and what is done in them
abbrev pub course_of : List Event → Broker → Course
course_of es b =
    let asked = asked_in_all es b in
    let steps = map step_of asked in
    record {
      begin = b;
      end = after_events es b;
      deeds = flat_map deeds_in steps;
      acceptances = flat_map accepted_in steps;
      steps = steps;
      asked = asked;
    }
