-- Over any calls and openings: what each step keeps stays, and what holds of each step holds of all.
use Rattle.std.proofs.Common.{List, [], ◌∷◌, arith}
use Rattle.std.specs.Prelude.{flat_map}
use Rattle.std.specs.List.{AllByRecursion}
use Rattle.mqtt_flow.specs.declared.outbound.entry.Full.TheVariants.{Drop}
use Rattle.mqtt_rules.specs.declared.step.Capacity.{Capacity}
use Rattle.mqtt_rules.specs.step.Deeds.{Deed}
use Rattle.mqtt_rules.specs.step.Laws.{AreWithin, Asked as calls, Event, Reopened, after_event, after_events}
use Rattle.mqtt_rules.specs.step.State.{Broker, Env}
use Rattle.mqtt_rules.specs.step.Step.{at_moment, env_of, unopened}
use Rattle.mqtt_rules.proofs.step_lemmas.fit.StandLaw.{Orders}
use Rattle.mqtt_rules.proofs.step_lemmas.numbers.Copies.{each_append, each_map}
use Rattle.mqtt_world_laws.specs.acceptance.Fair.{IsSteady}
use Rattle.mqtt_world_laws.specs.acceptance.Steps.{Step}
use Rattle.mqtt_world_laws.specs.causes.Endings.{Asked}
use Rattle.mqtt_world_laws.specs.of_calls.Calls.{SpendNone, SpendsNone, asked_at, asked_in_all, course_of, step_of}
use Rattle.mqtt_world_laws.proofs.acceptance_lemmas.copies.EachAct.{Says, call_says, opening_says, whatever}
use Rattle.mqtt_world_laws.proofs.acceptance_lemmas.copies.Steady.{steady_again, steady_step}
use Rattle.mqtt_world_laws.proofs.acceptance_lemmas.copies.Walks.{Walk}

-- ---- tables and lines stay in order

-- over one
pub event_steady : (e : Event) (b : Broker) → SpendsNone e b → IsSteady b → IsSteady (after_event e b)
event_steady (calls limits choice now call) b fair s = steady_step limits choice now call b fair.0 s fair.1
event_steady (Reopened limits choice now) b fair s = steady_again limits choice now b fair.0 s fair.1

-- and over all
pub events_steady : (es : List Event) (b : Broker) → SpendNone es b → IsSteady b → IsSteady (after_events es b)
events_steady [] b fair s = s
events_steady (e ∷ es) b fair s = events_steady es (after_event e b) fair.1 (event_steady e b fair.0 s)

-- ---- what each step does by its deeds, all do by theirs

-- limits that there may be
abbrev no_room : Capacity
no_room = record { queue = 0; full = Drop; sessions = 0; retained = 0; lines = 0 }

none_within : AreWithin no_room
none_within = record { queue = omega arith; sessions = omega arith; retained = omega arith }

module _ (R : List Deed → Broker → Broker → Type 0) (walk : (limits : Capacity) → AreWithin limits → Walk limits R) where
  -- over one
  pub event_walks : (e : Event) (b : Broker) → SpendsNone e b → IsSteady b → R (asked_at e b).step.deeds b (after_event e b)
  event_walks (calls limits choice now call) b fair s = (walk limits fair.0).call choice now call b s fair.1
  event_walks (Reopened limits choice now) b fair s = (walk limits fair.0).open_again choice now b s fair.1

  -- from any broker in order
  pub events_walk : (es : List Event) (b : Broker) → SpendNone es b → IsSteady b → R (course_of es b).deeds b (after_events es b)
  events_walk [] b fair s = (walk no_room none_within).none b
  events_walk (e ∷ es) b fair s =
      let c = after_event e b in
      (walk no_room none_within).next (asked_at e b).step.deeds (course_of es c).deeds b c (after_events es c) (event_walks e b fair.0 s) (events_walk es c fair.1 (event_steady e b fair.0 s))

-- ---- what holds of each step

module _ (P : Asked → Type 0) (one : (e : Event) (b : Broker) → SpendsNone e b → IsSteady b → P (asked_at e b)) where
  -- with its call
  pub each_asked : (es : List Event) (b : Broker) → SpendNone es b → IsSteady b → AllByRecursion P (asked_in_all es b)
  each_asked [] b fair s = tt
  each_asked (e ∷ es) b fair s = (one e b fair.0 s, each_asked es (after_event e b) fair.1 (event_steady e b fair.0 s))

module _ (P : Step → Type 0) (one : (e : Event) (b : Broker) → SpendsNone e b → IsSteady b → P (asked_at e b).step) where
  -- without it
  pub each_step : (es : List Event) (b : Broker) → SpendNone es b → IsSteady b → AllByRecursion P (course_of es b).steps
  each_step es b fair s = each_map P step_of (asked_in_all es b) (each_asked (λ (x : Asked). P x.step) one es b fair s)

-- what is said of each act is said of each step
pub step_says : (R : Env → List Deed → Broker → Type 0) → ((env : Env) → Says env whatever Orders (R env)) → (e : Event) (b : Broker) → IsSteady b
    → let x = (asked_at e b).step in R x.env x.deeds x.broker
step_says R says (calls limits choice now call) b s = let env = env_of limits choice b in call_says env whatever Orders (R env) (says env) call (λ n packet e. tt) (at_moment now b) s.coherent.ordered
step_says R says (Reopened limits choice now) b s = let c = unopened now b.records in let env = env_of limits choice c in opening_says env whatever Orders (R env) (says env) c s.coherent.ordered

-- what holds of all that each gives holds of all that all give
pub each_given : {X Y : Type 0} (P : Y → Type 0) (f : X → List Y) (xs : List X) → AllByRecursion (λ (x : X). AllByRecursion P (f x)) xs → AllByRecursion P (flat_map f xs)
each_given P f [] h = tt
each_given P f (x ∷ xs) h = each_append P (f x) (flat_map f xs) h.0 (each_given P f xs h.1)
