-- The server over several starts: each begins with what the one before left, whenever that was stopped (MQTT 5.0, 4.1).
use Rattle.std.specs.Prelude.{◌≡◌, ◌⊎◌, ℕ, List, [], ◌∷◌, ◌++◌, Option, Some, None, Result, Ok, Err, false}
use Rattle.mqtt_keep.specs.declared.keeping.keep.Keep.{Ghosts}
use Rattle.mqtt_keep.specs.declared.keeping.keep.KeepError.{KeepError}
use Rattle.mqtt_records.specs.declared.state.records.Records.{Records}
use Rattle.mqtt_records.specs.state.Records.{nothing}
use Rattle.mqtt_rules.specs.declared.step.Capacity.{Capacity}
use Rattle.mqtt_rules.specs.step.Laws.{AreWithin, Asked, Event, Reopened, after_events, blank}
use Rattle.mqtt_rules.specs.step.State.{Broker, MemberChoice, stored}
use Rattle.mqtt_rules.specs.step.Step.{Call}
use Rattle.mqtt_broker.specs.engine.Piece.{call_by}
use Rattle.mqtt_broker.specs.engine.Serving.{Serving}
use Rattle.mqtt_broker.specs.stored.Calling.{IsStoredNext}
use Rattle.mqtt_broker.specs.stored.Closing.{IsStoredAfter}
use Rattle.mqtt_broker.specs.stored.Opening.{Opened}
use Rattle.mqtt_broker.specs.stored.Running.{Running}
use Rattle.mqtt_world_laws.specs.of_calls.Calls.{SpendNone, course_of}
use Rattle.mqtt_world_laws.specs.of_calls.Delivery.{KeepsAll}
use Rattle.mqtt_serve.specs.turns.Events.{AreOfCalls, IsBoth}
use Rattle.mqtt_serve.specs.turns.Leaving.{AreCalls, IsCalled, call_after, line_linked, no_call, piece_came, was_asked, was_told}
use Rattle.mqtt_serve.specs.turns.Settled.{SettleServed}
use Rattle.mqtt_serve.specs.turns.Turns.{Begins}

-- ---- what a stop leaves of calls

-- what was stored before the call's step, which counts for nothing then; or what is stored after it
abbrev pub IsLeftByStep : Capacity → ℕ → Broker → Option Call → Records → List Event → Type 0
IsLeftByStep limits now b None r events = (events ≡ []) × (r ≡ stored b)
IsLeftByStep limits now b (Some call) r events = ((events ≡ []) × (r ≡ stored b))
    ⊎ ((next : IsStoredNext limits b now call r) × (events ≡ Asked limits next.choice now call ∷ []))

-- a line that is linked stores nothing, nor is anything new where steps are stored
abbrev pub IsLeftWithin : {K : Type 0} {g : Ghosts K} {old new : Serving K} → IsCalled g old new → Records → List Event → Type 0
IsLeftWithin {K} {g} {old} {new} (line_linked now result called) r events = (events ≡ []) × (r ≡ stored old.running.broker)
IsLeftWithin {K} {g} {old} {new} (piece_came now number piece result called) r events =
    IsLeftByStep old.running.limits now old.running.broker (call_by number piece old) r events
IsLeftWithin {K} {g} {old} {new} (was_asked now call result called) r events =
    IsLeftByStep old.running.limits now old.running.broker (Some call) r events
IsLeftWithin {K} {g} {old} {new} (was_told result called) r events = (events ≡ []) × (r ≡ stored old.running.broker)

-- Of calls, all before one of them count, and that one's step does or doesn't; those behind it are lost
abbrev pub IsLeftOf : {K : Type 0} {g : Ghosts K} {first last : Serving K} → AreCalls g first last → Records → List Event → Type 0
IsLeftOf {K} {g} {first} {last} no_call r events = (events ≡ []) × (r ≡ stored first.running.broker)
IsLeftOf {K} {g} {first} {last} (call_after calls call) r events =
    IsLeftOf calls r events ⊎ IsBoth (AreOfCalls calls) (IsLeftWithin call r) events

-- ---- one start

-- the broker began at a moment with the opening of these records, which its store had, and the opening was stored; then it was called
pub record HasStarted {K : Type 0} (g : Ghosts K) (limits : Capacity) (r : Records) (last : Serving K) : Type 0 where
  pub keep : K
  pub begin : ℕ
  pub start : Serving K
  pub first : Serving K
  pub begins : Begins g limits begin keep start
  pub finds : begins.records ≡ r
  pub settles : SettleServed g start (Ok tt) first
  pub calls : AreCalls g first last

-- then it was stopped, after its turns or amid one: what is opened next may have these records
pub record WasStopped {K : Type 0} (g : Ghosts K) (limits : Capacity) (r left : Records) : Type 0 where
  pub last : Serving K
  pub started : HasStarted g limits r last
  pub sound : g.is_sound last.running.keep
  pub leaves : g.leaves last.running.keep left

-- the store behind an opening
abbrev pub store_behind : {K : Type 0} → Result (Running K) (K × KeepError) → K
store_behind (Ok engine) = engine.keep
store_behind (Err e) = e.0

-- or it was stopped before its opening was stored for good: its store has these records, and nothing that waits to be written; the broker
-- began, or the opening was refused; and what is opened next may have what a crash leaves then
pub record WasOpening {K : Type 0} (g : Ghosts K) (limits : Capacity) (now : ℕ) (r left : Records) : Type 0 where
  pub keep : K
  pub settled : g.is_settled keep
  pub has : g.holds keep r
  pub result : Result (Running K) (K × KeepError)
  pub opened : Opened g limits now keep result
  pub sound : g.is_sound (store_behind result)
  pub leaves : g.leaves (store_behind result) left

-- a store was served and given back, and has not failed: what the broker began with is what the store had, and such as a crash of it may
-- leave
pub record WasServed {K : Type 0} (g : Ghosts K) (limits : Capacity) (keep given : K) : Type 0 where
  pub found : Records
  pub last : Serving K
  pub started : HasStarted g limits found last
  pub its : started.keep ≡ keep
  pub exact : (held : Records) → g.holds keep held → g.is_sound given → found ≡ held
  pub leaves : g.is_sound given → g.leaves keep found
  pub runs : last.running.stopped ≡ false
  pub given_is : given ≡ last.running.keep

-- ---- one start after the other

-- The first begins with nothing stored, each other with what the one before left, each with limits of its own
pub data AreStarts {K : Type 0} (g : Ghosts K) : Records → Type 0 where
  no_start : AreStarts g nothing
  served : {r : Records} (limits : Capacity) (left : Records) → AreWithin limits → AreStarts g r → WasStopped g limits r left → AreStarts g left
  only_opened : {r : Records} (limits : Capacity) (now : ℕ) (left : Records) → AreWithin limits → AreStarts g r → WasOpening g limits now r left
      → AreStarts g left

-- ---- the events of starts

-- those before it, the opening, and what is left of its calls
pub record IsOfStart {K : Type 0} {g : Ghosts K} {limits : Capacity} {r left : Records} (earlier : List Event → Type 0) (stop : WasStopped g limits r left)
    (events : List Event) : Type 0 where
  pub before : List Event
  pub choice : MemberChoice
  pub since : List Event
  pub are_before : earlier before
  pub are_since : IsLeftOf stop.started.calls left since
  pub is : events ≡ before ++ Reopened limits choice stop.started.begin ∷ since

-- an opening that was stored
pub record IsOfOpening (limits : Capacity) (now : ℕ) (r left : Records) (events : List Event) : Type 0 where
  pub after : IsStoredAfter limits now r left
  pub is : events ≡ Reopened limits after.choice now ∷ []

abbrev pub AreOfStarts : {K : Type 0} {g : Ghosts K} {last : Records} → AreStarts g last → List Event → Type 0
AreOfStarts {K} {g} {last} no_start events = events ≡ []
AreOfStarts {K} {g} {last} (served limits left within before stop) events = IsOfStart (AreOfStarts before) stop events
AreOfStarts {K} {g} {last} (only_opened {r} limits now left within before opening) events =
    (AreOfStarts before events × (left ≡ r)) ⊎ IsBoth (AreOfStarts before) (IsOfOpening limits now r left) events

-- ---- what holds of them

-- What starts left is stored after events from nothing stored: those of their calls, as far as these were stored. They spend no number, and
-- over them each publication that was accepted entered exactly the queues of its subscribers, each once; each copy stands in what was left
-- or has ended once, for its cause; and what waits and is sent of it is its publication's
pub record KeepAllLeft {K : Type 0} {g : Ghosts K} {left : Records} (starts : AreStarts g left) : Type 0 where
  pub events : List Event
  pub of_starts : AreOfStarts starts events
  pub fair : SpendNone events blank
  pub is : stored (after_events events blank) ≡ left
  pub keep : KeepsAll (course_of events blank)

-- and with all calls so far of a start on what they left
pub record KeepAllSoFar {K : Type 0} {g : Ghosts K} {limits : Capacity} {r : Records} {last : Serving K} (starts : AreStarts g r)
    (started : HasStarted g limits r last) : Type 0 where
  pub before : List Event
  pub choice : MemberChoice
  pub since : List Event
  pub of_starts : AreOfStarts starts before
  pub of_calls : AreOfCalls started.calls since
  pub events : List Event
  pub events_are : events ≡ before ++ Reopened limits choice started.begin ∷ since
  pub fair : SpendNone events blank
  pub lead : after_events events blank ≡ last.running.broker
  pub keep : KeepsAll (course_of events blank)
