-- The calls of the broker in a turn, as events of which its laws speak: what was asked, and what was answered (MQTT 5.0, 4.1, 4.2).
use Rattle.std.specs.Prelude.{◌≡◌, ℕ, List, [], ◌∷◌, ◌++◌, Option, Some, None, Result, Ok, Err}
use Rattle.mqtt_keep.specs.declared.keeping.keep.Keep.{Ghosts}
use Rattle.mqtt_rules.specs.declared.step.Capacity.{Capacity}
use Rattle.mqtt_rules.specs.step.Laws.{Asked, Event, after_events}
use Rattle.mqtt_rules.specs.step.State.{Broker, MemberChoice}
use Rattle.mqtt_rules.specs.step.Step.{Call, NewLine, bytes_out, told}
use Rattle.mqtt_broker_step.specs.declared.call.EngineError.{EngineError}
use Rattle.mqtt_broker.specs.declared.stored.outcome.Outcome.{Outcome}
use Rattle.mqtt_broker.specs.engine.Piece.{call_by}
use Rattle.mqtt_broker.specs.engine.Serving.{Serving}
use Rattle.mqtt_world_laws.specs.of_calls.Calls.{BeginsInOrder, IsMomentAlone, SpendNone, course_of}
use Rattle.mqtt_world_laws.specs.of_calls.Delivery.{KeepsAll}
use Rattle.mqtt_serve.specs.turns.Leaving.{AreCalls, IsCalled, call_after, line_linked, no_call, piece_came, was_asked, was_told}
use Rattle.mqtt_serve.specs.turns.Said.{AreSaid, outputs_of}
use Rattle.mqtt_serve.specs.turns.Turns.{Server}

-- ---- one call

-- it is one event, with this choice of members: what goes out, and which lines close, is what that tells
pub record IsEventBy (limits : Capacity) (choice : MemberChoice) (now : ℕ) (call : Call) (b : Broker) (out : Outcome) (events : List Event) : Type 0 where
  pub is : events ≡ Asked limits choice now call ∷ []
  pub outputs : out.outputs.items ≡ bytes_out (told limits choice now call b)
  pub closed : out.closed.items ≡ (told limits choice now call b).closed

-- with some choice
pub record IsEvent (limits : Capacity) (now : ℕ) (call : Call) (b : Broker) (out : Outcome) (events : List Event) : Type 0 where
  pub choice : MemberChoice
  pub by : IsEventBy limits choice now call b out events

-- bytes came of which nothing is whole: their moment comes alone
pub record IsMomentOf (limits : Capacity) (now : ℕ) (b : Broker) (out : Outcome) (events : List Event) : Type 0 where
  pub choice : MemberChoice
  pub call : Call
  pub alone : IsMomentAlone limits choice now call b
  pub by : IsEventBy limits choice now call b out events

-- a line is asked for
pub record IsLineAskedFor (limits : Capacity) (now : ℕ) (events : List Event) : Type 0 where
  pub choice : MemberChoice
  pub is : events ≡ Asked limits choice now NewLine ∷ []

-- what is answered Ok is an event, and what is refused is none
abbrev pub IsOfAnswer : Capacity → ℕ → Broker → Result Outcome EngineError → Option Call → List Event → Type 0
IsOfAnswer limits now b (Err error) asks events = events ≡ []
IsOfAnswer limits now b (Ok out) (Some call) events = IsEvent limits now call b out events
IsOfAnswer limits now b (Ok out) None events = IsMomentOf limits now b out events

-- what a line's bytes ask, if anything, is what is asked; to store steps is no event
abbrev pub IsOfCall : {K : Type 0} {g : Ghosts K} {old new : Serving K} → IsCalled g old new → List Event → Type 0
IsOfCall {K} {g} {old} {new} (line_linked now result called) events = IsLineAskedFor old.running.limits now events
IsOfCall {K} {g} {old} {new} (piece_came now number piece result called) events =
    IsOfAnswer old.running.limits now old.running.broker result (call_by number piece old) events
IsOfCall {K} {g} {old} {new} (was_asked now call result called) events =
    IsOfAnswer old.running.limits now old.running.broker result (Some call) events
IsOfCall {K} {g} {old} {new} (was_told result called) events = events ≡ []

-- ---- one call after the other

-- some events, and then others
pub record IsBoth (P Q : List Event → Type 0) (events : List Event) : Type 0 where
  pub before : List Event
  pub behind : List Event
  pub first : P before
  pub next : Q behind
  pub is : events ≡ before ++ behind

-- the events of calls, in their order
abbrev pub AreOfCalls : {K : Type 0} {g : Ghosts K} {first last : Serving K} → AreCalls g first last → List Event → Type 0
AreOfCalls {K} {g} {first} {last} no_call events = events ≡ []
AreOfCalls {K} {g} {first} {last} (call_after calls call) events = IsBoth (AreOfCalls calls) (IsOfCall call) events

-- ---- what holds of them

-- The calls are events that spend no number and lead from the broker before them to the one behind them. Over them each publication
-- that was accepted entered exactly the queues of its subscribers, each once, each copy waits or has ended once, for its cause, and what
-- waits and is sent of it is its publication's; and the broker may go on
pub record KeepAll {K : Type 0} {g : Ghosts K} {first last : Serving K} (calls : AreCalls g first last) : Type 0 where
  pub events : List Event
  pub of_calls : AreOfCalls calls events
  pub fair : SpendNone events first.running.broker
  pub lead : after_events events first.running.broker ≡ last.running.broker
  pub keep : KeepsAll (course_of events first.running.broker)
  pub in_order : BeginsInOrder last.running.broker

-- there are such calls between two moments, and to each connection was said what they answered to its line
pub record AreKept {K : Type 0} (g : Ghosts K) (old new : Server (Serving K)) : Type 0 where
  pub calls : AreCalls g old.engine new.engine
  pub keep : KeepAll calls
  pub said : AreSaid (outputs_of calls) old.wires new.wires
