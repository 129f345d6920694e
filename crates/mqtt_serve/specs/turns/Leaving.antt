-- What a crash leaves of the steps of a turn, and what has left the server by then (MQTT 5.0, 4.1).
use Rattle.std.specs.Prelude.{◌≡◌, ◌⊎◌, ℕ, List, [], ◌++◌, map, Option, Result, ⊤}
use Rattle.std.specs.List.{AllByRecursion}
use Rattle.mqtt_keep.specs.declared.keeping.keep.Keep.{Ghosts}
use Rattle.mqtt_records.specs.declared.state.records.Records.{Records}
use Rattle.mqtt_rules.specs.step.State.{stored}
use Rattle.mqtt_rules.specs.step.Step.{Call}
use Rattle.mqtt_broker_step.specs.declared.call.EngineError.{EngineError}
use Rattle.mqtt_broker.specs.declared.stored.outcome.Outcome.{Outcome}
use Rattle.mqtt_broker.specs.engine.Piece.{IsLeftByAny, PieceCalled, call_by}
use Rattle.mqtt_broker.specs.engine.Serving.{Serving, Served}
use Rattle.mqtt_broker.specs.stored.Calling.{IsLeftBy}
use Rattle.mqtt_broker.specs.stored.Settling.{RunsSettled}
use Rattle.mqtt_link.specs.Links.{AtFirst, and_then}
use Rattle.mqtt_serve.specs.turns.Settled.{SettleServed}
use Rattle.mqtt_serve.specs.turns.Turns.{Server, LinkCalled}
use Rattle.mqtt_serve.specs.turns.Wires.{Wire}

-- ---- what a crash leaves of calls

-- the broker is called once, whatever it answers: a line is linked, a piece comes, it is asked, or told to store its steps
pub data IsCalled {K : Type 0} (g : Ghosts K) (old new : Serving K) : Type 0 where
  line_linked : (now : ℕ) (result : Option ℕ) → LinkCalled now old result new → IsCalled g old new
  piece_came : (now number : ℕ) (piece : List ℕ) (result : Result Outcome EngineError) → PieceCalled g now number piece old result new → IsCalled g old new
  was_asked : (now : ℕ) (call : Call) (result : Result Outcome EngineError) → Served g now call old result new → IsCalled g old new
  was_told : (result : Result ⊤ EngineError) → SettleServed g old result new → IsCalled g old new

-- and so, one call after the other
pub data AreCalls {K : Type 0} (g : Ghosts K) : Serving K → Serving K → Type 0 where
  no_call : {s : Serving K} → AreCalls g s s
  call_after : {s t u : Serving K} → AreCalls g s t → IsCalled g t u → AreCalls g s u

-- what was stored before a call, or is after it
abbrev pub IsLeftByCall : {K : Type 0} {g : Ghosts K} {old new : Serving K} → IsCalled g old new → Records → Type 0
IsLeftByCall {K} {g} {old} {new} (line_linked now result called) r = r ≡ stored old.running.broker
IsLeftByCall {K} {g} {old} {new} (piece_came now number piece result called) r =
    IsLeftByAny old.running.limits old.running.broker now (call_by number piece old) r
IsLeftByCall {K} {g} {old} {new} (was_asked now call result called) r = IsLeftBy old.running.limits old.running.broker now call r
IsLeftByCall {K} {g} {old} {new} (was_told result called) r = r ≡ stored old.running.broker

-- what was stored before the first of them, or is after one of them
abbrev pub IsLeftSince : {K : Type 0} {g : Ghosts K} {first last : Serving K} → AreCalls g first last → Records → Type 0
IsLeftSince {K} {g} {first} {last} no_call r = r ≡ stored first.running.broker
IsLeftSince {K} {g} {first} {last} (call_after calls call) r = IsLeftSince calls r ⊎ IsLeftByCall call r

-- ---- what has left the server

-- what left a connection, and by how many writes
pub record Gone : Type 0 where
  pub bytes : Option (List ℕ)
  pub writes : Option ℕ

abbrev pub gone : Wire → Gone
gone w = record { bytes = w.out; writes = w.outs }

-- connections may have come, and nothing left any
pub record NothingLeaves (old new : List Wire) : Type 0 where
  pub came : List Wire
  pub unsent : AllByRecursion (λ (w : Wire). AtFirst [] w.out × AtFirst 0 w.outs) came
  pub same : map gone new ≡ map gone (old ++ came)

-- ---- since the steps were stored

-- the broker was called, and nothing left the server
pub record HoldsBack {K : Type 0} (g : Ghosts K) (old new : Server (Serving K)) : Type 0 where
  pub calls : AreCalls g old.engine new.engine
  pub silent : NothingLeaves old.wires new.wires

-- all steps are stored, if the device returns what was written
abbrev pub IsAllStored : {K : Type 0} → Ghosts K → Serving K → Type 0
IsAllStored g s = g.is_sound s.running.keep → RunsSettled g s.running

-- at one moment all steps were stored, and since then everything is held back
pub record IsHeldSince {K : Type 0} (g : Ghosts K) (now : Server (Serving K)) : Type 0 where
  pub then : Server (Serving K)
  pub stored : IsAllStored g then.engine
  pub holds : HoldsBack g then now

-- what left a connection was said to it
pub record WasSaid (w : Wire) : Type 0 where
  pub rest : List ℕ
  pub said : w.said ≡ and_then w.out rest
