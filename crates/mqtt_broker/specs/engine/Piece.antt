-- A piece: bytes come on a line, and the first packet, or fault, that is whole is answered (MQTT 5.0, 2.1, 4.13).
use Rattle.std.specs.Prelude.{◌≡◌, ◌≢◌, ◌⊎◌, ℕ, true, false, List, Option, Some, None, Result, IfOk, OnOk, OnErr, IsErrOf}
use Rattle.mqtt_keep.specs.declared.keeping.keep.Keep.{Ghosts}
use Rattle.mqtt_records.specs.declared.state.records.Records.{Records}
use Rattle.mqtt_rules.specs.declared.step.Capacity.{Capacity}
use Rattle.mqtt_rules.specs.step.Piece.{PieceStep, Pieced, call_on}
use Rattle.mqtt_rules.specs.step.State.{Broker, line_at, stored}
use Rattle.mqtt_rules.specs.step.Step.{Call, SpentStep}
use Rattle.mqtt_broker.specs.engine.Framers.{changed_at, framing_at}
use Rattle.mqtt_broker_step.specs.declared.call.EngineError.{EngineError}
use Rattle.mqtt_broker_step.specs.declared.call.EngineError.TheVariants.{Stopped, Spent}
use Rattle.mqtt_broker.specs.declared.stored.outcome.Outcome.{Outcome}
use Rattle.mqtt_broker.specs.stored.Calling.{IsLeftBy, KeepsLines, Tells}
use Rattle.mqtt_broker.specs.engine.Serving.{Serving, without_closed}

-- what the line's bytes ask with the piece behind them, if the line is linked and something is whole
abbrev pub call_by : {K : Type 0} → ℕ → List ℕ → Serving K → Option Call
call_by line piece old = call_on (line_at line old.running.broker) piece (framing_at line old.held)

-- ---- what is answered

-- a piece, at a moment, was a step of the broker on what the line's bytes ask, and this is its answer
pub record IsPieceAnswered {K : Type 0} (now line : ℕ) (piece : List ℕ) (old : Serving K) (out : Outcome) (new : Serving K) : Type 0 where
  pub after : Pieced
  pub step : PieceStep old.running.limits old.running.broker now line piece (framing_at line old.held) after
  pub broker : new.running.broker ≡ after.broker
  pub tells : Tells after.out out
  -- the line holds what the step leaves, each line that closed nothing, and each other what it held
  pub held : new.held ≡ without_closed out.closed.items (changed_at line (λ framing. after.framing) old.held)

-- an engine and its lines' bytes, with another broker
abbrev pub for_broker : {K : Type 0} → Broker → Serving K → Serving K
for_broker b s = record s { running = record s.running { broker = b } }

-- it was answered as for a broker with the same lines, whatever that one has in store
pub record IsPieceAnsweredForLines {K : Type 0} (now line : ℕ) (piece : List ℕ) (old : Serving K) (out : Outcome) (new : Serving K) : Type 0 where
  pub before : Broker
  pub after : Broker
  pub begins : KeepsLines old.running.broker before
  pub answered : IsPieceAnswered now line piece (for_broker before old) out (for_broker after new)
  pub ends : KeepsLines after new.running.broker

-- ---- if nothing is asked, no number is spent and nothing is stored

abbrev pub IsSpentBy : Capacity → Broker → ℕ → Option Call → Type 0
IsSpentBy limits old now None = ⊥
IsSpentBy limits old now (Some call) = SpentStep limits old now call

abbrev pub IsLeftByAny : Capacity → Broker → ℕ → Option Call → Records → Type 0
IsLeftByAny limits old now None r = r ≡ stored old
IsLeftByAny limits old now (Some call) r = IsLeftBy limits old now call r

-- ---- what a piece makes of an engine, and what it answers

-- what speaks of all that the broker has: so it is while the store's device returns what was written
pub record IsTrulyPieceCalled {K : Type 0} (g : Ghosts K) (now line : ℕ) (piece : List ℕ) (old : Serving K) (result : Result Outcome EngineError) (new : Serving K)
    : Type 0 where
  -- Ok: it was a step of the broker, and the store holds what is stored after it
  pub step : IfOk result (λ out. IsPieceAnswered now line piece old out new)
  pub stored : OnOk result (g.holds new.running.keep new.running.broker.records)
  -- if memory is wanting or numbers are spent nothing changed here, nor in what the store holds
  pub same : (IsErrOf result Stopped → ⊥) → OnErr result (new.running.broker ≡ old.running.broker)
  pub kept : (IsErrOf result Stopped → ⊥) → OnErr result (g.holds new.running.keep old.running.broker.records)
  pub spent : IsErrOf result Spent → IsSpentBy old.running.limits old.running.broker now (call_by line piece old)
  -- a crash leaves what it could leave before the call, or what was stored before it or is after it
  pub crash : old.running.stopped ≡ false → (left : Records) → g.leaves new.running.keep left
      → g.leaves old.running.keep left ⊎ IsLeftByAny old.running.limits old.running.broker now (call_by line piece old) left

-- a piece comes on a line of an engine over a store
pub record PieceCalled {K : Type 0} (g : Ghosts K) (now line : ℕ) (piece : List ℕ) (old : Serving K) (result : Result Outcome EngineError) (new : Serving K)
    : Type 0 where
  pub truly : g.is_sound new.running.keep → IsTrulyPieceCalled g now line piece old result new
  -- and whatever the device returns, an answer is one for the same lines; a refusal leaves the lines, and takes no byte. Of the
  -- broker of an engine that has stopped no more is said, since it may link more
  pub answered : IfOk result (λ out. IsPieceAnsweredForLines now line piece old out new)
  pub lines : OnErr result (KeepsLines old.running.broker new.running.broker)
  pub kept : OnErr result (new.held ≡ old.held)
  pub runs : (IsErrOf result Stopped → ⊥) → new.running.stopped ≡ false
  pub limits : new.running.limits ≡ old.running.limits
  -- it stops if the store counted a failure, or what it tells of a copy isn't what was stored; and stays stopped
  pub stopped : IsErrOf result Stopped → new.running.stopped ≡ true
  pub cause : IsErrOf result Stopped → old.running.stopped ≡ false
      → (g.counted new.running.keep ≢ g.counted old.running.keep) ⊎ (g.is_sound new.running.keep → ⊥)
  pub still : old.running.stopped ≡ true → IsErrOf result Stopped × (new ≡ old)
  -- a device that is sound after the call was sound before it
  pub sound : g.is_sound new.running.keep → g.is_sound old.running.keep
