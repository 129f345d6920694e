-- A turn that breaks off: the engine has stopped, or a number is spent (MQTT 5.0, 4.1, 4.2).
use Rattle.std.specs.Prelude.{◌≡◌, ◌≢◌, ◌⊎◌, ℕ, ◌<◌, max, Bool, true, List, [], ◌∷◌, ◌++◌, length, Option, Err}
use Rattle.mqtt_keep.specs.declared.keeping.keep.Keep.{Ghosts}
use Rattle.mqtt_broker_step.specs.declared.call.EngineError.{EngineError}
use Rattle.mqtt_broker_step.specs.declared.call.EngineError.TheVariants.{Memory}
use Rattle.mqtt_rules.specs.step.Step.{Call, Lost, Pump, Tick}
use Rattle.mqtt_broker.specs.engine.Piece.{PieceCalled}
use Rattle.mqtt_broker.specs.engine.Serving.{Serving, Served}
use Rattle.mqtt_link.specs.Links.{and_then, asked}
use Rattle.mqtt_serve.specs.declared.turns.giving.TheConstants.{PIECE_LIMIT}
use Rattle.mqtt_serve.specs.declared.turns.turn.TheConstants.{TICK_LIMIT}
use Rattle.mqtt_serve.specs.declared.turns.turn.Pace.{Pace}
use Rattle.mqtt_serve.specs.declared.turns.turn.Pace.TheVariants.{Full}
use Rattle.mqtt_serve.specs.turns.Wires.{Wire}
use Rattle.mqtt_serve.specs.turns.Turns.{Server, server, Hosting, Accepts, GivenSoFar, GivesIf, HasTurn, IsRead, PumpsIf, ServesBelow, TickedSoFar, TurnsBy, WritesAt, is_lost_at, may_send_at}

-- ---- a call is refused, for another reason than want of memory; no connection is told anything

pub record Refused {K : Type 0} (g : Ghosts K) (now : ℕ) (call : Call) (error : EngineError) (old new : Server (Serving K)) : Type 0 where
  pub called : Served g now call old.engine (Err error) new.engine
  pub hard : error ≢ Memory
  pub same : new.wires ≡ old.wires

pub record PieceRefused {K : Type 0} (g : Ghosts K) (now number : ℕ) (piece : List ℕ) (error : EngineError) (old new : Server (Serving K))
    : Type 0 where
  pub called : PieceCalled g now number piece old.engine (Err error) new.engine
  pub hard : error ≢ Memory
  pub same : new.wires ≡ old.wires

-- ---- in the turn of a connection

-- some pieces were given, and the next is refused
pub record BreaksGiving {K : Type 0} (g : Ghosts K) (now place number : ℕ) (error : EngineError) (bytes : List ℕ) (old new : Server (Serving K))
    : Type 0 where
  pub n : ℕ
  pub rest : List ℕ
  pub mid : Server (Serving K)
  pub so_far : GivenSoFar g now place number bytes old n rest mid
  pub within : n < PIECE_LIMIT
  pub refused : PieceRefused g now number rest error mid new

-- it is read, and a piece of what came is refused
pub record BreaksAtPiece {K : Type 0} (g : Ghosts K) (now place : ℕ) (error : EngineError) (old new : Server (Serving K)) : Type 0 where
  pub number : ℕ
  pub bytes : List ℕ
  pub heard : List Wire
  pub reads : IsRead place number bytes old.wires heard
  pub some : bytes ≢ []
  pub breaks : BreaksGiving g now place number error bytes (server old.engine heard) new

-- what came was given, and a turn of sending is refused
pub record BreaksAtSending {K : Type 0} (g : Ghosts K) (now place : ℕ) (error : EngineError) (old new : Server (Serving K)) : Type 0 where
  pub number : ℕ
  pub bytes : List ℕ
  pub heard : List Wire
  pub given : Server (Serving K)
  pub reads : IsRead place number bytes old.wires heard
  pub gives : GivesIf g now place number bytes (server old.engine heard) given
  pub may : may_send_at place given.wires ≡ true
  pub refused : Refused g now (Pump number) error given new

-- it was sent to and written to, and that it is lost is refused
pub record BreaksAtLoss {K : Type 0} (g : Ghosts K) (now place : ℕ) (error : EngineError) (old new : Server (Serving K)) : Type 0 where
  pub number : ℕ
  pub bytes : List ℕ
  pub heard : List Wire
  pub given : Server (Serving K)
  pub sent : Server (Serving K)
  pub wrote : Bool
  pub written : List Wire
  pub reads : IsRead place number bytes old.wires heard
  pub gives : GivesIf g now place number bytes (server old.engine heard) given
  pub pumps : PumpsIf g now number (may_send_at place given.wires) given sent
  pub writes : WritesAt place wrote sent.wires written
  pub lost : is_lost_at place written ≡ true
  pub refused : Refused g now (Lost number) error (server sent.engine written) new

abbrev pub BreaksLine : {K : Type 0} → Ghosts K → ℕ → ℕ → EngineError → Server (Serving K) → Server (Serving K) → Type 0
BreaksLine g now place error old new =
    BreaksAtPiece g now place error old new ⊎ (BreaksAtSending g now place error old new ⊎ BreaksAtLoss g now place error old new)

-- ---- in the turns of the clock

-- some turns were had, and the next is refused
pub record BreaksTicks {K : Type 0} (g : Ghosts K) (now limit : ℕ) (error : EngineError) (old new : Server (Serving K)) : Type 0 where
  pub n : ℕ
  pub mid : Server (Serving K)
  pub so_far : TickedSoFar g now old n mid
  pub within : n < limit
  pub refused : Refused g now Tick error mid new

-- ---- in a turn of the server

-- some connections had their turns, and that of a later one breaks off
pub record BreaksBelow {K : Type 0} (g : Ghosts K) (pace : Pace) (now limit : ℕ) (error : EngineError) (old new : Server (Serving K)) : Type 0 where
  pub place : ℕ
  pub moved : Bool
  pub mid : Server (Serving K)
  pub serves : ServesBelow g pace now place moved old mid
  pub within : place < limit
  pub breaks : BreaksLine g now place error mid new

-- all connections had their turns, and a turn of the clock breaks off
pub record BreaksAfter {K : Type 0} (g : Ghosts K) (pace : Pace) (now limit : ℕ) (error : EngineError) (old new : Server (Serving K)) : Type 0 where
  pub moved : Bool
  pub mid : Server (Serving K)
  pub serves : ServesBelow g pace now limit moved old mid
  pub breaks : BreaksTicks g now TICK_LIMIT error mid new

abbrev pub BreaksAll : {K : Type 0} → Ghosts K → Pace → ℕ → EngineError → Server (Serving K) → Server (Serving K) → Type 0
BreaksAll g pace now error old new =
    BreaksBelow g pace now (length old.wires) error old new ⊎ BreaksAfter g pace now (length old.wires) error old new

-- a turn began, with or without a new connection, and the turn of a connection or of the clock broke off
pub record BreaksOff {K : Type 0} (g : Ghosts K) (pace : Pace) (now : ℕ) (error : EngineError) (old new : Hosting (Serving K)) : Type 0 where
  pub came : Bool
  pub accepted : Server (Serving K)
  pub counted : new.links.calls ≡ asked came old.links.calls
  pub accepts : Accepts g now came (server old.engine old.links.wires) accepted
  pub breaks : BreaksAll g pace now error accepted (server new.engine new.links.wires)

-- ---- in turns one after the other

-- fewer than so many turns were had, at the moments that a clock told, and the next broke off
pub record RunsUntilBy {E : Type 0} (turn : ℕ → Bool → Hosting E → Hosting E → Type 0) (breaks_off : ℕ → EngineError → Hosting E → Hosting E → Type 0)
    (begin turns : ℕ) (error : EngineError) (told told_then : Option (List ℕ)) (old new : Hosting E) : Type 0 where
  pub read : List ℕ
  pub last : ℕ
  pub now : ℕ
  pub mid : Hosting E
  pub count : length read < turns
  pub told_is : told_then ≡ and_then told (read ++ now ∷ [])
  pub turns_on : TurnsBy turn begin read last old mid
  pub breaks : breaks_off (max last now) error mid new

abbrev pub RunsUntil : {K : Type 0} → Ghosts K → ℕ → ℕ → EngineError → Option (List ℕ) → Option (List ℕ) → Hosting (Serving K) → Hosting (Serving K) → Type 0
RunsUntil g begin turns error told told_then old new = RunsUntilBy (HasTurn g) (BreaksOff g Full) begin turns error told told_then old new
