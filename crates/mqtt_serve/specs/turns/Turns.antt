-- A turn of the server: what is asked of the broker, in order, and what its answers make of the connections (MQTT 5.0, 4.2).
use Rattle.std.specs.Prelude.{◌≡◌, ◌⊎◌, ℕ, ◌+◌, ◌/◌, ◌<◌, ◌≤◌, max, nat_eq, nat_lt, cond, Bool, true, false, not, ◌||◌, List, [], ◌∷◌, ◌++◌, length, drop, filter, slice_get, Option, Some, None, option_map, Result, Ok, Err}
use Rattle.mqtt_base.specs.declared.limits.TheConstants.{LINE_LIMIT}
use Rattle.mqtt_link.specs.Links.{Calls, and_then, asked, waited}
use Rattle.mqtt_keep.specs.declared.keeping.keep.Keep.{Ghosts}
use Rattle.mqtt_records.specs.declared.state.records.Records.{Records}
use Rattle.mqtt_broker_step.specs.declared.call.EngineError.{EngineError}
use Rattle.mqtt_broker_step.specs.declared.call.EngineError.TheVariants.{Memory, Stopped, Spent}
use Rattle.mqtt_broker.specs.stored.Calling.{KeepsLines}
use Rattle.mqtt_broker.specs.declared.stored.outcome.Outcome.{Outcome}
use Rattle.mqtt_rules.specs.declared.step.Capacity.{Capacity}
use Rattle.mqtt_rules.specs.step.State.{Broker}
use Rattle.mqtt_rules.specs.step.Step.{BrokerOpening, BrokerStep, NewLine, Lost, Pump, Tick, nothing_told}
use Rattle.mqtt_broker_step.specs.Doing.{next_line}
use Rattle.mqtt_broker.specs.engine.Piece.{PieceCalled}
use Rattle.mqtt_broker.specs.engine.Serving.{Serving, Served, with_linked}
use Rattle.mqtt_serve.specs.declared.turns.giving.TheConstants.{PIECE_LIMIT}
use Rattle.mqtt_serve.specs.declared.turns.turn.TheConstants.{FULL_TURN_EVERY, READ_LIMIT, TICK_LIMIT}
use Rattle.mqtt_serve.specs.declared.turns.turn.Pace.{Pace}
use Rattle.mqtt_serve.specs.declared.turns.turn.Pace.TheVariants.{Full, Brisk}
use Rattle.mqtt_serve.specs.turns.Related.{Related, RelatedAt}
use Rattle.mqtt_serve.specs.turns.Wires.{Wire, IsOpened, Reads, WritesAnd, WritesLast, Reaches, AreLost, is_standing, is_lost, is_closed, may_send}

-- what a link was asked, and its connections
pub record Linked : Type 0 where
  pub calls : Option Calls
  pub wires : List Wire

-- an engine, and the connections in their order
pub record Server (E : Type 0) : Type 0 where
  pub engine : E
  pub wires : List Wire

abbrev pub server : {E : Type 0} → E → List Wire → Server E
server engine wires = record { engine = engine; wires = wires }

-- an engine, and a link with its connections
pub record Hosting (E : Type 0) : Type 0 where
  pub engine : E
  pub links : Linked

abbrev pub hosting : {E : Type 0} → E → Linked → Hosting E
hosting engine links = record { engine = engine; links = links }

-- ---- an answer reaches the connections

-- for want of memory the connection that was asked for is lost; if the engine stopped or a number is spent there is no
-- turn
abbrev pub Tells : ℕ → Result Outcome EngineError → List Wire → List Wire → Type 0
Tells number (Ok out) old new = Related (Reaches out.outputs.items out.closed.items) old new
Tells number (Err Memory) old new = AreLost number old new
Tells number (Err Stopped) old new = ⊥
Tells number (Err Spent) old new = ⊥

-- ---- what is asked for a line

pub record Pumps {K : Type 0} (g : Ghosts K) (now number : ℕ) (old new : Server (Serving K)) : Type 0 where
  pub answer : Result Outcome EngineError
  pub called : Served g now (Pump number) old.engine answer new.engine
  pub told : Tells number answer old.wires new.wires

pub record Loses {K : Type 0} (g : Ghosts K) (now number : ℕ) (old new : Server (Serving K)) : Type 0 where
  pub answer : Result Outcome EngineError
  pub called : Served g now (Lost number) old.engine answer new.engine
  pub told : Tells number answer old.wires new.wires

-- how many bytes an answer took; for want of memory none
abbrev pub taken_in : Result Outcome EngineError → ℕ
taken_in (Ok out) = out.taken
taken_in (Err error) = 0

-- whether an answer asks to be called again
abbrev pub again_in : Result Outcome EngineError → Bool
again_in (Ok out) = out.again
again_in (Err error) = false

pub record IsPieced {K : Type 0} (g : Ghosts K) (now number : ℕ) (piece : List ℕ) (taken : ℕ) (again : Bool) (old new : Server (Serving K))
    : Type 0 where
  pub answer : Result Outcome EngineError
  pub called : PieceCalled g now number piece old.engine answer new.engine
  pub told : Tells number answer old.wires new.wires
  pub taken_is : taken ≡ taken_in answer
  pub again_is : again ≡ again_in answer

-- ---- the bytes that came on a line are given to the broker

-- whether the connection at a place stands
abbrev pub stands_in : Option Wire → Bool
stands_in None = false
stands_in (Some w) = is_standing w.fate

abbrev pub stands_at : ℕ → List Wire → Bool
stands_at place wires = stands_in (slice_get wires place)

-- whether the broker sends to the connection at a place
abbrev pub may_send_in : Option Wire → Bool
may_send_in None = false
may_send_in (Some w) = may_send w

abbrev pub may_send_at : ℕ → List Wire → Bool
may_send_at place wires = may_send_in (slice_get wires place)

abbrev pub is_lost_in : Option Wire → Bool
is_lost_in None = false
is_lost_in (Some w) = is_lost w.fate

abbrev pub is_lost_at : ℕ → List Wire → Bool
is_lost_at place wires = is_lost_in (slice_get wires place)

-- more is to be given: more is whole, or bytes are left
abbrev pub goes_on : Bool → List ℕ → Bool
goes_on true rest = true
goes_on false [] = false
goes_on false (b ∷ rest) = true

-- so many pieces were given, each time more is to be given, and these bytes are left
pub data GivenSoFar {K : Type 0} (g : Ghosts K) (now place number : ℕ) (bytes : List ℕ) (old : Server (Serving K))
    : ℕ → List ℕ → Server (Serving K) → Type 0 where
  nothing_yet : GivenSoFar g now place number bytes old 0 bytes old
  piece_after : {n taken : ℕ} {again : Bool} {rest left : List ℕ} {mid new : Server (Serving K)}
      → GivenSoFar g now place number bytes old n rest mid → IsPieced g now number rest taken again mid new
      → left ≡ drop taken rest → stands_at place new.wires ≡ true → goes_on again left ≡ true
      → GivenSoFar g now place number bytes old (n + 1) left new

-- one more piece, after which the connection stands no longer, or nothing more is to be given
pub record IsLastPiece {K : Type 0} (g : Ghosts K) (now place number : ℕ) (rest : List ℕ) (old new : Server (Serving K)) : Type 0 where
  pub taken : ℕ
  pub again : Bool
  pub piece : IsPieced g now number rest taken again old new
  pub over : (stands_at place new.wires ≡ false) ⊎ (goes_on again (drop taken rest) ≡ false)

-- piece by piece, up to the last; after the greatest number of them the connection is lost
pub data Gives {K : Type 0} (g : Ghosts K) (now place number : ℕ) (bytes : List ℕ) (old new : Server (Serving K)) : Type 0 where
  all_given : {n : ℕ} {rest : List ℕ} {mid : Server (Serving K)} → GivenSoFar g now place number bytes old n rest mid
      → n < PIECE_LIMIT → IsLastPiece g now place number rest mid new → Gives g now place number bytes old new
  given_up : {n : ℕ} {rest : List ℕ} {mid : Server (Serving K)} → GivenSoFar g now place number bytes old n rest mid
      → n ≡ PIECE_LIMIT → AreLost number mid.wires new.wires → new.engine ≡ mid.engine → Gives g now place number bytes old new

-- ---- the turn of one connection

abbrev pub ReadsAt : ℕ → ℕ → List ℕ → List Wire → List Wire → Type 0
ReadsAt place room bytes old new = RelatedAt (λ x y. Reads x.fate room bytes x y) place old new

abbrev pub WritesAt : ℕ → Bool → List Wire → List Wire → Type 0
WritesAt place wrote old new = RelatedAt (WritesAnd wrote) place old new

-- if bytes came they are given to the broker
abbrev pub GivesIf : {K : Type 0} → Ghosts K → ℕ → ℕ → ℕ → List ℕ → Server (Serving K) → Server (Serving K) → Type 0
GivesIf g now place number [] old new = new ≡ old
GivesIf g now place number (b ∷ bytes) old new = Gives g now place number (b ∷ bytes) old new

abbrev pub PumpsIf : {K : Type 0} → Ghosts K → ℕ → ℕ → Bool → Server (Serving K) → Server (Serving K) → Type 0
PumpsIf g now number false old new = new ≡ old
PumpsIf g now number true old new = Pumps g now number old new

abbrev pub LosesIf : {K : Type 0} → Ghosts K → ℕ → ℕ → Bool → Server (Serving K) → Server (Serving K) → Type 0
LosesIf g now number false old new = new ≡ old
LosesIf g now number true old new = Loses g now number old new

-- it is read once if it stands, and these bytes come
pub record IsRead (place number : ℕ) (bytes : List ℕ) (old heard : List Wire) : Type 0 where
  pub is_its : option_map (λ w. w.number) (slice_get old place) ≡ Some number
  pub within : length bytes ≤ READ_LIMIT
  pub reads : ReadsAt place READ_LIMIT bytes old heard

-- it is read, and the broker is given what came; if it stands and the last write took all that waited, the broker sends;
-- what waits is written once; and if it is lost the broker is told. Whether bytes came or went
pub record ServesLine {K : Type 0} (g : Ghosts K) (now place : ℕ) (moved : Bool) (old new : Server (Serving K)) : Type 0 where
  pub number : ℕ
  pub bytes : List ℕ
  pub heard : List Wire
  pub given : Server (Serving K)
  pub sent : Server (Serving K)
  pub wrote : Bool
  pub written : List Wire
  pub reads : IsRead place number bytes old.wires heard
  pub gives : GivesIf g now place number bytes (server old.engine heard) given
  pub pumps : PumpsIf g now number (may_send_at place given.wires) given sent
  pub writes : WritesAt place wrote sent.wires written
  pub loses : LosesIf g now number (is_lost_at place written) (server sent.engine written) new
  pub moved_is : moved ≡ (wrote || nat_lt 0 (length bytes))

-- what waits on the connection at a place has gone out, and it stands
pub record MayRest (place : ℕ) (wires : List Wire) : Type 0 where
  pub may_send : may_send_at place wires ≡ true
  pub nothing_waits : option_map (λ w. w.waits) (slice_get wires place) ≡ Some []

-- it has its turn; or it is passed over, in a brisk turn of the server, if nothing waits on it
pub data HasItsTurn {K : Type 0} (g : Ghosts K) (pace : Pace) (now place : ℕ) : Bool → Server (Serving K) → Server (Serving K) → Type 0 where
  it_is_served : {moved : Bool} {s t : Server (Serving K)} → ServesLine g now place moved s t → HasItsTurn g pace now place moved s t
  it_is_passed_over : {s : Server (Serving K)} → pace ≡ Brisk → MayRest place s.wires → HasItsTurn g pace now place false s s

-- so each connection below a place, in order. Whether bytes came or went
pub data ServesBelow {K : Type 0} (g : Ghosts K) (pace : Pace) (now : ℕ) : ℕ → Bool → Server (Serving K) → Server (Serving K) → Type 0 where
  no_line : {s : Server (Serving K)} → ServesBelow g pace now 0 false s s
  line_after : {place : ℕ} {busy moved : Bool} {s t u : Server (Serving K)} → ServesBelow g pace now place busy s t
      → HasItsTurn g pace now place moved t u → ServesBelow g pace now (place + 1) (busy || moved) s u

-- ---- turns of the clock

-- for want of memory nothing is done, and more may not be asked for
abbrev pub TicksBy : Result Outcome EngineError → List Wire → List Wire → Type 0
TicksBy (Ok out) old new = Related (Reaches out.outputs.items out.closed.items) old new
TicksBy (Err Memory) old new = new ≡ old
TicksBy (Err Stopped) old new = ⊥
TicksBy (Err Spent) old new = ⊥

pub record IsTicked {K : Type 0} (g : Ghosts K) (now : ℕ) (again : Bool) (old new : Server (Serving K)) : Type 0 where
  pub answer : Result Outcome EngineError
  pub called : Served g now Tick old.engine answer new.engine
  pub told : TicksBy answer old.wires new.wires
  pub again_is : again ≡ again_in answer

-- so many turns, after each of which more may be due
pub data TickedSoFar {K : Type 0} (g : Ghosts K) (now : ℕ) (old : Server (Serving K)) : ℕ → Server (Serving K) → Type 0 where
  no_tick : TickedSoFar g now old 0 old
  tick_after : {n : ℕ} {mid new : Server (Serving K)} → TickedSoFar g now old n mid → IsTicked g now true mid new
      → TickedSoFar g now old (n + 1) new

-- while more may be due, up to a number of them
pub data Ticks {K : Type 0} (g : Ghosts K) (now limit : ℕ) (old new : Server (Serving K)) : Type 0 where
  last_tick : {n : ℕ} {mid : Server (Serving K)} → TickedSoFar g now old n mid → n < limit → IsTicked g now false mid new
      → Ticks g now limit old new
  enough_ticks : {n : ℕ} → TickedSoFar g now old n new → n ≡ limit → Ticks g now limit old new

-- ---- a connection comes

-- the broker is asked for a line
pub record LinkCalled {K : Type 0} (now : ℕ) (old : Serving K) (result : Option ℕ) (new : Serving K) : Type 0 where
  pub line : result ≡ next_line old.running.limits old.running.broker
  pub step : BrokerStep old.running.limits old.running.broker now NewLine nothing_told new.running.broker
  pub same : new.running ≡ record old.running { broker = new.running.broker }
  pub held : new.held ≡ with_linked result old.held

-- it is linked, and comes behind the others
pub record IsLinked {K : Type 0} (now : ℕ) (old new : Server (Serving K)) : Type 0 where
  pub number : ℕ
  pub wire : Wire
  pub called : LinkCalled now old.engine (Some number) new.engine
  pub opened : IsOpened number wire
  pub comes : new.wires ≡ old.wires ++ wire ∷ []

-- the broker links no more
pub record IsFull {K : Type 0} (now : ℕ) (old new : Server (Serving K)) : Type 0 where
  pub called : LinkCalled now old.engine None new.engine
  pub same : new.wires ≡ old.wires

-- as many are here as may be
pub record IsCrowded {E : Type 0} (old new : Server E) : Type 0 where
  pub crowded : LINE_LIMIT ≤ length old.wires
  pub same : new ≡ old

-- none came; or one, which is linked, or dropped
abbrev pub Accepts : {K : Type 0} → Ghosts K → ℕ → Bool → Server (Serving K) → Server (Serving K) → Type 0
Accepts g now false old new = new ≡ old
Accepts g now true old new = IsLinked now old new ⊎ (IsFull now old new ⊎ IsCrowded old new)

-- ---- a turn

-- the first turn in each span of FULL_TURN_EVERY milliseconds is full; turns behind it are brisk
abbrev pub pace_of : ℕ → ℕ → Pace
pace_of last now = cond (nat_eq (now / FULL_TURN_EVERY) (last / FULL_TURN_EVERY)) Brisk Full

-- each connection has its turn, unless it is passed over, then the clock; what waits on connections that the broker closed is written
-- once more
pub record ServesAll {K : Type 0} (g : Ghosts K) (pace : Pace) (now : ℕ) (moved : Bool) (old new : Server (Serving K)) : Type 0 where
  pub served : Server (Serving K)
  pub ticked : Server (Serving K)
  pub serves : ServesBelow g pace now (length old.wires) moved old served
  pub ticks : Ticks g now TICK_LIMIT served ticked
  pub writes : Related (λ x y. WritesLast x.fate x y) ticked.wires new.wires
  pub same : new.engine ≡ ticked.engine

-- connections that the broker closed are dropped
abbrev pub without_closed : List Wire → List Wire
without_closed wires = filter (λ w. not (is_closed w.fate)) wires

-- whether a connection came, and whether that or bytes came or went
pub record Turn {K : Type 0} (g : Ghosts K) (now : ℕ) (came busy : Bool) (old new : Server (Serving K)) : Type 0 where
  pub accepted : Server (Serving K)
  pub moved : Bool
  pub served : Server (Serving K)
  pub accepts : Accepts g now came old accepted
  pub serves : ServesAll g Full now moved accepted served
  pub drops : new ≡ server served.engine (without_closed served.wires)
  pub busy_is : busy ≡ (came || moved)

-- a turn over a link, which is asked once for a connection
pub record HasTurn {K : Type 0} (g : Ghosts K) (now : ℕ) (busy : Bool) (old new : Hosting (Serving K)) : Type 0 where
  pub came : Bool
  pub counted : new.links.calls ≡ asked came old.links.calls
  pub turn : Turn g now came busy (server old.engine old.links.wires) (server new.engine new.links.wires)

-- ---- turns one after the other

-- after a turn in which nothing came or went the link is asked to wait
abbrev pub rested : Bool → Linked → Linked
rested true links = links
rested false links = record links { calls = waited links.calls }

-- from one moment to another, as many as moments were read, each at the greatest that was read
pub data TurnsBy {E : Type 0} (turn : ℕ → Bool → Hosting E → Hosting E → Type 0) (begin : ℕ) : List ℕ → ℕ → Hosting E → Hosting E → Type 0
  where
    no_turn : {h : Hosting E} → TurnsBy turn begin [] begin h h
    turn_after : {read : List ℕ} {last : ℕ} (now : ℕ) {busy : Bool} {h i : Hosting E} (j : Hosting E) → TurnsBy turn begin read last h i
        → turn (max last now) busy i j
        → TurnsBy turn begin (read ++ now ∷ []) (max last now) h (hosting j.engine (rested busy j.links))

-- so many turns, at the moments that a clock told
pub record RunsBy {E : Type 0} (turn : ℕ → Bool → Hosting E → Hosting E → Type 0) (begin turns : ℕ) (told told_then : Option (List ℕ))
    (old new : Hosting E) : Type 0 where
  pub read : List ℕ
  pub last : ℕ
  pub count : length read ≡ turns
  pub told_is : told_then ≡ and_then told read
  pub turns_on : TurnsBy turn begin read last old new

abbrev pub RunsFor : {K : Type 0} → Ghosts K → ℕ → ℕ → Option (List ℕ) → Option (List ℕ) → Hosting (Serving K) → Hosting (Serving K) → Type 0
RunsFor g begin turns told told_then old new = RunsBy (HasTurn g) begin turns told told_then old new

-- ---- a store is served: the broker begins at a moment with the opening of what the store held, with these limits, has so many
-- turns from then on, over a link without connections, and gives the store back (4.1)

pub record Begins {K : Type 0} (g : Ghosts K) (limits : Capacity) (moment : ℕ) (keep : K) (start : Serving K) : Type 0 where
  pub records : Records
  -- what the store has, and such as a crash of it may leave; of a device that lied nothing is said
  pub exact : (held : Records) → g.holds keep held → g.is_sound start.running.keep → records ≡ held
  pub found : g.is_sound start.running.keep → g.leaves keep records
  -- the opening, with whose lines it begins; and with all of it, if the device returned what was written
  pub after : Broker
  pub opening : BrokerOpening limits records moment after
  pub lines : KeepsLines after start.running.broker
  pub whole : g.is_sound start.running.keep → start.running.broker ≡ after
  pub limits_are : start.running.limits ≡ limits
  pub holds : g.is_sound start.running.keep → g.holds start.running.keep start.running.broker.records
  pub silent : start.held ≡ []
