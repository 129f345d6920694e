-- Turns whose steps are stored together, before anything of them goes out (MQTT 5.0, 4.1, 4.2).
use Rattle.std.specs.Prelude.{◌≡◌, ◌≢◌, ◌⊎◌, ℕ, ◌+◌, ◌<◌, ◌≤◌, max, All, Bool, true, false, ◌||◌, List, [], ◌∷◌, ◌++◌, length, Option, Result, Ok, Err, ⊤}
use Rattle.mqtt_keep.specs.declared.keeping.keep.Keep.{Ghosts}
use Rattle.mqtt_rules.specs.declared.step.Capacity.{Capacity}
use Rattle.mqtt_broker_step.specs.declared.call.EngineError.{EngineError}
use Rattle.mqtt_broker_step.specs.declared.call.EngineError.TheVariants.{Memory}
use Rattle.mqtt_broker.specs.engine.Serving.{Serving}
use Rattle.mqtt_broker.specs.stored.Settling.{SettleCalled}
use Rattle.mqtt_link.specs.Links.{Calls, and_then, asked}
use Rattle.mqtt_serve.specs.declared.turns.settling.TheConstants.{TURNS_TOGETHER}
use Rattle.mqtt_serve.specs.declared.turns.turn.Pace.{Pace}
use Rattle.mqtt_serve.specs.turns.Breaks.{BreaksOff}
use Rattle.mqtt_serve.specs.turns.Related.{RelatedAt}
use Rattle.mqtt_serve.specs.turns.Turns.{Server, server, Hosting, hosting, Linked, Accepts, Begins, ServesAll, pace_of, rested, without_closed}
use Rattle.mqtt_serve.specs.turns.Wires.{Wire, LetsGo, is_lost, may_send}

-- ---- what is held back goes out

-- on each connection below a place, in order; and whether bytes went
pub data LetsGoBelow : ℕ → Bool → List Wire → List Wire → Type 0 where
  none_yet : {wires : List Wire} → LetsGoBelow 0 false wires wires
  one_after : {place : ℕ} {busy went : Bool} {old mid new : List Wire} → LetsGoBelow place busy old mid → RelatedAt (LetsGo went) place mid new
      → LetsGoBelow (place + 1) (busy || went) old new

-- ---- the steps of some turns are stored

-- the store is told to write what waits to be written; what lines hold stays
pub record SettleServed {K : Type 0} (g : Ghosts K) (old : Serving K) (result : Result ⊤ EngineError) (new : Serving K) : Type 0 where
  pub called : SettleCalled g old.running result new.running
  pub held : new.held ≡ old.held

-- they are on the disk: what is held back goes out, and connections that the broker closed are dropped
pub record IsStored {K : Type 0} (g : Ghosts K) (went : Bool) (old new : Server (Serving K)) : Type 0 where
  pub called : SettleServed g old.engine (Ok tt) new.engine
  pub after : List Wire
  pub lets : LetsGoBelow (length old.wires) went old.wires after
  pub drops : new.wires ≡ without_closed after

-- memory is wanting: nothing goes out, and no connection is dropped
pub record IsPutOff {K : Type 0} (g : Ghosts K) (went : Bool) (old new : Server (Serving K)) : Type 0 where
  pub called : SettleServed g old.engine (Err Memory) new.engine
  pub same : new.wires ≡ old.wires
  pub none : went ≡ false

abbrev pub IsStoredOrPutOff : {K : Type 0} → Ghosts K → Bool → Server (Serving K) → Server (Serving K) → Type 0
IsStoredOrPutOff g went old new = IsStored g went old new ⊎ IsPutOff g went old new

-- ---- turns that are not stored yet

-- at most one connection comes, the connections have their turns, all or some, and then the clock, as in any turn; nothing goes out, and no
-- connection is dropped. Whether a connection came, or bytes came or went
pub record ServedTurn {K : Type 0} (g : Ghosts K) (pace : Pace) (now : ℕ) (busy : Bool) (old new : Hosting (Serving K)) : Type 0 where
  pub came : Bool
  pub accepted : Server (Serving K)
  pub moved : Bool
  pub counted : new.links.calls ≡ asked came old.links.calls
  pub accepts : Accepts g now came (server old.engine old.links.wires) accepted
  pub serves : ServesAll g pace now moved accepted (server new.engine new.links.wires)
  pub busy_is : busy ≡ (came || moved)

-- one turn after the other, each at the greatest moment that was read, and each behind one that was busy; the first in each span
-- of FULL_TURN_EVERY milliseconds is full. Whether the last was busy
pub data Together {K : Type 0} (g : Ghosts K) (begin : ℕ) : List ℕ → ℕ → Bool → Hosting (Serving K) → Hosting (Serving K) → Type 0 where
  not_begun : {h : Hosting (Serving K)} → Together g begin [] begin true h h
  turn_more : {read : List ℕ} {last : ℕ} (now : ℕ) {busy : Bool} {h i j : Hosting (Serving K)} → Together g begin read last true h i
      → ServedTurn g (pace_of last now) (max last now) busy i j → Together g begin (read ++ now ∷ []) (max last now) busy h j

-- ---- a stretch: one turn to TURNS_TOGETHER, and then their steps are stored, together

-- whether the last turn was busy, or bytes go out
pub record Stretch {K : Type 0} (g : Ghosts K) (begin : ℕ) (read : List ℕ) (last : ℕ) (busy : Bool) (old new : Hosting (Serving K)) : Type 0 where
  pub moved : Bool
  pub served : Hosting (Serving K)
  pub went : Bool
  pub some : 0 < length read
  pub few : length read ≤ TURNS_TOGETHER
  pub turns : Together g begin read last moved old served
  pub stores : IsStoredOrPutOff g went (server served.engine served.links.wires) (server new.engine new.links.wires)
  pub same : new.links.calls ≡ served.links.calls
  pub busy_is : busy ≡ (moved || went)

-- ---- a stretch that breaks off

-- fewer turns were had than may be, or none, and the next breaks off
pub record BreaksServing {K : Type 0} (g : Ghosts K) (begin : ℕ) (read : List ℕ) (error : EngineError) (old new : Hosting (Serving K)) : Type 0 where
  pub first : List ℕ
  pub last : ℕ
  pub now : ℕ
  pub mid : Hosting (Serving K)
  pub read_is : read ≡ first ++ now ∷ []
  pub few : length first < TURNS_TOGETHER
  pub turns : Together g begin first last true old mid
  pub breaks : BreaksOff g (pace_of last now) (max last now) error mid new

-- the store has failed, and nothing goes out
pub record StoresNothing {K : Type 0} (g : Ghosts K) (error : EngineError) (old new : Server (Serving K)) : Type 0 where
  pub called : SettleServed g old.engine (Err error) new.engine
  pub hard : error ≢ Memory
  pub same : new.wires ≡ old.wires

-- the turns were had, and what they did can't be stored
pub record BreaksStoring {K : Type 0} (g : Ghosts K) (begin : ℕ) (read : List ℕ) (error : EngineError) (old new : Hosting (Serving K)) : Type 0 where
  pub last : ℕ
  pub moved : Bool
  pub served : Hosting (Serving K)
  pub some : 0 < length read
  pub few : length read ≤ TURNS_TOGETHER
  pub turns : Together g begin read last moved old served
  pub stores : StoresNothing g error (server served.engine served.links.wires) (server new.engine new.links.wires)
  pub same : new.links.calls ≡ served.links.calls

abbrev pub StretchBreaksOff : {K : Type 0} → Ghosts K → ℕ → List ℕ → EngineError → Hosting (Serving K) → Hosting (Serving K) → Type 0
StretchBreaksOff g begin read error old new = BreaksServing g begin read error old new ⊎ BreaksStoring g begin read error old new

-- ---- stretches one after the other

-- before the link waits nothing is to be done on a connection: it is not lost, and if the last write took all that waited nothing
-- waits on it
pub record CanWait (w : Wire) : Type 0 where
  pub not_lost : is_lost w.fate ≡ false
  pub nothing_waits : may_send w ≡ true → w.waits ≡ []

-- whether the next comes at once: only behind one that was busy; and behind such a one the link waits only if each connection can wait
pub record IsAtOnce (busy at_once : Bool) (wires : List Wire) : Type 0 where
  pub behind_busy : at_once ≡ true → busy ≡ true
  pub can_wait : busy ≡ true → at_once ≡ false → All CanWait wires

-- after one in which nothing came or went the link is asked to wait; after another it is if nothing is to be done at once
pub data Stretches {K : Type 0} (g : Ghosts K) (begin : ℕ) : List ℕ → ℕ → Hosting (Serving K) → Hosting (Serving K) → Type 0 where
  no_stretch : {h : Hosting (Serving K)} → Stretches g begin [] begin h h
  stretch_after : {read more : List ℕ} {last next : ℕ} {busy at_once : Bool} {h i : Hosting (Serving K)} (j : Hosting (Serving K))
      → Stretches g begin read last h i → Stretch g last more next busy i j → IsAtOnce busy at_once j.links.wires
      → Stretches g begin (read ++ more) next h (hosting j.engine (rested at_once j.links))

-- some were had, and the next breaks off
pub record StretchesBreakOff {K : Type 0} (g : Ghosts K) (begin : ℕ) (read : List ℕ) (error : EngineError) (old new : Hosting (Serving K)) : Type 0 where
  pub first : List ℕ
  pub more : List ℕ
  pub last : ℕ
  pub mid : Hosting (Serving K)
  pub read_is : read ≡ first ++ more
  pub stretches : Stretches g begin first last old mid
  pub breaks : StretchBreaksOff g last more error mid new

-- ---- at the moments that a clock told

-- a clock told these moments, of which something is so
pub record OfTold (IsSo : List ℕ → Type 0) (told told_then : Option (List ℕ)) : Type 0 where
  pub read : List ℕ
  pub told_is : told_then ≡ and_then told read
  pub is_so : IsSo read

-- so many turns, of which none is stored yet
abbrev pub RunsTogether : {K : Type 0} → Ghosts K → ℕ → ℕ → ℕ → Bool → Option (List ℕ) → Option (List ℕ) → Hosting (Serving K) → Hosting (Serving K) → Type 0
RunsTogether g begin turns last busy told told_then old new =
    OfTold (λ read. (length read ≡ turns) × Together g begin read last busy old new) told told_then

-- no more than so many, of which the last breaks off
abbrev pub RunsTogetherUntil : {K : Type 0} → Ghosts K → ℕ → ℕ → EngineError → Option (List ℕ) → Option (List ℕ) → Hosting (Serving K) → Hosting (Serving K)
    → Type 0
RunsTogetherUntil g begin limit error told told_then old new =
    OfTold (λ read. (length read ≤ limit) × BreaksServing g begin read error old new) told told_then

-- a stretch of so many turns
abbrev pub RunsStretch : {K : Type 0} → Ghosts K → ℕ → ℕ → ℕ → Bool → Option (List ℕ) → Option (List ℕ) → Hosting (Serving K) → Hosting (Serving K) → Type 0
RunsStretch g begin turns last busy told told_then old new =
    OfTold (λ read. (length read ≡ turns) × Stretch g begin read last busy old new) told told_then

-- no more than so many, and their stretch breaks off
abbrev pub RunsStretchUntil : {K : Type 0} → Ghosts K → ℕ → ℕ → EngineError → Option (List ℕ) → Option (List ℕ) → Hosting (Serving K) → Hosting (Serving K)
    → Type 0
RunsStretchUntil g begin limit error told told_then old new =
    OfTold (λ read. (length read ≤ limit) × StretchBreaksOff g begin read error old new) told told_then

-- so many turns, in stretches
abbrev pub RunsSettledFor : {K : Type 0} → Ghosts K → ℕ → ℕ → Option (List ℕ) → Option (List ℕ) → Hosting (Serving K) → Hosting (Serving K) → Type 0
RunsSettledFor g begin turns told told_then old new =
    OfTold (λ read. (length read ≡ turns) × ((last : ℕ) × Stretches g begin read last old new)) told told_then

-- no more than so many, and the stretch of the last breaks off
abbrev pub RunsSettledUntil : {K : Type 0} → Ghosts K → ℕ → ℕ → EngineError → Option (List ℕ) → Option (List ℕ) → Hosting (Serving K) → Hosting (Serving K)
    → Type 0
RunsSettledUntil g begin turns error told told_then old new =
    OfTold (λ read. (length read ≤ turns) × StretchesBreakOff g begin read error old new) told told_then

-- an engine runs so many turns over a link that has no connection yet
pub record RunsAlone {K : Type 0} (g : Ghosts K) (begin turns : ℕ) (old new : Serving K) : Type 0 where
  pub told : Option (List ℕ)
  pub told_then : Option (List ℕ)
  pub link : Option Calls
  pub left : Linked
  pub ran : RunsSettledFor g begin turns told told_then (hosting old (record { calls = link; wires = [] })) (hosting new left)

-- a store is served: the broker begins with it, the opening is stored, and it has so many turns and gives the store back
pub record Runs {K : Type 0} (g : Ghosts K) (limits : Capacity) (begin turns : ℕ) (old new : K) : Type 0 where
  pub start : Serving K
  pub first : Serving K
  pub stop : Serving K
  pub begins : Begins g limits begin old start
  pub settles : SettleServed g start (Ok tt) first
  pub ran : RunsAlone g begin turns first stop
  pub closed : new ≡ stop.running.keep
