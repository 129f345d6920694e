-- A drain of the world as the hop of its receiver sees it: from where receiver and broker are in step and its line is
-- connected (MQTT 5.0, 4.3, 4.4, 4.6).
use Rattle.std.specs.Prelude.{◌≡◌, ◌≤◌, ◌+◌, ◌++◌, ℕ, ⊤, ◌⊎◌, zero, suc, false, List, [], ◌∷◌, map, Option, None, Some, length, slice_get}
use Rattle.std.specs.List.{AllByRecursion}
use Rattle.mqtt_base.specs.declared.session.Cause.TheVariants.{Retained}
use Rattle.mqtt_base.specs.declared.session.CopyId.{CopyId}
use Rattle.mqtt_base.specs.declared.session.Ending.TheVariants.{Dropped}
use Rattle.mqtt_flow.specs.outbound.OutboundWorld.{Lot, World as Hop, past, standing}
use Rattle.mqtt_world_model.specs.model.Ends.{Back, Receiver, answers, asks_for}
use Rattle.mqtt_world_model.specs.model.Lines.{is_one_of}
use Rattle.mqtt_world_model.specs.model.World.{World, publisher_named, receiver_named}
use Rattle.mqtt_records.specs.declared.messages.message.RetainedMessage.{RetainedMessage}
use Rattle.mqtt_records.specs.declared.state.session.Session.{Session}
use Rattle.mqtt_records.specs.lists.Distinct.{AllDiffer}
use Rattle.mqtt_rules.specs.step.Flight.{HasDistinctIdentifiers}
use Rattle.mqtt_rules.specs.step.Laws.{IsOrdered}
use Rattle.mqtt_rules.specs.step.Lines.{HasUniqueLines}
use Rattle.mqtt_rules.specs.step.State.{Line as BrokerLine, Broker, MemberChoice, line_at, queued_copy, session_at}
use Rattle.mqtt_rules.specs.step.Step.{at_moment}
use Rattle.mqtt_rules.specs.step.Subscribe.{Wish, retained_copy}
use Rattle.mqtt_rules.specs.declared.step.Capacity.{Capacity}
use Rattle.mqtt_rules.specs.whole.Whole.{AreNoLarger}
use Rattle.mqtt_world_laws.specs.receiver.Drains.{after_round, copies_left}
use Rattle.mqtt_world_laws.specs.receiver.Handing.{IsRun}
use Rattle.mqtt_world_laws.specs.receiver.Own.{IsBroughtCopy, IsInStep}
use Rattle.mqtt_world_laws.specs.receiver.Rounds.{EndsBy, IsDrainCause}
use Rattle.mqtt_world_laws.specs.receiver.Seen.{Numbering, seen}
use Rattle.mqtt_world_laws.specs.receiver.Served.{IsTidy}
use Rattle.mqtt_world_laws.specs.receiver.Tags.{id_of}

-- ---- whence a receiver may be drained

-- about copies; a SUBSCRIBE is none
abbrev pub IsAnswer : Back → Type 0
IsAnswer (answers a) = ⊤
IsAnswer (asks_for w) = ⊥

-- each copy that the session of this birth has queued is no larger than so many bytes, with its whole topic
abbrev pub QueueFits : ℕ → ℕ → Broker → Type 0
QueueFits largest birth b = (s : Session) → session_at birth b.records ≡ Some s → AreNoLarger largest s.queue

-- the two are in step, and its line is connected, with this Receive Maximum and Maximum Packet Size; lines and sessions are
-- in order
pub record IsConnected (largest window : ℕ) (ids : List CopyId) (birth : ℕ) (ns : List ℕ) (r : Receiver) (b : Broker)
    : Type 0 where
  pub in_step : IsInStep largest ids birth ns r b
  pub line : BrokerLine
  pub number : r.line.number ≡ Some line.number
  pub there : line_at line.number b ≡ Some line
  pub connected : line.session ≡ Some birth
  pub window_is : line.window ≡ window
  pub largest_is : line.largest ≡ largest
  -- whatever its client was told, what waits for it fits with whole topics
  pub fits : QueueFits largest birth b
  -- the line that it gave up is another one
  pub apart : is_one_of r.line.old_number (line.number ∷ []) ≡ false
  pub unique : HasUniqueLines b
  pub ordered : IsOrdered b.records
  pub distinct : HasDistinctIdentifiers b.records

-- it is the receiver of this name, which no publisher has, and only answers are under way from it
pub record MayDrain (largest window : ℕ) (ids : List CopyId) (birth : ℕ) (ns : List ℕ) (client : List ℕ) (r : Receiver)
    (w : World) : Type 0 where
  pub named : receiver_named client w ≡ Some r
  pub alone : publisher_named client w ≡ None
  pub connected : IsConnected largest window ids birth ns r w.broker
  pub answering : AllByRecursion IsAnswer r.line.up

-- ---- whence it may be drained after a round, in which its SUBSCRIBE is read

-- at most one SUBSCRIBE is under way from it
abbrev pub AsksOnce : List Back → Type 0
AsksOnce [] = ⊤
AsksOnce (answers a ∷ up) = AsksOnce up
AsksOnce (asks_for w ∷ up) = AllByRecursion IsAnswer up

-- if it is of a retained message, the filter that brought it has a number that was given
abbrev pub IsOlder : ℕ → CopyId → Type 0
IsOlder subscribes id = (n : ℕ) → id.cause ≡ Retained n → n ≤ subscribes

-- no two copies are one, and no two retained messages are of one publication
pub record AreTold (ids : List CopyId) (b : Broker) : Type 0 where
  pub differ : AllDiffer ids
  pub older : AllByRecursion (IsOlder b.records.subscribes) ids
  pub retained : AllDiffer (map (λ (k : RetainedMessage). k.publication) b.records.retained)

-- what a retained message brings for a wish with this Subscription Identifier, or without one, is no larger than so many bytes
abbrev pub BringsNoLarger : ℕ → Option ℕ → RetainedMessage → Type 0
BringsNoLarger largest identifier k =
    (birth number : ℕ) (w : Wish) → w.identifier ≡ identifier → (queued_copy (retained_copy birth number w k)).size ≤ largest

-- so it is with each of these retained messages, if it is a SUBSCRIBE
abbrev pub AllBringNoLarger : ℕ → List RetainedMessage → Back → Type 0
AllBringNoLarger largest ks (answers a) = ⊤
AllBringNoLarger largest ks (asks_for w) = AllByRecursion (BringsNoLarger largest w.identifier) ks

-- as `MayDrain`, but that a SUBSCRIBE may be under way, which brings nothing that is too large
pub record MayAsk (limits : Capacity) (largest window : ℕ) (ids : List CopyId) (birth : ℕ) (ns : List ℕ)
    (client : List ℕ) (r : Receiver) (w : World) : Type 0 where
  pub named : receiver_named client w ≡ Some r
  pub alone : publisher_named client w ≡ None
  pub connected : IsConnected largest window ids birth ns r w.broker
  pub tidy : IsTidy limits w.broker
  pub told : AreTold ids w.broker
  pub asking : AsksOnce r.line.up
  pub brings : AllByRecursion (AllBringNoLarger largest w.broker.records.retained) r.line.up

-- it may be drained, with the copies that a filter brought behind those that entered before, or with none more; no more stand
-- than so many, and those that it brought
pub record DrainsWith (largest window : ℕ) (ids : List CopyId) (birth : ℕ) (ns : List ℕ) (client : List ℕ) (number stood : ℕ)
    (w : World) : Type 0 where
  pub more : List CopyId
  pub new : AllByRecursion (IsBroughtCopy birth number) more
  pub differ : AllDiffer (ids ++ more)
  pub receiver : Receiver
  pub may : MayDrain largest window (ids ++ more) birth ns client receiver w
  pub few : copies_left client w ≤ stood + length more

-- if a filter is granted meanwhile, one that stood may also have been dropped, to make way in a full queue
abbrev pub EndsOrDrops : ℕ → List ℕ → Option Lot → Option Lot → Type 0
EndsOrDrops largest moments None later = ⊤
EndsOrDrops largest moments (Some (standing e m)) None = ⊥
EndsOrDrops largest moments (Some (standing e m)) (Some (standing f k)) = f.copy ≡ e.copy
EndsOrDrops largest moments (Some (standing e m)) (Some (past ending f k)) = (ending ≡ Dropped) ⊎ IsDrainCause largest moments e.copy ending
EndsOrDrops largest moments (Some (past ending e m)) None = ⊥
EndsOrDrops largest moments (Some (past ending e m)) (Some (standing f k)) = ⊥
EndsOrDrops largest moments (Some (past ending e m)) (Some (past other f k)) = other ≡ ending

-- the same, with what became of the copies that stood at the start
pub record DrainsBehind (largest window : ℕ) (ids : List CopyId) (birth : ℕ) (ns : List ℕ) (client : List ℕ)
    (number stood moment : ℕ) (copies : List Lot) (w : World) : Type 0 where
  pub drains : DrainsWith largest window ids birth ns client number stood w
  pub numbering : Numbering
  pub after : List Lot
  pub same : map id_of after ≡ ids ++ drains.more
  pub run_is : IsRun numbering largest after drains.receiver w.broker
  pub ends : (n : ℕ) → EndsOrDrops largest (moment ∷ []) (slice_get copies n) (slice_get after n)

-- ---- what becomes of it

-- the moment of a step that is taken in this world
abbrev pub moment_of : World → ℕ
moment_of w = (at_moment w.now w.broker).now

-- it may be drained still, and sees this hop, with the same copies
pub record ComesTo (number : Numbering) (largest window : ℕ) (ids : List CopyId) (birth : ℕ) (ns : List ℕ)
    (client : List ℕ) (hop : Hop) (w : World) : Type 0 where
  pub receiver : Receiver
  pub may : MayDrain largest window ids birth ns client receiver w
  pub copies : List Lot
  pub same : map id_of copies ≡ ids
  pub run_is : IsRun number largest copies receiver w.broker
  pub seen_is : seen number copies receiver w.broker ≡ hop

-- the moments of so many rounds of a drain
abbrev pub moments_of : Capacity → MemberChoice → List ℕ → ℕ → World → List ℕ
moments_of limits choice client zero w = []
moments_of limits choice client (suc more) w =
    moment_of w ∷ moments_of limits choice client more (after_round limits choice client w)

-- it may be drained still; its copies are the same, and each that ended meanwhile was taken, had expired at this moment
-- already, or is too large
pub record IsDrained (number : Numbering) (largest window : ℕ) (ids : List CopyId) (birth : ℕ) (ns : List ℕ)
    (client : List ℕ) (moment : ℕ) (copies : List Lot) (w : World) : Type 0 where
  pub receiver : Receiver
  pub may : MayDrain largest window ids birth ns client receiver w
  pub after : List Lot
  pub same : map id_of after ≡ ids
  pub run_is : IsRun number largest after receiver w.broker
  pub ends : (n : ℕ) → EndsBy largest (moment ∷ []) (slice_get copies n) (slice_get after n)
