-- Exactly-once delivery, whole: what holds of every run of the world, and of every script of events and drains (MQTT 5.0, 3.3.4,
-- 4.3, 4.4, 4.6, 4.8, 4.9).
use Rattle.std.specs.Prelude.{◌≡◌, ◌≤◌, ◌+◌, ⊤, All, ℕ, true, false, List, [], ◌∷◌, ◌++◌, Some, filter_map, length}
use Rattle.mqtt_base.specs.declared.session.CopyId.{CopyId}
use Rattle.mqtt_rules.specs.step.Laws.{FewOpen}
use Rattle.mqtt_rules.specs.step.State.{MemberChoice, session_named}
use Rattle.mqtt_rules.specs.declared.step.Capacity.{Capacity}
use Rattle.mqtt_world_model.specs.model.Ends.{Entry, Receiver}
use Rattle.mqtt_world_model.specs.model.Laws.{copies_in, handed_count, released_in, stand_among}
use Rattle.mqtt_world_model.specs.model.Run.{Turn, acceptances_over, deeds_over, ended_in, run}
use Rattle.mqtt_world_model.specs.model.World.{World, receiver_named}
use Rattle.mqtt_world_laws.specs.acceptance.AtOnce.{AllGoOut}
use Rattle.mqtt_world_laws.specs.acceptance.Copies.{AreCountedOn, AreRouted, IsBalanced, entered_from}
use Rattle.mqtt_world_laws.specs.acceptance.Entries.{IsEntered}
use Rattle.mqtt_world_laws.specs.acceptance.Identities.{EndsOnce, EntersOnce, WaitsOrHasEnded}
use Rattle.mqtt_world_laws.specs.acceptance.Once.{HasCarried, IsAcceptedOnce}
use Rattle.mqtt_world_laws.specs.routing.Intended.{AllEnterAsIntended}
use Rattle.mqtt_world_laws.specs.routing.Members.{AllHaveLines}
use Rattle.mqtt_world_laws.specs.causes.Causes.{EachHasItsCause}
use Rattle.mqtt_world_laws.specs.causes.Endings.{AreAllEnds}
use Rattle.mqtt_world_laws.specs.receiver.Drains.{Doing, after_doings, all_turns, copies_left, drain_turns, drains, enough_rounds, happens}
use Rattle.mqtt_world_laws.specs.receiver.Drains.{is_bad_drain, rounds_taken, turns_of}
use Rattle.mqtt_world_laws.specs.delivery.HandedOnce.{CarriesEach, WasHanded}
use Rattle.mqtt_world_laws.specs.delivery.HandedOver.{AreHandedInOrder, CarryQueued, WasHandedOver, queued_by}
use Rattle.mqtt_world_laws.specs.unsent.Unsent.{IsOver, WasLeftWaiting, WasNeverHanded}
use Rattle.mqtt_world_laws.specs.drains.Emptied.{EmptiesQueue}
use Rattle.mqtt_world_laws.specs.drain_causes.DrainEnds.{EndOfDrain}
use Rattle.mqtt_world_laws.specs.drain_causes.Fitting.{AllDrainsFit}

-- ---- messages are accepted once

-- each message of a publisher, with what it carries; and no session has over 20 identifiers open
pub record AcceptsOnce (limits : Capacity) (ts : List Turn) (w : World) : Type 0 where
  pub each : (client : List ℕ) (n : ℕ) → IsAcceptedOnce client n limits ts w
  pub carried : (client : List ℕ) → HasCarried client limits ts w
  pub few_open : FewOpen (run limits ts w).broker.records

-- ---- copies enter once

-- Publications are routed, and numbered one after the other. Of each its intended copies of QoS 1 and 2 enter queues, each once,
-- and beside them those alone that a SUBSCRIBE brings of retained messages; its copies of QoS 0 go out at once, and whoever is to
-- get one for a group stands on a line
pub record EntersAllOnce (limits : Capacity) (ts : List Turn) (w : World) : Type 0 where
  pub routed : AreRouted limits ts w
  pub numbered : AreCountedOn limits ts w
  pub intended : AllEnterAsIntended limits ts w
  pub brought : IsEntered limits ts w
  pub once : (copy : CopyId) → EntersOnce copy limits ts w
  pub at_once : AllGoOut limits ts w
  pub lines : AllHaveLines limits ts w

-- ---- copies end once

-- a copy waits or has one end, never both, and none is lost; and each end has its cause, in the step that makes it
pub record EndsAllOnce (limits : Capacity) (ts : List Turn) (w : World) : Type 0 where
  pub once : (copy : CopyId) → EndsOnce copy limits ts w
  pub waits_or_has_ended : (copy : CopyId) → WaitsOrHasEnded copy limits ts w
  pub balanced : (copy : CopyId) → IsBalanced copy limits ts w
  pub causes : EachHasItsCause limits ts w
  pub all : AreAllEnds limits ts w

-- ---- copies are handed over once

-- From a moment at which a receiver was q, to one at which it is r. What it had read it has still. It was handed, and once, what
-- was released then, and what of its copies has ended as taken since; and in the order of the queue what stood there then
pub record HandsOverFrom (limits : Capacity) (ys : List Turn) (v : World) (client : List ℕ) (q r : Receiver) : Type 0 where
  pub grows : (more : List Entry) × (r.ledger ≡ q.ledger ++ more)
  pub for_good : All (λ (copy : CopyId). handed_count copy r ≡ 1) (released_in (session_named q.client v.broker.records))
  pub taken : All (WasHanded client r) (filter_map ended_in (deeds_over limits ys v))
  pub in_order : AreHandedInOrder (queued_by (session_named q.client v.broker.records)) r

-- A receiver was handed each copy of QoS 2 at most once, in the order in which the copies entered over the run, and what it has
-- read carries what its publication does. Of what expired or made way in the run, in whatever step, it was handed none, nor has it
-- read any, nor of what else left its queue while it waited; and nothing of a copy is read once that has ended
pub record HandsOverOnce (limits : Capacity) (ts : List Turn) (w : World) (client : List ℕ) (r : Receiver) : Type 0 where
  pub once : (copy : CopyId) → handed_count copy r ≤ 1
  pub as_entered : stand_among (copies_in r.ledger) (entered_from limits ts w) ≡ true
  pub carries_each : All (CarriesEach r) (acceptances_over limits ts w)
  pub carries : CarryQueued (session_named r.client (run limits ts w).broker.records) r.ledger
      × CarryQueued (session_named r.client (run limits ts w).broker.records) r.once
  pub handed : WasHandedOver r (run limits ts w).broker
  pub never_handed : All (WasNeverHanded r) (filter_map ended_in (deeds_over limits ts w))
  pub left_waiting : All (WasLeftWaiting r) (deeds_over limits ts w)
  pub over : (xs ys : List Turn) → xs ++ ys ≡ ts → (q : Receiver) → receiver_named client (run limits xs w) ≡ Some q
      → All (IsOver q r) (filter_map ended_in (deeds_over limits xs w))
  pub since : (xs ys : List Turn) → xs ++ ys ≡ ts → (q : Receiver) → receiver_named client (run limits xs w) ≡ Some q
      → HandsOverFrom limits ys (run limits xs w) client q r

-- ---- a run

pub record DeliversExactlyOnce (limits : Capacity) (ts : List Turn) (w : World) : Type 0 where
  pub messages : AcceptsOnce limits ts w
  pub entering : EntersAllOnce limits ts w
  pub ending : EndsAllOnce limits ts w
  pub receivers : (client : List ℕ) (r : Receiver) → receiver_named client (run limits ts w) ≡ Some r
      → HandsOverOnce limits ts w client r

-- ---- a drain

-- the copies that stand in its receiver's queue at its start, and those that enter in it
abbrev pub copies_of_drain : Capacity → MemberChoice → List ℕ → ℕ → World → ℕ
copies_of_drain limits choice client most w =
    copies_left client w + length (entered_from limits (drain_turns limits choice client most w) w)

-- It takes at most two rounds for each of these, and one. If so many are allowed the queue is empty after it, its receiver's line
-- stands, and with more rounds nothing more happens. And the copies that end in it are its receiver's, each for its cause
pub record DrainsAll (limits : Capacity) (choice : MemberChoice) (client : List ℕ) (most : ℕ) (w : World) : Type 0 where
  pub is_within : rounds_taken limits choice client most w ≤ enough_rounds (copies_of_drain limits choice client most w)
  pub empties : EmptiesQueue limits choice client most w
  pub ends : EndOfDrain limits choice client most w

-- each drain of a script from where the script has come to; a bad one does nothing
abbrev pub DrainsWhere : Capacity → Doing → World → Type 0
DrainsWhere limits (happens t) w = ⊤
DrainsWhere limits (drains choice client most) w = is_bad_drain client w ≡ false → DrainsAll limits choice client most w

abbrev pub EachDrains : Capacity → List Doing → World → Type 0
EachDrains limits [] w = ⊤
EachDrains limits (d ∷ ds) w = DrainsWhere limits d w × EachDrains limits ds (run limits (turns_of limits d w) w)

-- ---- a script

-- It is the run of its events and of those that its drains are made of; all holds of that run, and of each drain. No copy ends in
-- a drain as too large
pub record DoingsDeliver (limits : Capacity) (ds : List Doing) (w : World) : Type 0 where
  pub is_run : after_doings limits ds w ≡ run limits (all_turns limits ds w) w
  pub delivers : DeliversExactlyOnce limits (all_turns limits ds w) w
  pub drained : EachDrains limits ds w
  pub fit : AllDrainsFit limits ds w
