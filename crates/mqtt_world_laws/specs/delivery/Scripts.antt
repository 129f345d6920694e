-- What holds of every run of the world, all of it, and of the drains of a script (MQTT 5.0, 3.3.4, 4.3, 4.4, 4.6, 4.8, 4.9).
use Rattle.std.specs.Prelude.{◌≡◌, ◌≤◌, All, ℕ, ⊤, true, List, [], ◌∷◌, ◌++◌, Some, filter_map}
use Rattle.mqtt_base.specs.declared.session.CopyId.{CopyId}
use Rattle.mqtt_world_laws.specs.receiver.Drains.{Doing, after_round, copies_left, drained, drains, enough_rounds, happens, is_over, rounds_taken, turns_of}
use Rattle.mqtt_world_model.specs.model.Ends.{Receiver}
use Rattle.mqtt_world_model.specs.model.Laws.{copies_in, handed_count, released_in, stand_among}
use Rattle.mqtt_world_model.specs.model.Run.{Turn, acceptances_over, deeds_over, ended_in, run}
use Rattle.mqtt_world_model.specs.model.World.{World, receiver_named}
use Rattle.mqtt_rules.specs.step.Laws.{FewOpen}
use Rattle.mqtt_rules.specs.step.Numbers.{HasAcceptedNumbers}
use Rattle.mqtt_rules.specs.step.State.{MemberChoice, session_named}
use Rattle.mqtt_rules.specs.declared.step.Capacity.{Capacity}
use Rattle.mqtt_world_laws.specs.acceptance.AtOnce.{AllGoOut}
use Rattle.mqtt_world_laws.specs.acceptance.Copies.{AreCountedOn, AreRouted, IsBalanced, entered_from}
use Rattle.mqtt_world_laws.specs.acceptance.Entries.{IsEntered}
use Rattle.mqtt_world_laws.specs.acceptance.Identities.{EndsOnce, EntersOnce, WaitsOrHasEnded}
use Rattle.mqtt_world_laws.specs.acceptance.Once.{HasCarried, IsAcceptedOnce}
use Rattle.mqtt_world_laws.specs.delivery.HandedOnce.{CarriesEach, WasHanded}
use Rattle.mqtt_world_laws.specs.delivery.HandedOver.{AreHandedInOrder, CarryQueued, WasHandedOver, queued_by}

-- ---- a run

-- each message of a publisher is accepted once, with what it carries; each publication is routed, and its copies enter, each
-- once, and wait or have one end; those of QoS 0 go out at once; and each receiver was handed its copies once, in the order in
-- which they entered, with what their publications carry, and each that ended as taken
pub record DeliversOnce (limits : Capacity) (ts : List Turn) (w : World) : Type 0 where
  pub accepted : (client : List ℕ) (n : ℕ) → IsAcceptedOnce client n limits ts w
  pub carried : (client : List ℕ) → HasCarried client limits ts w
  pub few_open : FewOpen (run limits ts w).broker.records
  pub routed : AreRouted limits ts w
  pub numbered : AreCountedOn limits ts w
  pub entered : IsEntered limits ts w
  pub enters : (copy : CopyId) → EntersOnce copy limits ts w
  pub ends : (copy : CopyId) → EndsOnce copy limits ts w
  pub waits_or_has_ended : (copy : CopyId) → WaitsOrHasEnded copy limits ts w
  pub balanced : (copy : CopyId) → IsBalanced copy limits ts w
  pub goes_out : AllGoOut limits ts w
  pub handed : (client : List ℕ) (r : Receiver) → receiver_named client (run limits ts w) ≡ Some r
      → WasHandedOver r (run limits ts w).broker
  pub carries : (client : List ℕ) (r : Receiver) → receiver_named client (run limits ts w) ≡ Some r
      → CarryQueued (session_named r.client (run limits ts w).broker.records) r.ledger
      × CarryQueued (session_named r.client (run limits ts w).broker.records) r.once
  -- from any moment of the run, at which the receiver was q, to its end
  pub for_good : (xs ys : List Turn) → xs ++ ys ≡ ts → (client : List ℕ) (q r : Receiver)
      → receiver_named client (run limits xs w) ≡ Some q → receiver_named client (run limits ts w) ≡ Some r
      → All (λ (copy : CopyId). handed_count copy r ≡ 1)
      (released_in (session_named q.client (run limits xs w).broker.records))
  pub in_order : (xs ys : List Turn) → xs ++ ys ≡ ts → (client : List ℕ) (q r : Receiver)
      → receiver_named client (run limits xs w) ≡ Some q → receiver_named client (run limits ts w) ≡ Some r
      → AreHandedInOrder (queued_by (session_named q.client (run limits xs w).broker.records)) r
  -- what of its copies ended as taken since then was handed over
  pub taken : (xs ys : List Turn) → xs ++ ys ≡ ts → (client : List ℕ) (q r : Receiver)
      → receiver_named client (run limits xs w) ≡ Some q → receiver_named client (run limits ts w) ≡ Some r
      → All (WasHanded client r) (filter_map ended_in (deeds_over limits ys (run limits xs w)))
  pub as_entered : (client : List ℕ) (r : Receiver) → receiver_named client (run limits ts w) ≡ Some r
      → stand_among (copies_in r.ledger) (entered_from limits ts w) ≡ true
  -- what it has read of each publication's copies carries what that does, if what was stored has numbers that were given
  pub carries_each : HasAcceptedNumbers w.broker.records → (client : List ℕ) (r : Receiver)
      → receiver_named client (run limits ts w) ≡ Some r → All (CarriesEach r) (acceptances_over limits ts w)

-- ---- drains

-- it takes no more rounds than are enough for the copies that stand after the first one; and after so many the queue is empty,
-- or the broker has closed the receiver's line, or it has none
pub record DrainEnds (limits : Capacity) (choice : MemberChoice) (client : List ℕ) (most : ℕ) (w : World) : Type 0 where
  pub is_within : rounds_taken limits choice client most w
      ≤ enough_rounds (copies_left client (after_round limits choice client w))
  pub over : enough_rounds (copies_left client (after_round limits choice client w)) ≤ most
      → is_over client (drained limits choice client most w) ≡ true

abbrev pub EndsWhere : Capacity → Doing → World → Type 0
EndsWhere limits (happens t) w = ⊤
EndsWhere limits (drains choice client most) w = DrainEnds limits choice client most w

-- each of a script, from where the script has come to
abbrev pub AllDrainsEnd : Capacity → List Doing → World → Type 0
AllDrainsEnd limits [] w = ⊤
AllDrainsEnd limits (d ∷ ds) w = EndsWhere limits d w × AllDrainsEnd limits ds (run limits (turns_of limits d w) w)
