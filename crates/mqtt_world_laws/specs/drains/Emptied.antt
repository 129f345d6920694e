-- What a drain that is not bad makes of a receiver's queue, and in how many rounds (MQTT 5.0, 4.3, 4.4, 4.6).
use Rattle.std.specs.Prelude.{◌≡◌, ◌≤◌, ◌+◌, ℕ, ⊤, false, List, [], ◌∷◌, length}
use Rattle.mqtt_world_laws.specs.receiver.Drains.{Doing, copies_left, drained, drains, enough_rounds, happens, is_bad_drain, round_turns}
use Rattle.mqtt_world_laws.specs.receiver.Drains.{rounds_taken, turns_of}
use Rattle.mqtt_world_model.specs.model.Run.{run}
use Rattle.mqtt_world_model.specs.model.Tellings.{queue_length}
use Rattle.mqtt_world_model.specs.model.World.{World}
use Rattle.mqtt_rules.specs.step.State.{MemberChoice, session_named}
use Rattle.mqtt_rules.specs.declared.step.Capacity.{Capacity}
use Rattle.mqtt_world_laws.specs.acceptance.Copies.{entered_from}

-- the copies that stand in its queue at the start, and those that enter in the first round
abbrev pub copies_to_take : Capacity → MemberChoice → List ℕ → World → ℕ
copies_to_take limits choice client w =
    copies_left client w + length (entered_from limits (round_turns limits choice client w) w)

-- two rounds may be taken for each of them, and one more
abbrev pub HasEnough : Capacity → MemberChoice → List ℕ → ℕ → World → Type 0
HasEnough limits choice client most w = enough_rounds (copies_to_take limits choice client w) ≤ most

-- how many copies wait for the receiver, or are in flight to it
abbrev pub waiting_for : List ℕ → World → ℕ
waiting_for client w = queue_length (session_named client w.broker.records)

-- it takes no more rounds than that; after them the queue is empty, and the receiver's line stands still, so that it may be
-- drained again; and with more rounds nothing more happens
pub record EmptiesQueue (limits : Capacity) (choice : MemberChoice) (client : List ℕ) (most : ℕ) (w : World) : Type 0 where
  pub is_within : rounds_taken limits choice client most w ≤ enough_rounds (copies_to_take limits choice client w)
  pub empty : HasEnough limits choice client most w → waiting_for client (drained limits choice client most w) ≡ 0
  pub good : HasEnough limits choice client most w → is_bad_drain client (drained limits choice client most w) ≡ false
  pub rests : HasEnough limits choice client most w → (more : ℕ) → most ≤ more
      → (rounds_taken limits choice client more w ≡ rounds_taken limits choice client most w)
      × (drained limits choice client more w ≡ drained limits choice client most w)

-- ---- the drains of a script, each from where the script has come to; one that is bad does nothing

abbrev pub EmptiesWhere : Capacity → Doing → World → Type 0
EmptiesWhere limits (happens t) w = ⊤
EmptiesWhere limits (drains choice client most) w = is_bad_drain client w ≡ false → EmptiesQueue limits choice client most w

abbrev pub AllDrainsEmpty : Capacity → List Doing → World → Type 0
AllDrainsEmpty limits [] w = ⊤
AllDrainsEmpty limits (d ∷ ds) w = EmptiesWhere limits d w × AllDrainsEmpty limits ds (run limits (turns_of limits d w) w)
