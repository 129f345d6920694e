-- What a drain of a receiver comes to, turn by turn, each by a choice of members of its own (MQTT 5.0, 4.3, 4.4, 4.6).
use Rattle.std.specs.Prelude.{◌≡◌, ℕ, zero, suc, true, false, List, [], ◌∷◌, ◌++◌}
use Rattle.mqtt_rules.specs.step.State.{MemberChoice}
use Rattle.mqtt_rules.specs.declared.step.Capacity.{Capacity}
use Rattle.mqtt_world_model.specs.model.Run.{Turn, deeds_over, run}
use Rattle.mqtt_world_model.specs.model.Tellings.{Telling, silent, telling}
use Rattle.mqtt_world_model.specs.model.World.{Event, World, ask, pump, receiver_named, to_broker, to_end}
use Rattle.mqtt_world_laws.specs.receiver.Drains.{downs_by, drain_turns, drained, is_bad_drain, is_over, rounds_taken, times, ups_by}
use Rattle.mqtt_world_laws.specs.acceptance.Spending.{run_spends}
use Rattle.mqtt_world.specs.script_laws.Turns.{IsTurn, both_tell, events_of}

-- ---- rounds

-- the event happens so many times, and this is what they tell together
abbrev pub Repeats : Capacity → ℕ → Event → Telling → World → World → Type 0
Repeats limits zero e t w after = (t ≡ silent) × (after ≡ w)
Repeats limits (suc more) e t w after =
    (first : Telling) × (rest : Telling) × (mid : World) × IsTurn limits e first w mid × Repeats limits more e rest mid after
    × (t ≡ both_tell first rest)

-- the broker sends; the receiver reads all that is under way to it then; and the broker all that is under way from it then
pub record IsRound (limits : Capacity) (client : List ℕ) (t : Telling) (w after : World) : Type 0 where
  pub first : Telling
  pub second : Telling
  pub third : Telling
  pub sent : World
  pub read : World
  pub sends : IsTurn limits (ask (pump client)) first w sent
  pub reads : Repeats limits (downs_by (receiver_named client sent)) (to_end client) second sent read
  pub answers : Repeats limits (ups_by (receiver_named client read)) (ask (to_broker client)) third read after
  pub told : t ≡ both_tell first (both_tell second third)

-- so many rounds, each where the drain is not over yet
abbrev pub MakesRounds : Capacity → List ℕ → ℕ → Telling → World → World → Type 0
MakesRounds limits client zero t w after = (t ≡ silent) × (after ≡ w)
MakesRounds limits client (suc more) t w after =
    (is_over client w ≡ false) × (first : Telling) × (rest : Telling) × (mid : World) × IsRound limits client first w mid
    × MakesRounds limits client more rest mid after × (t ≡ both_tell first rest)

-- of a receiver whose line stands: rounds until it is over
pub record DrainHappens (limits : Capacity) (client : List ℕ) (t : Telling) (w after : World) : Type 0 where
  pub good : is_bad_drain client w ≡ false
  pub rounds : ℕ
  pub made : MakesRounds limits client rounds t w after
  pub over : is_over client after ≡ true

-- ---- the turns of a drain

-- those of a round
pub record AreTurnsOfRound (limits : Capacity) (client : List ℕ) (turns : List Turn) (w : World) : Type 0 where
  pub sends : List Turn
  pub reads : List Turn
  pub answers : List Turn
  pub sends_are : events_of sends ≡ ask (pump client) ∷ []
  pub reads_are : events_of reads ≡ times (downs_by (receiver_named client (run limits sends w))) (to_end client)
  pub answers_are : events_of answers
      ≡ times (ups_by (receiver_named client (run limits reads (run limits sends w)))) (ask (to_broker client))
  pub are : turns ≡ sends ++ reads ++ answers

-- those of so many rounds, each where the drain is not over yet; after them it is
abbrev pub AreTurnsOfRounds : Capacity → List ℕ → ℕ → List Turn → World → Type 0
AreTurnsOfRounds limits client zero turns w = (is_over client w ≡ true) × (turns ≡ [])
AreTurnsOfRounds limits client (suc more) turns w =
    (is_over client w ≡ false) × (first : List Turn) × (rest : List Turn) × AreTurnsOfRound limits client first w
    × AreTurnsOfRounds limits client more rest (run limits first w) × (turns ≡ first ++ rest)

pub record AreTurnsOfDrain (limits : Capacity) (client : List ℕ) (turns : List Turn) (w : World) : Type 0 where
  pub good : is_bad_drain client w ≡ false
  pub rounds : ℕ
  pub are : AreTurnsOfRounds limits client rounds turns w

-- ---- by one choice

-- the drain of so many rounds at most by this one choice comes to that world, after as many rounds, tells this, and spends no
-- number
pub record DrainsBy (limits : Capacity) (choice : MemberChoice) (client : List ℕ) (most rounds : ℕ) (t : Telling) (w after : World)
    : Type 0 where
  pub is : after ≡ drained limits choice client most w
  pub taken : rounds_taken limits choice client most w ≡ rounds
  pub told : t ≡ telling (deeds_over limits (drain_turns limits choice client most w) w)
  pub unspent : run_spends limits (drain_turns limits choice client most w) w ≡ false
