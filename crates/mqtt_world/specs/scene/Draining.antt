-- What a drain makes of a broker and its ends: rounds until nothing waits for a receiver (MQTT 5.0, 4.3, 4.4, 4.6).
use Rattle.std.specs.Prelude.{◌≡◌, ℕ, true, List, Option, None, Some}
use Rattle.mqtt_keep.specs.declared.keeping.keep.Keep.{Ghosts}
use Rattle.mqtt_world_model.specs.model.Tellings.{Telling}
use Rattle.mqtt_world_model.specs.model.World.{Event, Stranger, World, ask, receiver_named, to_broker, to_end}
use Rattle.mqtt_world_laws.specs.receiver.Drains.{downs_by, is_bad_drain, is_over, ups_by}
use Rattle.mqtt_rules.specs.declared.step.Capacity.{Capacity}
use Rattle.mqtt_world.specs.script_laws.Drains.{DrainHappens, IsRound, MakesRounds, Repeats}
use Rattle.mqtt_world.specs.script_laws.Turns.{IsTurn, both_tell}
use Rattle.mqtt_world_laws.specs.knowing.Knowing.{HasKnowingEnds}
use Rattle.mqtt_world.specs.scene.Events.{IsReached, SpellsAll, world_of}
use Rattle.mqtt_world.specs.scene.Scenes.{IsPlayable, Played, WasSound}

-- ---- what happens in a drain, tells something, and leads from one world to another

-- one turn of an event, and so many
abbrev pub once : Event → Capacity → Telling → World → World → Type 0
once e limits t w after = IsTurn limits e t w after

abbrev pub so_often : ℕ → Event → Capacity → Telling → World → World → Type 0
so_often times e limits t w after = Repeats limits times e t w after

-- a receiver reads all packets that are under way to it, and the broker all from it
abbrev pub reads_all : List ℕ → Capacity → Telling → World → World → Type 0
reads_all client limits t w after = Repeats limits (downs_by (receiver_named client w)) (to_end client) t w after

abbrev pub answers_all : List ℕ → Capacity → Telling → World → World → Type 0
answers_all client limits t w after = Repeats limits (ups_by (receiver_named client w)) (ask (to_broker client)) t w after

-- one round, so many, and so many after which the drain is over
abbrev pub one_round : List ℕ → Capacity → Telling → World → World → Type 0
one_round client limits t w after = IsRound limits client t w after

abbrev pub so_many_rounds : List ℕ → ℕ → Capacity → Telling → World → World → Type 0
so_many_rounds client rounds limits t w after = MakesRounds limits client rounds t w after

abbrev pub all_rounds : List ℕ → ℕ → Capacity → Telling → World → World → Type 0
all_rounds client rounds limits t w after = MakesRounds limits client rounds t w after × (is_over client after ≡ true)

-- at a moment this happens, whatever strangers there are, over a store whose device is sound after it; and what it tells is told
-- behind what was told before
pub record GoesOn {K : Type 0} (g : Ghosts K) (now : ℕ) (leads : Capacity → Telling → World → World → Type 0) (old : Played K) (before after : Telling)
    (new : Played K) : Type 0 where
  pub playable : IsPlayable g new
  pub limits : new.engine.running.limits ≡ old.engine.running.limits
  pub sound : WasSound g old new
  pub reached : g.is_sound new.engine.running.keep → IsReached old.engine.running.limits old.engine.running.broker
      → IsReached old.engine.running.limits new.engine.running.broker
  pub t : Telling
  pub told : after ≡ both_tell before t
  pub done : g.is_sound new.engine.running.keep → SpellsAll old.engine.running.limits
      → IsReached old.engine.running.limits old.engine.running.broker → (strangers : List Stranger) → HasKnowingEnds (world_of now strangers old)
      → leads old.engine.running.limits t (world_of now strangers old) (world_of now strangers new)

-- ---- a drain

-- what it tells, and its rounds; or it can't happen there, and nothing changed
abbrev pub IsDrainDone : Capacity → List ℕ → Option (Telling × ℕ) → World → World → Type 0
IsDrainDone limits client None w after = (is_bad_drain client w ≡ true) × (after ≡ w)
IsDrainDone limits client (Some x) w after = (h : DrainHappens limits client x.0 w after) × (h.rounds ≡ x.1)

-- what it leaves at a moment, whatever strangers there are; over a store whose device is sound after it
pub record Drains {K : Type 0} (g : Ghosts K) (now : ℕ) (client : List ℕ) (old : Played K) (x : Option (Telling × ℕ)) (new : Played K) : Type 0 where
  pub playable : IsPlayable g new
  pub limits : new.engine.running.limits ≡ old.engine.running.limits
  pub sound : WasSound g old new
  pub reached : g.is_sound new.engine.running.keep → IsReached old.engine.running.limits old.engine.running.broker
      → IsReached old.engine.running.limits new.engine.running.broker
  pub done : g.is_sound new.engine.running.keep → SpellsAll old.engine.running.limits
      → IsReached old.engine.running.limits old.engine.running.broker → (strangers : List Stranger) → HasKnowingEnds (world_of now strangers old)
      → IsDrainDone old.engine.running.limits client x (world_of now strangers old) (world_of now strangers new)
