-- A script with drains is a run of the events that its drains are made of.
use Rattle.std.proofs.Common.{◌≡◌, List, [], ◌∷◌, ◌++◌, refl, sym, ◌∙◌}
use Rattle.mqtt_rules.specs.declared.step.Capacity.{Capacity}
use Rattle.mqtt_world_model.specs.model.Run.{Turn, run, turned}
use Rattle.mqtt_world_model.specs.model.World.{World}
use Rattle.mqtt_world_laws.specs.receiver.Drains.{Doing, after_doings, all_turns, turns_of}

-- two runs one behind the other are one
pub run_append : (limits : Capacity) (xs ys : List Turn) (w : World) → run limits (xs ++ ys) w ≡ run limits ys (run limits xs w)
run_append limits [] ys w = refl
run_append limits (t ∷ ts) ys w = run_append limits ts ys (turned limits t w)

-- what is done with drains is a run of their turns
pub drains_are_runs : (limits : Capacity) (ds : List Doing) (w : World) → after_doings limits ds w ≡ run limits (all_turns limits ds w) w
drains_are_runs limits [] w = refl
drains_are_runs limits (d ∷ ds) w =
    let turns = turns_of limits d w in
    let v = run limits turns w in
    drains_are_runs limits ds v ∙ sym (run_append limits turns (all_turns limits ds v) w)
