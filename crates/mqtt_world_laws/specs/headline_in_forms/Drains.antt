-- Drains and scripts of runs in which PUBLISH goes out in forms (MQTT 5.0, 3.3.2.3.4, 4.3, 4.4, 4.6).
use Rattle.std.specs.Prelude.{ℕ, zero, suc, cond, List, [], ◌∷◌, ◌++◌}
use Rattle.mqtt_rules.specs.step.State.{MemberChoice}
use Rattle.mqtt_rules.specs.declared.step.Capacity.{Capacity}
use Rattle.mqtt_world_model.specs.model.Run.{Turn}
use Rattle.mqtt_world_model.specs.model.World.{ask, pump}
use Rattle.mqtt_world_laws.specs.receiver.Drains.{Doing, all_to_broker, all_to_end, count_by_end, drain_by, drains, happens, is_bad_drain, is_over, turn_of}
use Rattle.mqtt_world_laws.specs.telling.AsSent.{AsSent, Most, run}

-- the broker sends, the receiver reads all, and the broker reads all
abbrev pub round_turns : Most → Capacity → MemberChoice → List ℕ → AsSent → List Turn
round_turns most limits choice client s =
    let sends = turn_of choice (ask (pump client)) ∷ [] in
    let sent = run most limits sends s in
    let reads = all_to_end choice client sent.world in
    sends ++ reads ++ all_to_broker choice client (run most limits reads sent).world

abbrev pub after_round : Most → Capacity → MemberChoice → List ℕ → AsSent → AsSent
after_round most limits choice client s = run most limits (round_turns most limits choice client s) s

-- a drain of so many rounds at most
abbrev pub drain_turns : Most → Capacity → MemberChoice → List ℕ → ℕ → AsSent → List Turn
drain_turns most limits choice client zero s = []
drain_turns most limits choice client (suc more) s =
    drain_by (is_over client s.world) (round_turns most limits choice client s)
    (drain_turns most limits choice client more (after_round most limits choice client s))

-- how many rounds it takes
abbrev pub rounds_taken : Most → Capacity → MemberChoice → List ℕ → ℕ → AsSent → ℕ
rounds_taken most limits choice client zero s = 0
rounds_taken most limits choice client (suc more) s =
    count_by_end (is_over client s.world)
    (rounds_taken most limits choice client more (after_round most limits choice client s))

abbrev pub drained : Most → Capacity → MemberChoice → List ℕ → ℕ → AsSent → AsSent
drained most limits choice client rounds s = run most limits (drain_turns most limits choice client rounds s) s

-- ---- scripts: a bad drain does nothing

abbrev pub turns_of : Most → Capacity → Doing → AsSent → List Turn
turns_of most limits (happens t) s = t ∷ []
turns_of most limits (drains choice client rounds) s =
    cond (is_bad_drain client s.world) [] (drain_turns most limits choice client rounds s)

abbrev pub all_turns : Most → Capacity → List Doing → AsSent → List Turn
all_turns most limits [] s = []
all_turns most limits (d ∷ ds) s =
    let turns = turns_of most limits d s in
    turns ++ all_turns most limits ds (run most limits turns s)

-- the world after them
abbrev pub after_doings : Most → Capacity → List Doing → AsSent → AsSent
after_doings most limits [] s = s
after_doings most limits (d ∷ ds) s = after_doings most limits ds (run most limits (turns_of most limits d s) s)
