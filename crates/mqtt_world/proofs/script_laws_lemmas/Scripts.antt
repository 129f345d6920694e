-- A script's events, one after the other: the turns that they come to, and runs behind runs.
use Rattle.std.proofs.Common.{◌≡◌, ℕ, List, [], ◌∷◌, ◌++◌, Some, refl, sym, subst, ◌∙◌}
use Rattle.mqtt_world_model.specs.model.Run.{Turn, run}
use Rattle.mqtt_world_model.specs.model.Tellings.{Telling}
use Rattle.mqtt_world_model.specs.model.World as world
use Rattle.mqtt_world_model.specs.model.World.{World}
use Rattle.mqtt_rules.specs.declared.step.Capacity.{Capacity}
use Rattle.mqtt_script.specs.declared.event.Event.{Event}
use Rattle.mqtt_script.specs.declared.event.Event.TheVariants.{Drain}
use Rattle.mqtt_world_laws.proofs.receiver_lemmas.drains.DrainRuns.{run_append}
use Rattle.mqtt_world.specs.script_laws.Drains.{DrainHappens}
use Rattle.mqtt_world.specs.script_laws.Scripted.{AreTurnsFor, Happens, IsRunOf, Passes, RunsTo, as_drain, as_event, event_of, of_drain, of_event}
pub use Rattle.mqtt_world.proofs.script_laws_lemmas.Costs.{spent_joined}
use Rattle.mqtt_world.proofs.script_laws_lemmas.DrainTurns.{Leads, rounds_by_turns}

-- ---- the turns of an event

passed : (limits : Capacity) (e : Event) (t : Telling) (w after : World) → Passes limits e t w after → (ts : List Turn) × AreTurnsFor limits e ts w × Leads limits ts w after
passed limits e t w after (as_event x at does) = (does.turns, of_event x at does.good does.unrolls, record { is = does.is; unspent = does.unspent })
passed limits e t w after (as_drain client at does) =
    let x = rounds_by_turns limits client does.rounds t w after does.made does.over in
    (x.0, of_drain client at (record { good = does.good; rounds = does.rounds; are = x.1 }), x.2)

-- what a script runs to is a run of its events
pub runs_by_turns : (limits : Capacity) (es : List Event) (tells : List Telling) (w after : World) → RunsTo limits es tells w after → IsRunOf limits es w after
runs_by_turns limits [] tells w after h = record { turns = []; are = refl; unspent = refl; is = h.1 }
runs_by_turns limits (e ∷ es) [] w after h = absurd h
runs_by_turns limits (e ∷ es) (t ∷ ts) w after (mid, does, more) =
    let front = passed limits e t w mid does in
    let rest : IsRunOf limits es (run limits front.0 w) after = subst (λ (v : World). IsRunOf limits es v after) front.2.is (runs_by_turns limits es ts mid after more) in
    record {
      turns = front.0 ++ rest.turns;
      are = (front.0, rest.turns, front.1, refl, rest.are);
      unspent = spent_joined limits front.0 rest.turns w front.2.unspent rest.unspent;
      is = rest.is ∙ sym (run_append limits front.0 rest.turns w);
    }

-- two scripts that run one behind the other are one
pub runs_join : (limits : Capacity) (es more : List Event) (tells others : List Telling) (w mid after : World) → RunsTo limits es tells w mid → RunsTo limits more others mid after → RunsTo limits (es ++ more) (tells ++ others) w after
runs_join limits [] more tells others w mid after h k = subst (λ (ts : List Telling). RunsTo limits more (ts ++ others) w after) (sym h.0) (subst (λ (v : World). RunsTo limits more others v after) h.1 k)
runs_join limits (e ∷ es) more [] others w mid after h k = absurd h
runs_join limits (e ∷ es) more (t ∷ ts) others w mid after (v, does, rest) k = (v, does, runs_join limits es more ts others v mid after rest k)

-- one event more, where the others have come to
pub runs_further : (limits : Capacity) (es : List Event) (tells : List Telling) (e : Event) (x : world.Event) (t : Telling) (w mid after : World) → RunsTo limits es tells w mid
    → event_of e ≡ Some x → Happens limits x t mid after → RunsTo limits (es ++ e ∷ []) (tells ++ t ∷ []) w after
runs_further limits es tells e x t w mid after runs at does = runs_join limits es (e ∷ []) tells (t ∷ []) w mid after runs (after, as_event x at does, (refl, refl))

-- a drain behind a script is one event more
pub runs_drained : (limits : Capacity) (es : List Event) (tells : List Telling) (client : List ℕ) (t : Telling) (w mid after : World) → RunsTo limits es tells w mid
    → DrainHappens limits client t mid after → RunsTo limits (es ++ Drain client ∷ []) (tells ++ t ∷ []) w after
runs_drained limits es tells client t w mid after runs does = runs_join limits es (Drain client ∷ []) tells (t ∷ []) w mid after runs (after, as_drain client refl does, (refl, refl))
