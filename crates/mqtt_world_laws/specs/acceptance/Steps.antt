-- The steps of a run that were committed: the broker's calls and openings, each with its deeds (MQTT 5.0, 4.1).
use Rattle.std.specs.Prelude.{List, [], ◌∷◌, ◌++◌}
use Rattle.mqtt_rules.specs.declared.step.Capacity.{Capacity}
use Rattle.mqtt_rules.specs.step.State.{Broker, Env}
use Rattle.mqtt_rules.specs.step.Deeds.{Deed}
use Rattle.mqtt_rules.specs.step.Step.{Call, NewLine, env_of, at_moment, deeds, opening, unopened}
use Rattle.mqtt_world_model.specs.model.World.{Setting, World}
use Rattle.mqtt_world_model.specs.model.Run.{Reading, Turn, read_over}

-- its deeds, with the limits and the choice of members, and the state on which they come
pub record Step : Type 0 where
  pub env : Env
  pub deeds : List Deed
  pub broker : Broker

abbrev pub step_called : Setting → Call → World → Step
step_called set call w = record {
  env = env_of set.limits set.choice w.broker;
  deeds = deeds set.limits set.choice w.now call w.broker;
  broker = at_moment w.now w.broker;
}

abbrev pub opening_step : Setting → World → Step
opening_step set w =
    let b = unopened w.now w.broker.records in
    let env = env_of set.limits set.choice b in
    record { env = env; deeds = opening env b; broker = b }

abbrev pub the_steps : Reading (List Step)
the_steps = record {
  nothing = [];
  join = λ first more. first ++ more;
  linked = λ set w. step_called set NewLine w ∷ [];
  called = λ set call w. step_called set call w ∷ [];
  opened = λ set w. opening_step set w ∷ [];
}

abbrev pub steps_over : Capacity → List Turn → World → List Step
steps_over limits ts w = read_over the_steps limits ts w
