-- Runs in which no number is spent: each step that is committed gives numbers, places and orders of release up to
-- 2^62, the last that the tables hold (ours).
use Rattle.std.specs.Prelude.{Bool, false, ◌||◌, List}
use Rattle.mqtt_rules.specs.declared.step.Capacity.{Capacity}
use Rattle.mqtt_rules.specs.step.Step.{is_step_spent, is_opening_spent}
use Rattle.mqtt_world_model.specs.model.World.{World}
use Rattle.mqtt_world_model.specs.model.Run.{Reading, Turn, read_over}

-- a new line gives no number of the tables
abbrev pub spending : Reading Bool
spending = record {
  nothing = false;
  join = λ first more. first || more;
  linked = λ set w. false;
  called = λ set call w. is_step_spent set.limits set.choice w.now call w.broker;
  opened = λ set w. is_opening_spent set.limits set.choice w.now w.broker.records;
}

abbrev pub run_spends : Capacity → List Turn → World → Bool
run_spends limits ts w = read_over spending limits ts w
