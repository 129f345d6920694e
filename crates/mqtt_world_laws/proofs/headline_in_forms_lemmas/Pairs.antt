-- A run in forms beside the run of what packets mean: they stay alike, whatever happens (MQTT 5.0, 3.3.2.3.4).
use Rattle.std.proofs.Common.{◌≡◌, List, [], ◌∷◌, ◌++◌, refl}
use Rattle.mqtt_topic.specs.names.Aliases.{AliasTable}
use Rattle.mqtt_rules.specs.step.State.{Telling}
use Rattle.mqtt_rules.specs.declared.step.Capacity.{Capacity}
use Rattle.mqtt_rules.specs.granting.Naming.{NamesTopics}
use Rattle.mqtt_world_model.specs.model.Ends.{Receiver}
use Rattle.mqtt_world_model.specs.model.Run.{Turn}
use Rattle.mqtt_world_model.specs.model.Run as meant
use Rattle.mqtt_world_model.specs.model.World.{World}
use Rattle.mqtt_world_laws.proofs.granting_lemmas.Runs.{run_holds, run_topics}
use Rattle.mqtt_world_laws.specs.telling.AsSent.{AsSent, Most, run, turned}
use Rattle.mqtt_world_laws.specs.telling.Likewise.{AllReceiversAlike, AllUnderstand}
use Rattle.mqtt_world_laws.proofs.telling_lemmas.Calls.{Goes}
use Rattle.mqtt_world_laws.proofs.telling_lemmas.Readings.{are_understood}
use Rattle.mqtt_world_laws.proofs.telling_lemmas.Runs.{run_alike}

-- both are alike, and all that the broker holds names its topics
pub record Pair (most : Most) (s : AsSent) (w : World) : Type 0 where
  pub goes : Goes most s w
  pub names : NamesTopics w.broker

-- so they are after the same turns
pub pair_run : (most : Most) (limits : Capacity) (ts : List Turn) (s : AsSent) (w : World) → Pair most s w → Pair most (run most limits ts s) (meant.run limits ts w)
pair_run most limits ts s w p = record {
  goes = run_alike most limits ts s w p.goes (run_topics limits ts w p.names);
  names = run_holds limits ts w p.names;
}

-- and after the same turn
pub pair_turn : (most : Most) (limits : Capacity) (t : Turn) (s : AsSent) (w : World) → Pair most s w → Pair most (turned most limits t s) (meant.turned limits t w)
pair_turn most limits t s w p = pair_run most limits (t ∷ []) s w p

all_understand : (most : Most) (ts : List Telling) (rs : List Receiver) (ks : List AliasTable) (vs : List Receiver) → AllReceiversAlike most ts rs ks vs → AllUnderstand rs ks
all_understand most ts [] ks vs h = tt
all_understand most ts (r ∷ rs) (k ∷ ks) (v ∷ vs) h = (are_understood k r.line.down v.line.down h.0.means, all_understand most ts rs ks vs h.1)
all_understand most ts (r ∷ rs) [] vs h = absurd h
all_understand most ts (r ∷ rs) (k ∷ ks) [] h = absurd h

-- what is under way is understood there
pub pair_understands : (most : Most) (s : AsSent) (w : World) → Pair most s w → AllUnderstand s.world.receivers s.known
pair_understands most s w p = all_understand most s.tellings s.world.receivers s.known w.receivers p.goes.worlds.receivers

-- one run and then another is the run of both
pub run_joined : (most : Most) (limits : Capacity) (xs ys : List Turn) (s : AsSent) → run most limits (xs ++ ys) s ≡ run most limits ys (run most limits xs s)
run_joined most limits [] ys s = refl
run_joined most limits (t ∷ xs) ys s = run_joined most limits xs ys (turned most limits t s)
