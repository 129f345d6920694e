-- Both worlds begin alike, with nothing stored or on what earlier lives of the broker left (MQTT 5.0, 4.1).
use Rattle.std.proofs.Common.{List, [], ◌∷◌, refl, sym, subst}
use Rattle.mqtt_rules.specs.declared.step.Capacity.{Capacity}
use Rattle.mqtt_rules.specs.step.Laws.{AreWithin}
use Rattle.mqtt_rules.specs.granting.Naming.{NamesTopics}
use Rattle.mqtt_rules.proofs.granting_lemmas.Steps.{opening_named}
use Rattle.mqtt_world_model.specs.model.World.{World, start}
use Rattle.mqtt_world_laws.specs.receiver.Drains.{Doing, after_doings, all_turns}
use Rattle.mqtt_world_laws.proofs.receiver_lemmas.drains.DrainRuns.{drains_are_runs}
use Rattle.mqtt_world_laws.specs.headline.Lives.{AreFairLives, BrokerLife, IsFairScript, after_lives}
use Rattle.mqtt_world_laws.proofs.headline_lemmas.Delivered.{lives_deliver, lives_fit}
use Rattle.mqtt_world_laws.proofs.headline_lemmas.Delivered as meant_delivered
use Rattle.mqtt_world_laws.proofs.headline_lemmas.Lives.{start_begins}
use Rattle.mqtt_world_laws.proofs.granting_lemmas.Runs.{run_holds}
use Rattle.mqtt_world_laws.specs.telling.AsSent.{Most, start_as_sent}
use Rattle.mqtt_world_laws.proofs.telling_lemmas.Given.{opening_numbered}
use Rattle.mqtt_world_laws.specs.headline_in_forms.Delivery.{AllDrainsFit, DoingsDeliver}
use Rattle.mqtt_world_laws.specs.headline_in_forms.Reading.{begun}
use Rattle.mqtt_world_laws.proofs.headline_in_forms_lemmas.Pairs.{Pair}
use Rattle.mqtt_world_laws.proofs.headline_in_forms_lemmas.Scripts.{drains_fit, script_delivers}

-- all that the broker holds names its topics
lives_named : (limits : Capacity) (ls : List BrokerLife) → NamesTopics (after_lives limits ls).broker
lives_named limits [] = record { stored = record { sessions = tt; retained = tt }; lines = tt }
lives_named limits (l ∷ ls) =
    let w = after_lives l.limits ls in
    let last : NamesTopics (after_doings l.limits l.doings w).broker =
    subst (λ (v : World). NamesTopics v.broker) (sym (drains_are_runs l.limits l.doings w)) (run_holds l.limits (all_turns l.limits l.doings w) w (lives_named l.limits ls))
    in
    opening_named limits l.choice l.now (after_doings l.limits l.doings w).broker.records last.stored

-- nothing was told, and nobody is there
pub lives_pair : (most : Most) (limits : Capacity) (ls : List BrokerLife) → Pair most (begun (after_lives limits ls)) (after_lives limits ls)
lives_pair most limits [] = record {
  goes = record { worlds = record { same = refl; publishers = tt; receivers = tt }; lines = record { unused = λ n less. refl; numbered = tt } };
  names = lives_named limits [];
}
lives_pair most limits (l ∷ ls) = record {
  goes = record {
    worlds = record { same = refl; publishers = tt; receivers = tt };
    lines = record {
      unused = λ n less. refl;
      numbered = opening_numbered limits l.choice l.now (after_doings l.limits l.doings (after_lives l.limits ls)).broker.records;
    };
  };
  names = lives_named limits (l ∷ ls);
}

-- a fair script behind any lives delivers exactly once in forms
pub forms_deliver : (most : Most) (limits : Capacity) (ls : List BrokerLife) (ds : List Doing) → AreWithin limits → AreFairLives limits ls
    → IsFairScript limits ds (after_lives limits ls) → DoingsDeliver most limits ds (begun (after_lives limits ls))
forms_deliver most limits ls ds within fair_lives fair =
    let w = after_lives limits ls in
    script_delivers most limits ds (begun w) w (lives_pair most limits ls) (lives_deliver limits ls ds within fair_lives fair)

-- and no copy of its drains is too large
pub forms_fit : (most : Most) (limits : Capacity) (ls : List BrokerLife) (ds : List Doing) → AreWithin limits → AreFairLives limits ls
    → IsFairScript limits ds (after_lives limits ls) → AllDrainsFit most limits ds (begun (after_lives limits ls))
forms_fit most limits ls ds within fair_lives fair =
    let w = after_lives limits ls in
    drains_fit most limits ds (begun w) w (lives_pair most limits ls) (lives_fit limits ls ds within fair_lives fair)

-- from nothing stored
pub nothing_delivers : (most : Most) (limits : Capacity) (ds : List Doing) → IsFairScript limits ds start → DoingsDeliver most limits ds start_as_sent
nothing_delivers most limits ds fair =
    script_delivers most limits ds start_as_sent start (lives_pair most limits [])
    (meant_delivered.script_delivers limits ds start (start_begins limits fair.within) fair)
