-- A world that begins, from what the opening of its broker is (MQTT 5.0, 4.1).
use Rattle.std.proofs.Common.{◌≡◌, ℕ, List, [], refl, sym, ap, subst, ◌∙◌}
use Rattle.std.specs.Prelude.{Ok}
use Rattle.mqtt_keep.specs.lawful.Lawful.{IsLawful}
use Rattle.mqtt_keep.specs.declared.keeping.keep.Keep.{Ghosts}
use Rattle.mqtt_records.specs.declared.state.records.Records.{Records}
use Rattle.mqtt_world_model.specs.model.World.{Stranger, World}
use Rattle.mqtt_script.specs.declared.event.Event.{Event}
use Rattle.mqtt_rules.specs.granting.Naming.{NamesTopics}
use Rattle.mqtt_records.specs.state.PassedOn.{StoresPassedOn}
use Rattle.mqtt_rules.proofs.granting_lemmas.Steps.{opening_named, stored_named}
use Rattle.mqtt_rules.specs.spelling.Sending.{HaveSentPhases}
use Rattle.mqtt_rules.proofs.spelling_lemmas.Steps.{well_begun}
use Rattle.mqtt_world_laws.specs.acceptance.Fair.{opened_world}
use Rattle.mqtt_world_laws.specs.reading.UnderWay.{IsUninhabited}
use Rattle.mqtt_rules.proofs.step_lemmas.contents.LawfulContents.{lawful_contents}
use Rattle.mqtt_rules.specs.step.Laws.{AreWithin}
use Rattle.mqtt_rules.specs.step.State.{Broker, MemberChoice}
use Rattle.mqtt_rules.specs.step.Step.{opened}
use Rattle.mqtt_rules.specs.declared.step.Capacity.{Capacity}
use Rattle.mqtt_world.specs.clients.Ends.{Ends}
use Rattle.mqtt_world.specs.scene.Events.{IsReached, opens, world_of}
use Rattle.mqtt_world.specs.scene.Openings.{Begins, Opens, no_ends}
use Rattle.mqtt_world_laws.specs.knowing.Knowing.{HasKnowingEnds}
use Rattle.mqtt_world_laws.proofs.knowing_lemmas.Calls.{opened_untold}
use Rattle.mqtt_world_laws.proofs.telling_lemmas.Given.{opening_numbered}
use Rattle.mqtt_world.specs.scene.Scenes.{Played}
use Rattle.mqtt_world.specs.world.Stages.{IsSoundAt, IsStanding, Staged}
use Rattle.mqtt_world.specs.world.Worlds.{Came, Starts}
use Rattle.mqtt_world.proofs.world_lemmas.Course.{ok_is}
use Rattle.mqtt_world.proofs.world_lemmas.Staged.{staged}

-- ---- what is stored names its topics, so ends know what they will be told

knowing_first : (limits : Capacity) (choice : MemberChoice) (now : ℕ) (r : Records) → NamesTopics (opened limits choice now r)
    → HasKnowingEnds (opened_world limits choice now r)
knowing_first limits choice now r named = record {
  takes = λ client. 0;
  most = λ n. 0;
  so = record {
    ends = (tt, tt);
    strangers = tt;
    lines = opening_numbered limits choice now r;
    unused = λ n less. opened_untold limits choice now r n;
    names = named;
  };
}

-- ---- a beginning

module _ {K : Type 0} (g : Ghosts K) (limits : Capacity) (r : Records) (s : Played K) where
  world_began : (o : Opens g limits 0 r s) → s.ends ≡ no_ends → g.is_sound s.engine.running.keep → world_of 0 [] s ≡ opened_world limits o.choice 0 r
  world_began o none sound =
      let at : Broker → Ends → World = λ b e. record { broker = b; now = 0; publishers = e.publishers; receivers = e.receivers; strangers = [] } in
      ap (λ (b : Broker). at b s.ends) (o.broker sound) ∙ ap (at (opened limits o.choice 0 r)) none

  came_first : (events : List Event) (o : Opens g limits 0 r s) → s.ends ≡ no_ends → g.is_sound s.engine.running.keep → events ≡ [] → AreWithin limits → IsLawful r
      → HaveSentPhases r → StoresPassedOn r → Came (opened_world limits o.choice 0 r) events (staged s [] 0 limits)
  came_first events o none sound nothing within lawful phases passed =
      subst (λ (es : List Event). Came (opened_world limits o.choice 0 r) es (staged s [] 0 limits)) (sym nothing) (record {
        within = within;
        reached = subst (IsReached limits) (sym (o.broker sound)) (opens o.choice 0 r lawful phases o.unspent);
        knowing = subst HasKnowingEnds (sym (world_began o none sound))
            (knowing_first limits o.choice 0 r (opening_named limits o.choice 0 r (stored_named r (lawful_contents r lawful) passed)));
        tells = [];
        runs = (refl, world_began o none sound);
      })

-- nobody is there where a broker was opened
alone_at_first : (limits : Capacity) (choice : MemberChoice) (now : ℕ) (r : Records) → IsUninhabited (opened_world limits choice now r)
alone_at_first limits choice now r = record { publishers = refl; receivers = refl; strangers = refl }

module _ {K : Type 0} (g : Ghosts K) (limits : Capacity) (keep : K) (s : Played K) where
  -- it can go on
  pub begun_stands : AreWithin limits → (b : Begins g limits 0 keep s) → IsStanding g (staged s [] 0 limits)
  begun_stands within b = record { playable = b.opens.playable; limits = sym b.opens.limits_are; within = within }

  nobody_there : s.ends ≡ no_ends → IsUninhabited (world_of 0 [] s)
  nobody_there none = record {
    publishers = ap (λ (e : Ends). e.publishers) none;
    receivers = ap (λ (e : Ends). e.receivers) none;
    strangers = refl;
  }

  starts : (events : List Event) → AreWithin limits → Begins g limits 0 keep s → events ≡ []
      → Starts g limits keep (record { stage = Ok (staged s [] 0 limits); events = events })
  starts events within b nothing = record {
    loaded = b.loaded;
    records = b.records;
    load = b.load;
    lawful = b.lawful;
    identifiers = b.identifiers;
    choice = b.opens.choice;
    unspent = b.opens.unspent;
    at = staged s [] 0 limits;
    sound = b.sound;
    stage = refl;
    limits_are = refl;
    now = refl;
    nobody = nobody_there b.ends;
    world = world_began g limits b.records s b.opens b.ends;
    events = nothing;
    comes = λ t is sound.
        let at : staged s [] 0 limits ≡ t = ok_is (Ok (staged s [] 0 limits)) (staged s [] 0 limits) t refl is in
        subst (Came (opened_world limits b.opens.choice 0 b.records) events) at
        (came_first g limits b.records s events b.opens b.ends (subst (λ (x : Staged K). IsSoundAt g x) (sym at) sound) nothing within b.lawful b.identifiers b.passed);
    alone = alone_at_first limits b.opens.choice 0 b.records;
    sends = well_begun limits b.opens.choice 0 b.records b.opens.unspent b.lawful b.identifiers;
  }

  -- a world that just began, without strangers, can go on
  pub begun_stands_in : (ss : List Stranger) → ss ≡ [] → AreWithin limits → Begins g limits 0 keep s → IsStanding g (staged s ss 0 limits)
  begun_stands_in ss nobody within b = subst (λ (xs : List Stranger). IsStanding g (staged s xs 0 limits)) (sym nobody) (begun_stands within b)

  -- an opening on lawful records starts a world, if there is no stranger yet and no event has happened
  pub starts_in : (ss : List Stranger) (events : List Event) → ss ≡ [] → events ≡ [] → AreWithin limits → Begins g limits 0 keep s
      → Starts g limits keep (record { stage = Ok (staged s ss 0 limits); events = events })
  starts_in ss events nobody nothing within b =
      subst (λ (xs : List Stranger). Starts g limits keep (record { stage = Ok (staged s xs 0 limits); events = events })) (sym nobody)
      (starts events within b nothing)
