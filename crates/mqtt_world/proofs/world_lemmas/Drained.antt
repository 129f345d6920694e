-- A drain on the stage, from what it makes of the scene (MQTT 5.0, 4.3, 4.4, 4.6).
use Rattle.std.proofs.Common.{◌≡◌, ℕ, List, Option, refl, sym, subst, ◌∙◌}
use Rattle.std.specs.Prelude.{IfOk, Ok, Err, Result}
use Rattle.mqtt_keep.specs.declared.keeping.keep.Keep.{Ghosts}
use Rattle.mqtt_world_model.specs.model.Tellings.{Telling}
use Rattle.mqtt_world_model.specs.model.World.{Stranger}
use Rattle.mqtt_rules.specs.declared.step.Capacity.{Capacity}
use Rattle.mqtt_world.specs.declared.scene.over.Over.{Over}
use Rattle.mqtt_world.specs.scene.Draining.{Drains, IsDrainDone}
use Rattle.mqtt_world.specs.scene.Events.{IsReached, SpellsAll, world_of}
use Rattle.mqtt_world.specs.scene.Scenes.{Played}
use Rattle.mqtt_world.specs.world.Stages.{IsStanding, PlaysDrain, Staged}
use Rattle.mqtt_world.proofs.world_lemmas.Staged.{staged}

module _ {K : Type 0} (g : Ghosts K) (client : List ℕ) where
  plays_drain : (S P : Played K) (ss : List Stranger) (now : ℕ) (limits : Capacity) (x : Option (Telling × ℕ))
      → IsStanding g (staged S ss now limits) → Drains g now client S x P → PlaysDrain g client (staged S ss now limits) x (staged P ss now limits)
  plays_drain S P ss now limits x stands does =
      let here : limits ≡ S.engine.running.limits = stands.limits in
      record {
        standing = record { playable = does.playable; limits = here ∙ sym does.limits; within = stands.within };
        limits = refl;
        sound = does.sound;
        reached = λ sound reached.
            subst (λ (l : Capacity). IsReached l P.engine.running.broker) (sym here)
            (does.reached sound (subst (λ (l : Capacity). IsReached l S.engine.running.broker) here reached));
        done = λ sound spells reached knowing.
            subst (λ (l : Capacity). IsDrainDone l client x (world_of now ss S) (world_of now ss P)) (sym here)
            (does.done sound (subst SpellsAll here spells) (subst (λ (l : Capacity). IsReached l S.engine.running.broker) here reached) ss knowing);
      }

  -- what a drain makes of the scene it makes of the stage, whose strangers and moment it leaves alone
  pub all_drain : (S P : Played K) (ss : List Stranger) (now : ℕ) (limits : Capacity) (s : Staged K) (r : Result (Option (Telling × ℕ)) Over)
      → staged S ss now limits ≡ s → IsStanding g s → IfOk r (λ x. Drains g now client S x P)
      → IfOk r (λ x. PlaysDrain g client s x (staged P ss now limits))
  all_drain S P ss now limits s (Ok x) view stands does =
      subst (λ (y : Staged K). PlaysDrain g client y x (staged P ss now limits)) view
      (plays_drain S P ss now limits x (subst (IsStanding g) (sym view) stands) does)
  all_drain S P ss now limits s (Err f) view stands does = tt
