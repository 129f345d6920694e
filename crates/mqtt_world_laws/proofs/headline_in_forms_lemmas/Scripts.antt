-- What is delivered once by a script of what packets mean is so by the script in forms.
use Rattle.std.proofs.Common.{List, [], ◌∷◌, sym, ap, subst, ◌∙◌}
use Rattle.std.specs.List.{AllByRecursion}
use Rattle.mqtt_rules.specs.declared.step.Capacity.{Capacity}
use Rattle.mqtt_world_model.specs.model.Run.{Turn}
use Rattle.mqtt_world_model.specs.model.Run as meant
use Rattle.mqtt_world_model.specs.model.World.{World}
use Rattle.mqtt_world_laws.specs.causes.Endings.{EndAt}
use Rattle.mqtt_world_laws.specs.receiver.Drains.{Doing, drains, happens}
use Rattle.mqtt_world_laws.specs.receiver.Drains as meant_drains
use Rattle.mqtt_world_laws.specs.drain_causes.Fitting.{IsNotTooLarge}
use Rattle.mqtt_world_laws.specs.drain_causes.Fitting as meant_fitting
use Rattle.mqtt_world_laws.specs.headline.Delivery as meant_delivery
use Rattle.mqtt_world_laws.specs.telling.AsSent.{AsSent, Most, run}
use Rattle.mqtt_world_laws.specs.headline_in_forms.Reading.{course, ends}
use Rattle.mqtt_world_laws.specs.headline_in_forms.Drains.{turns_of}
use Rattle.mqtt_world_laws.specs.headline_in_forms.Delivery.{AllDrainsFit, DeliversExactlyOnce, DoingsDeliver, FitWhere}
use Rattle.mqtt_world_laws.proofs.headline_in_forms_lemmas.Courses.{course_same}
use Rattle.mqtt_world_laws.proofs.headline_in_forms_lemmas.Delivered.{run_delivers}
use Rattle.mqtt_world_laws.proofs.headline_in_forms_lemmas.Drains.{all_same, doing_pair, each_drains, script_is_run, turns_same}
use Rattle.mqtt_world_laws.proofs.headline_in_forms_lemmas.Pairs.{Pair}

module _ (most : Most) (limits : Capacity) where
  fit_where : (d : Doing) (s : AsSent) (w : World) → Pair most s w → meant_fitting.FitWhere limits d w → FitWhere most limits d s
  fit_where (happens t) s w p h = tt
  fit_where (drains choice client n) s w p h =
      let d = drains choice client n in
      let turns = meant_drains.turns_of limits d w in
      subst (λ (xs : List EndAt). AllByRecursion IsNotTooLarge xs)
      (sym (ap (λ (ts : List Turn). ends (course most limits ts s)) (turns_same most limits d s w p) ∙ ap ends (course_same most limits turns s w p))) h

  -- no copy is too large in its drains
  pub drains_fit : (ds : List Doing) (s : AsSent) (w : World) → Pair most s w → meant_fitting.AllDrainsFit limits ds w → AllDrainsFit most limits ds s
  drains_fit [] s w p h = tt
  drains_fit (d ∷ ds) s w p h = (
    fit_where d s w p h.0,
    drains_fit ds (run most limits (turns_of most limits d s) s) (meant.run limits (meant_drains.turns_of limits d w) w) (doing_pair most limits d s w p) h.1,
  )

  -- a script that delivers exactly once does so in forms
  pub script_delivers : (ds : List Doing) (s : AsSent) (w : World) → Pair most s w → meant_delivery.DoingsDeliver limits ds w → DoingsDeliver most limits ds s
  script_delivers ds s w p h =
      let turns = meant_drains.all_turns limits ds w in
      record {
        is_run = script_is_run most limits ds s;
        delivers = subst (λ (ts : List Turn). DeliversExactlyOnce most limits ts s) (sym (all_same most limits ds s w p)) (run_delivers most limits turns s w p h.delivers);
        drained = each_drains most limits ds s w p h.drained;
        fit = drains_fit ds s w p h.fit;
      }
