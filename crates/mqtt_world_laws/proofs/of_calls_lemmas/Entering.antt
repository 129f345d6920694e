-- What enters over any calls and openings: the copies of each publication, as they were meant, each once, and no other (MQTT 5.0, 3.3.4,
-- 4.3, 4.8).
use Rattle.std.proofs.Common.{◌≡◌, ℕ, ◌≤◌, ◌+◌, List, [], ◌∷◌, ◌++◌, map, refl, sym, ap, subst, ◌∙◌, arith}
use Rattle.std.specs.Prelude.{filter_map, flat_map}
use Rattle.std.specs.List.{AllByRecursion}
use Rattle.std.proofs.lemmas.List.{map-append}
use Rattle.std.proofs.lemmas.List.Elements.{filter_map-append}
use Rattle.mqtt_base.specs.declared.session.Cause.TheVariants.{Direct}
use Rattle.mqtt_base.specs.declared.session.CopyId.{CopyId}
use Rattle.mqtt_records.specs.lists.Distinct.{AllDiffer}
use Rattle.mqtt_rules.specs.step.Laws.{Asked as calls, Event, Reopened}
use Rattle.mqtt_rules.specs.step.Numbers.{CountsOn, publication_given}
use Rattle.mqtt_rules.specs.step.State.{Broker}
use Rattle.mqtt_rules.specs.step.Step.{at_moment, deeds, env_of, opening, unopened}
use Rattle.mqtt_rules.proofs.step_lemmas.numbers.Copies.{kinds}
use Rattle.mqtt_world_model.specs.model.Laws.{count_of}
use Rattle.mqtt_world_laws.specs.acceptance.AtOnce.{GoesOut}
use Rattle.mqtt_world_laws.specs.acceptance.Copies.{IsRouted}
use Rattle.mqtt_world_laws.specs.acceptance.Entries.{brought_in}
use Rattle.mqtt_world_laws.specs.acceptance.Fair.{IsSteady}
use Rattle.mqtt_world_laws.specs.acceptance.Steps.{Step}
use Rattle.mqtt_world_laws.specs.headline_in_forms.Delivery.{EntersAllOnce, EntersAsIntended}
use Rattle.mqtt_world_laws.specs.headline_in_forms.Reading.{Course, entered}
use Rattle.mqtt_world_laws.specs.of_calls.Calls.{BeginsInOrder, SpendNone, SpendsNone, accepted_in, asked_at, course_of, deeds_in}
use Rattle.mqtt_world_laws.proofs.acceptance_lemmas.copies.CopyRuns.{Numbers, numbers}
use Rattle.mqtt_world_laws.proofs.acceptance_lemmas.copies.Entering.{Tells}
use Rattle.mqtt_world_laws.proofs.acceptance_lemmas.copies.Entries.{AreKept, Enters, U}
use Rattle.mqtt_world_laws.proofs.acceptance_lemmas.copies.Lights.{Gives, giving}
use Rattle.mqtt_world_laws.proofs.acceptance_lemmas.copies.OnceRuns.{Counts, coherent_kept, counts, one_or_other}
use Rattle.mqtt_world_laws.proofs.acceptance_lemmas.copies.Routed.{accepted_routed, call_good, opening_good}
use Rattle.mqtt_world_laws.proofs.acceptance_lemmas.copies.StepRuns.{entered_all, telling}
use Rattle.mqtt_world_laws.proofs.of_calls_lemmas.Events.{each_given, each_step, events_walk, step_says}
use Rattle.mqtt_world_laws.proofs.routing_lemmas.Intended.{all_intended}
use Rattle.mqtt_world_laws.proofs.routing_lemmas.LinesStand.{IsUnique, call_unique}
use Rattle.mqtt_world_laws.proofs.routing_lemmas.Members.{all_have}
use Rattle.mqtt_world_laws.proofs.routing_lemmas.OpeningLines.{opening_lined}
use Rattle.mqtt_world_laws.proofs.routing_lemmas.OwnCounts.{counts_differ}
use Rattle.mqtt_world_laws.proofs.routing_lemmas.OwnRuns.{AreLinedUp, number_of}
use Rattle.mqtt_world_laws.proofs.routing_lemmas.OwnSteps.{AreNext, call_next, numbers_are, opening_next}

-- ---- of one step: what it accepts

event_next : (e : Event) (b : Broker) → IsSteady b → AreNext (accepted_in (asked_at e b).step)
event_next (calls limits choice now call) b s = call_next (env_of limits choice b) call (at_moment now b) s.coherent.ordered
event_next (Reopened limits choice now) b s = let c = unopened now b.records in opening_next (env_of limits choice c) c s.coherent.ordered

event_lined : (e : Event) (b : Broker) → SpendsNone e b → IsSteady b → AreLinedUp (accepted_in (asked_at e b).step)
event_lined (calls limits choice now call) b fair s = call_unique limits choice now call b fair.0 s fair.1
event_lined (Reopened limits choice now) b fair s = let c = unopened now b.records in opening_lined (env_of limits choice c) c refl

event_routed : (e : Event) (b : Broker) → AllByRecursion IsRouted (accepted_in (asked_at e b).step)
event_routed (calls limits choice now call) b =
    let env = env_of limits choice b in
    let c = at_moment now b in
    accepted_routed env (deeds limits choice now call b) c (call_good env call c)
event_routed (Reopened limits choice now) b =
    let c = unopened now b.records in
    let env = env_of limits choice c in
    accepted_routed env (opening env c) c (opening_good env c)

-- what steps accept is numbered as their deeds number it
steps_numbers : (xs : List Step) → filter_map publication_given (flat_map deeds_in xs) ≡ map number_of (flat_map accepted_in xs)
steps_numbers [] = refl
steps_numbers (x ∷ xs) =
    filter_map-append publication_given x.deeds (flat_map deeds_in xs)
    ∙ ap (λ (ns : List ℕ). ns ++ filter_map publication_given (flat_map deeds_in xs)) (numbers_are x.env x.deeds x.broker)
    ∙ ap (λ (ns : List ℕ). map number_of (accepted_in x) ++ ns) (steps_numbers xs)
    ∙ sym (map-append number_of (accepted_in x) (flat_map accepted_in xs))

-- ---- over all

module _ (es : List Event) (b : Broker) (begins : BeginsInOrder b) (fair : SpendNone es b) where
  abbrev c : Course
  c = course_of es b

  -- publications are numbered one by one
  pub numbered : CountsOn b.records.publications (filter_map publication_given c.deeds) c.end.records.publications
  numbered = events_walk Numbers (λ limits within. numbers limits) es b fair begins.steady

  brought : entered c ≡ flat_map brought_in c.steps
  brought = entered_all c.steps (each_step (λ (x : Step). Tells x.env x.deeds x.broker) (λ e d f s. step_says Tells telling e d s) es b fair begins.steady)

  next : AllByRecursion (λ (x : Step). AreNext (accepted_in x)) c.steps
  next = each_step (λ (x : Step). AreNext (accepted_in x)) (λ e d f s. event_next e d s) es b fair begins.steady

  lined : AreLinedUp c.acceptances
  lined = each_given IsUnique accepted_in c.steps (each_step (λ (x : Step). AreLinedUp (accepted_in x)) event_lined es b fair begins.steady)

  intended : AllByRecursion (EntersAsIntended (entered c)) c.acceptances
  intended =
      all_intended c.steps (entered c) c.acceptances brought refl next
      (subst AllDiffer (steps_numbers c.steps) (counts_differ b.records.publications c.end.records.publications (filter_map publication_given c.deeds) numbered))

  enters : (copy : CopyId) → Enters copy c.deeds (kinds b.records) (kinds c.end.records)
  enters copy = events_walk (Counts copy) (λ limits within. counts copy limits) es b fair begins.steady (coherent_kept b.records begins.steady.coherent begins.apart)

  -- a copy that may come yet has not entered, and it could come at the beginning
  pub counted : (copy : CopyId) → count_of copy (entered c) + U copy (kinds c.end.records) ≤ U copy (kinds b.records)
  counted copy = (enters copy).counted

  -- and what is retained was accepted
  pub kept : AreKept (kinds c.end.records)
  kept = (enters (record { publication = 0; birth = 0; cause = Direct })).kept

  enters_once : (copy : CopyId) → count_of copy (entered c) ≤ 1
  enters_once copy = let all = counted copy in let first = one_or_other copy b.records begins.apart in omega (arith, all, first)

  -- each publication's copies enter as they were meant, each once
  pub all_enter : EntersAllOnce c
  all_enter = record {
    routed = each_given IsRouted accepted_in c.steps (each_step (λ (x : Step). AllByRecursion IsRouted (accepted_in x)) (λ e d f s. event_routed e d) es b fair begins.steady);
    numbered = numbered;
    intended = intended;
    brought = brought;
    once = enters_once;
    at_once = each_step GoesOut (λ e d f s. step_says Gives giving e d s) es b fair begins.steady;
    lines = all_have (entered c) c.acceptances intended lined;
  }
