-- What ends over any calls and openings: each copy that entered waits or has ended once, for its cause (MQTT 5.0, 4.3, 4.4).
use Rattle.std.proofs.Common.{◌≡◌, ◌≤◌, ◌+◌, List, [], ◌∷◌, ◌++◌, map, refl, ap, sym, ◌∙◌, arith}
use Rattle.std.specs.Prelude.{filter_map, flat_map}
use Rattle.std.specs.List.{AllByRecursion}
use Rattle.mqtt_base.specs.declared.session.CopyId.{CopyId}
use Rattle.mqtt_rules.specs.step.Deeds.{Deed}
use Rattle.mqtt_rules.specs.step.Laws.{Asked as calls, Event, Reopened, after_events}
use Rattle.mqtt_rules.specs.step.State.{Broker}
use Rattle.mqtt_rules.proofs.step_lemmas.fit.StandLaw.{stands_call, stands_opening}
use Rattle.mqtt_rules.proofs.step_lemmas.numbers.Copies.{kinds}
use Rattle.mqtt_rules.proofs.step_lemmas.numbers.NumberCopies.{opening_accepted, step_accepted}
use Rattle.mqtt_rules.specs.step.Numbers.{HasAcceptedNumbers}
use Rattle.mqtt_rules.specs.step.Laws.{after_event}
use Rattle.mqtt_world_model.specs.model.Laws.{count_of, standing}
use Rattle.mqtt_world_model.specs.model.Run.{ended_in}
use Rattle.mqtt_world_laws.specs.acceptance.Fair.{IsSteady}
use Rattle.mqtt_world_laws.specs.acceptance.Identities.{TellsApart}
use Rattle.mqtt_world_laws.specs.causes.Causes.{HasCause}
use Rattle.mqtt_world_laws.specs.causes.Endings.{Asked, ends_in}
use Rattle.mqtt_world_laws.specs.headline_in_forms.Delivery.{EndsAllOnce}
use Rattle.mqtt_world_laws.specs.headline_in_forms.Reading.{Course, ended, entered}
use Rattle.mqtt_world_laws.specs.of_calls.Calls.{BeginsInOrder, SpendNone, asked_at, course_of, deeds_in, step_of}
use Rattle.mqtt_world_laws.proofs.acceptance_lemmas.copies.CopyRuns.{balances}
use Rattle.mqtt_world_laws.proofs.acceptance_lemmas.copies.Counting.{Balances}
use Rattle.mqtt_world_laws.proofs.acceptance_lemmas.copies.Entries.{U}
use Rattle.mqtt_world_laws.proofs.acceptance_lemmas.copies.OnceRuns.{one_or_other}
use Rattle.mqtt_world_laws.proofs.causes_lemmas.CauseRuns.{counted as ends_are, joined}
use Rattle.mqtt_world_laws.proofs.causes_lemmas.CauseRuns as by_cause
use Rattle.mqtt_world_laws.proofs.causes_lemmas.Caused.{all_caused}
use Rattle.mqtt_world_laws.proofs.causes_lemmas.EachCall.{call_caused, opening_caused}
use Rattle.mqtt_world_laws.proofs.of_calls_lemmas.Entering.{counted, kept}
use Rattle.mqtt_world_laws.proofs.of_calls_lemmas.Events.{each_asked, events_steady, events_walk}

-- ---- of one step: each end has its cause

event_caused : (e : Event) (b : Broker) → IsSteady b → AllByRecursion HasCause (ends_in (asked_at e b))
event_caused (calls limits choice now call) b s =
    let x = asked_at (calls limits choice now call) b in
    all_caused x x.step.deeds x.step.broker (call_caused x call refl s.coherent.ordered) (stands_call x.step.env call x.step.broker s.coherent.ordered)
event_caused (Reopened limits choice now) b s =
    let x = asked_at (Reopened limits choice now) b in
    all_caused x x.step.deeds x.step.broker (opening_caused x x.step.broker s.coherent.ordered) (stands_opening x.step.env x.step.broker s.coherent.ordered)

-- the deeds of some steps are those of what was asked
same_deeds : (xs : List Asked) → flat_map deeds_in (map step_of xs) ≡ by_cause.deeds_in xs
same_deeds [] = refl
same_deeds (x ∷ xs) = ap (λ (ds : List Deed). x.step.deeds ++ ds) (same_deeds xs)

-- ---- over all

module _ (es : List Event) (b : Broker) (begins : BeginsInOrder b) (fair : SpendNone es b) where
  abbrev c : Course
  c = course_of es b

  even : (copy : CopyId) → count_of copy (standing c.end) + count_of copy (ended c) ≡ count_of copy (standing b) + count_of copy (entered c)
  even copy = events_walk (Balances copy) (λ limits within. balances copy limits within) es b fair begins.steady

  ends_once : (copy : CopyId) → count_of copy (standing c.end) + count_of copy (ended c) ≤ 1
  ends_once copy =
      let all = counted es b begins fair copy in
      let first = one_or_other copy b.records begins.apart in
      let same = even copy in
      omega (arith, all, first, same)

  waits_or_ended : (copy : CopyId) → count_of copy (entered c) ≡ 1 → count_of copy (standing c.end) + count_of copy (ended c) ≡ 1
  waits_or_ended copy one =
      let all = counted es b begins fair copy in
      let first = one_or_other copy b.records begins.apart in
      let same = even copy in
      omega (arith, all, first, same, one)

  -- each copy that entered waits or has ended once, for its cause
  pub all_end : EndsAllOnce c
  all_end = record {
    once = ends_once;
    waits_or_has_ended = waits_or_ended;
    balanced = even;
    causes = joined c.asked (each_asked (λ (x : Asked). AllByRecursion HasCause (ends_in x)) (λ e d f s. event_caused e d s) es b fair begins.steady);
    all = ends_are c.asked ∙ ap (λ (ds : List Deed). filter_map ended_in ds) (sym (same_deeds c.asked));
  }

  -- ---- and the broker may go on

  still_apart : TellsApart c.end.records
  still_apart = record {
    once = λ copy. let x = behind copy in omega (arith, x);
    numbered = λ copy come. let x = behind copy in let one : U copy (kinds c.end.records) ≡ 1 = rw come refl in omega (arith, x, one);
    retained = (kept es b begins fair).differ;
  }
    where
      behind : (copy : CopyId) → count_of copy (standing c.end) + U copy (kinds c.end.records) ≤ 1
      behind copy =
          let all = counted es b begins fair copy in
          let first = one_or_other copy b.records begins.apart in
          let same = even copy in
          omega (arith, all, first, same)

event_accepted : (e : Event) (b : Broker) → HasAcceptedNumbers b.records → HasAcceptedNumbers (after_event e b).records
event_accepted (calls limits choice now call) b h = step_accepted limits choice now call b h
event_accepted (Reopened limits choice now) b h = opening_accepted limits choice now b.records h

events_accepted : (es : List Event) (b : Broker) → HasAcceptedNumbers b.records → HasAcceptedNumbers (after_events es b).records
events_accepted [] b h = h
events_accepted (e ∷ es) b h = events_accepted es (after_event e b) (event_accepted e b h)

-- what began in order is in order
pub still_in_order : (es : List Event) (b : Broker) → BeginsInOrder b → SpendNone es b → BeginsInOrder (after_events es b)
still_in_order es b begins fair = record {
  steady = events_steady es b fair begins.steady;
  apart = still_apart es b begins fair;
  numbers = events_accepted es b begins.numbers;
}
