-- How a world may begin: with nothing stored, or opened on what a broker left (MQTT 5.0, 4.1).
use Rattle.std.proofs.Common.{ℕ, ◌≤◌}
use Rattle.mqtt_base.specs.declared.session.Cause.TheVariants.{Direct}
use Rattle.mqtt_base.specs.declared.session.CopyId.{CopyId}
use Rattle.mqtt_records.specs.declared.state.records.Records.{Records}
use Rattle.mqtt_world_model.specs.model.World.{start}
use Rattle.mqtt_rules.proofs.step_lemmas.numbers.Copies.{each_more}
use Rattle.mqtt_rules.proofs.step_lemmas.flight.FlightStep.{opening_keeps}
use Rattle.mqtt_rules.specs.step.Contents.{HasLawfulContents}
use Rattle.mqtt_rules.specs.step.Flight.{HasDistinctIdentifiers}
use Rattle.mqtt_rules.specs.step.Laws.{AreWithin, IsCoherentMessage}
use Rattle.mqtt_rules.specs.step.State.{MemberChoice}
use Rattle.mqtt_rules.specs.step.Step.{unopened}
use Rattle.mqtt_rules.specs.declared.step.Capacity.{Capacity}
use Rattle.mqtt_world_laws.specs.acceptance.Fair.{MayOpen, opened_world}
use Rattle.mqtt_world_laws.proofs.acceptance_lemmas.copies.Entries.{opening_counted}
use Rattle.mqtt_world_laws.proofs.acceptance_lemmas.publishers.Runs.{opened_new, start_new}
use Rattle.mqtt_world_laws.proofs.receiver_lemmas.connects.Stopping.{opening_tidy}
use Rattle.mqtt_rules.proofs.spelling_lemmas.Steps.{well_reopened}
use Rattle.mqtt_rules.specs.spelling.Sending.{HaveSentPhases}
use Rattle.mqtt_world_laws.proofs.reading_lemmas.Runs.{start_sends}
use Rattle.mqtt_world_laws.specs.delivery.Untouched.{IsUntouched}
use Rattle.mqtt_world_laws.specs.delivery.Retaining.{AreRetainedOnce}
use Rattle.mqtt_world_laws.proofs.delivery_lemmas.broker.Unused.{opening_unused}

-- at first the world is untouched
pub start_untouched : (limits : Capacity) → AreWithin limits → IsUntouched limits start
start_untouched limits within =
    record {
      new = start_new;
      tidy = record { ordered = start_new.steady.coherent.ordered; within = within.queue };
      distinct = tt;
      retained = tt;
      unused = tt;
      sends = start_sends limits within;
    }

-- so is one that opens over what was stored
pub opened_untouched : (limits : Capacity) (choice : MemberChoice) (now : ℕ) (r : Records) → AreWithin limits → MayOpen limits choice now r → HasDistinctIdentifiers r → AreRetainedOnce r → HasLawfulContents r → HaveSentPhases r
    → IsUntouched limits (opened_world limits choice now r)
opened_untouched limits choice now r within may distinct once contents phases = record {
  new = opened_new limits choice now r within may;
  tidy = opening_tidy limits choice now (unopened now r) (record { ordered = may.coherent.ordered; within = within.queue });
  distinct = opening_keeps limits choice now r distinct;
  retained = (opening_counted any_copy limits choice now (unopened now r) may.coherent.ordered (record {
    given = each_more (IsCoherentMessage r.publications) (λ k. k.publication ≤ r.publications) (λ k q. q.0) r.retained may.coherent.retained;
    differ = once;
  })).kept.differ;
  unused = opening_unused limits choice now r;
  sends = well_reopened limits choice now (unopened now r) may.unspent (record { contents = record { stored = contents; lines = tt }; ordered = may.coherent.ordered; phases = phases });
}
  where
    any_copy : CopyId
    any_copy = record { publication = 0; birth = 0; cause = Direct }
