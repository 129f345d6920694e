-- A sound broker stays sound, and within its limits.
use Rattle.std.proofs.Common.{◌≡◌, ℕ, false}
use Rattle.mqtt_keep.specs.lawful.Lawful.{IsLawful}
use Rattle.mqtt_records.specs.declared.state.records.Records.{Records}
use Rattle.mqtt_rules.specs.declared.step.Capacity.{Capacity}
use Rattle.mqtt_rules.specs.step.Contents.{TakesLawful, of_rows}
use Rattle.mqtt_rules.specs.step.Laws.{AreWithin}
use Rattle.mqtt_rules.specs.step.State.{Broker, MemberChoice, stored}
use Rattle.mqtt_rules.specs.step.Step.{Call, is_opening_spent, is_step_spent, opened, stepped}
use Rattle.mqtt_rules.proofs.step_lemmas.contents.ContentLaw.{step_contents, opening_contents}
use Rattle.mqtt_rules.proofs.step_lemmas.flight.FlightStep.{step_keeps, opening_keeps}
use Rattle.mqtt_rules.proofs.step_lemmas.contents.LawfulContents.{lawful_contents}
use Rattle.mqtt_rules.proofs.step_lemmas.contents.SpelledContents.{rows_are}
use Rattle.mqtt_rules.proofs.step_lemmas.fit.LawfulRecords.{lawful_coherent, lawful_accepted}
use Rattle.mqtt_rules.proofs.step_lemmas.lines.LineSteps.{step_unique, opening_unique}
use Rattle.mqtt_rules.proofs.step_lemmas.numbers.NumberCopies.{step_accepted, opening_accepted}
use Rattle.mqtt_rules.proofs.step_lemmas.numbers.NumberSteps.{step_timed, opening_timed}
use Rattle.mqtt_rules.proofs.step_lemmas.order.OrderedFull.{step_queues, opening_queues}
use Rattle.mqtt_rules.proofs.step_lemmas.order.OrderedLimits.{step_sessions, opening_sessions, step_retained, opening_retained}
use Rattle.mqtt_rules.proofs.sharing_lemmas.Steps.{step_shared, opening_shared}
use Rattle.mqtt_rules.proofs.step_lemmas.fit.RowsFit.{step_coherent, step_last, opening_coherent, opened_last}
use Rattle.mqtt_broker_acts.specs.calls.Sound.{IsSound, IsWithin}
use Rattle.mqtt_broker_acts.proofs.calls_lemmas.Flights.{lawful_flight}
use Rattle.mqtt_broker_acts.proofs.calls_lemmas.Kept.{step_orders, step_filters, opening_orders, opening_filters}

-- a step that spends no number leaves a sound broker sound
pub step_sound : (limits : Capacity) (choice : MemberChoice) (now : ℕ) (call : Call) (b : Broker) → is_step_spent limits choice now call b ≡ false → TakesLawful call
    → IsSound limits b → IsSound limits (stepped limits choice now call b)
step_sound limits choice now call b unspent taken h = record {
  limited = h.limited;
  coherent = step_coherent limits choice now call b h.limited h.coherent h.timed h.last unspent;
  timed = (step_timed limits choice now call b h.timed).1;
  last = step_last limits choice now call b h.last;
  accepted = step_accepted limits choice now call b h.accepted;
  shared = step_shared limits choice now call b h.shared h.accepted;
  flight = step_keeps limits choice now call b h.flight;
  orders = step_orders limits choice now call b h.limited h.coherent h.timed h.last unspent h.orders;
  filters = step_filters limits choice now call b h.filters;
  lines = step_unique limits choice now call b h.limited h.coherent h.timed h.last unspent h.lines;
  contents = step_contents of_rows rows_are limits choice now call b taken h.contents;
}

-- an opening that spends no number makes a sound broker
pub opening_sound : (limits : Capacity) (choice : MemberChoice) (now : ℕ) (r : Records) → AreWithin limits → IsLawful r → is_opening_spent limits choice now r ≡ false
    → IsSound limits (opened limits choice now r)
opening_sound limits choice now r limited lawful unspent = record {
  limited = limited;
  coherent = opening_coherent limits choice now r limited (lawful_coherent r lawful) unspent;
  timed = (opening_timed limits choice now r lawful.numbers.moment).1;
  last = opened_last limits choice now r;
  accepted = opening_accepted limits choice now r (lawful_accepted r lawful);
  shared = opening_shared limits choice now r lawful.shared (lawful_accepted r lawful);
  flight = opening_keeps limits choice now r (lawful_flight r lawful);
  orders = opening_orders limits choice now r limited (lawful_coherent r lawful) lawful unspent;
  filters = opening_filters limits choice now r lawful;
  lines = opening_unique limits choice now r;
  contents = opening_contents of_rows rows_are limits choice now r (lawful_contents r lawful);
}

-- a step keeps a sound broker within its own limits
pub step_within : (limits : Capacity) (choice : MemberChoice) (now : ℕ) (call : Call) (b : Broker) → IsSound limits b → IsWithin limits (stored b) → IsWithin limits (stored (stepped limits choice now call b))
step_within limits choice now call b sound h = record {
  sessions = step_sessions limits choice now call b h.sessions;
  retained = step_retained limits choice now call b sound.coherent.ordered h.retained;
  queues = step_queues limits choice now call b sound.limited.queue sound.coherent.ordered h.queues;
}

-- an opening keeps records within the broker's limits
pub opening_within : (limits : Capacity) (choice : MemberChoice) (now : ℕ) (r : Records) → AreWithin limits → IsLawful r → IsWithin limits r → IsWithin limits (stored (opened limits choice now r))
opening_within limits choice now r limited lawful h =
    let coherent = lawful_coherent r lawful in
    record {
      sessions = opening_sessions limits choice now r h.sessions;
      retained = opening_retained limits choice now r coherent.ordered h.retained;
      queues = opening_queues limits choice now r limited.queue coherent.ordered h.queues;
    }
