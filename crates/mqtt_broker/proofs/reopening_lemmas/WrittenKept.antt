-- What a broker writes is such as it has written: after every step and opening, and after every run from an empty store.
use Rattle.std.proofs.Common.{◌≡◌, ℕ, false, List, [], ◌∷◌, arith}
use Rattle.std.specs.List.{AllByRecursion}
use Rattle.mqtt_records.specs.state.Records.{IsNumber, nothing}
use Rattle.mqtt_records.specs.declared.state.records.Records.{Records}
use Rattle.mqtt_rules.specs.declared.step.Capacity.{Capacity}
use Rattle.mqtt_rules.specs.step.Contents.{AreContentsOf, HasTopics, TakesLawful, of_packets}
use Rattle.mqtt_rules.specs.step.Laws.{AreWithin, Event, Asked, Reopened, after_event, after_events, blank}
use Rattle.mqtt_rules.specs.step.Numbers.{IsTimed}
use Rattle.mqtt_rules.specs.step.State.{Broker, MemberChoice, stored}
use Rattle.mqtt_rules.specs.step.Step.{Call, is_opening_spent, is_step_spent, opened, stepped}
use Rattle.mqtt_rules.proofs.step_lemmas.contents.ContentLaw.{step_contents, opening_contents}
use Rattle.mqtt_rules.proofs.step_lemmas.flight.FlightStep.{step_keeps, opening_keeps}
use Rattle.mqtt_keep.proofs.contents_lemmas.Nothing.{nothing_shared}
use Rattle.mqtt_rules.proofs.step_lemmas.fit.LawfulRecords.{lawful_accepted}
use Rattle.mqtt_rules.proofs.sharing_lemmas.Steps.{opening_shared, step_shared}
use Rattle.mqtt_rules.proofs.step_lemmas.numbers.NumberSteps.{step_timed, opening_timed}
use Rattle.mqtt_rules.proofs.step_lemmas.fit.RowsFit.{opened_last, opening_coherent, step_coherent, step_last}
use Rattle.mqtt_rules.proofs.step_lemmas.contents.SpelledContents.{packets_are}
use Rattle.mqtt_broker_acts.specs.calls.Sound.{IsSound}
use Rattle.mqtt_broker_acts.proofs.calls_lemmas.Kept.{opening_filters, step_filters}
use Rattle.mqtt_broker.specs.reopening.Written.{AreFair, IsFair, IsWritten}
use Rattle.mqtt_broker.proofs.reopening_lemmas.BoundsKept.{opening_bounds, step_bounds}
use Rattle.mqtt_broker.proofs.reopening_lemmas.CopiesActs.{opening_identities, step_identities}
use Rattle.mqtt_broker.proofs.reopening_lemmas.Facts.{Facts, facts_of, written}
use Rattle.mqtt_broker.proofs.reopening_lemmas.NamesKept.{opening_names, step_names}
use Rattle.mqtt_broker.proofs.reopening_lemmas.PhasesKept.{opening_phases, step_phases}
use Rattle.mqtt_broker.proofs.reopening_lemmas.PlacesKept.{opening_places, step_places}
use Rattle.mqtt_broker.proofs.reopening_lemmas.TextsKept.{opening_texts, step_texts}
use Rattle.mqtt_broker.proofs.reopening_lemmas.TimesKept.{opening_timely, step_timely}

-- ---- a broker on records that it has written

-- what holds of a broker that has written such records: its lines' aliases, its moment
pub record IsWriting (b : Broker) : Type 0 where
  pub written : IsWritten (stored b)
  pub topics : AllByRecursion HasTopics b.lines
  pub timed : IsTimed b
  pub last : IsNumber b.now

packet_contents : (b : Broker) → IsWriting b → AreContentsOf of_packets b
packet_contents b h = record { stored = h.written.contents; lines = h.topics }

step_facts : (limits : Capacity) (choice : MemberChoice) (now : ℕ) (call : Call) (b : Broker) → AreWithin limits → TakesLawful call → is_step_spent limits choice now call b ≡ false → IsWriting b
    → Facts (stored (stepped limits choice now call b))
step_facts limits choice now call b within taken unspent h =
    let f = facts_of (stored b) h.written in
    record {
      coherent = step_coherent limits choice now call b within f.coherent h.timed h.last unspent;
      timely = step_timely limits choice now call b h.timed f.timely;
      places = step_places limits choice now call b f.places;
      phases = step_phases limits choice now call b f.coherent.ordered f.phases;
      identities = step_identities limits choice now call b f.identities;
      bounds = step_bounds limits choice now call b within f.coherent h.timed h.last unspent f.bounds;
      named = step_names limits choice now call b f.named;
      texts = step_texts limits choice now call b taken f.identities f.texts;
      filters = step_filters limits choice now call b f.filters;
      flight = step_keeps limits choice now call b f.flight;
      contents = (step_contents of_packets packets_are limits choice now call b taken (packet_contents b h)).stored;
      shared = step_shared limits choice now call b f.shared (lawful_accepted (stored b) h.written.lawful);
    }

opening_facts : (limits : Capacity) (choice : MemberChoice) (now : ℕ) (r : Records) → AreWithin limits → is_opening_spent limits choice now r ≡ false → IsWritten r → Facts (stored (opened limits choice now r))
opening_facts limits choice now r within unspent w =
    let f = facts_of r w in
    record {
      coherent = opening_coherent limits choice now r within f.coherent unspent;
      timely = opening_timely limits choice now r f.coherent.counters.moment f.timely;
      places = opening_places limits choice now r f.places;
      phases = opening_phases limits choice now r f.coherent.ordered f.phases;
      identities = opening_identities limits choice now r f.identities;
      bounds = opening_bounds limits choice now r within f.coherent unspent f.bounds;
      named = opening_names limits choice now r f.named;
      texts = opening_texts limits choice now r f.identities f.texts;
      filters = opening_filters limits choice now r w.lawful;
      flight = opening_keeps limits choice now r f.flight;
      contents = (opening_contents of_packets packets_are limits choice now r w.contents).stored;
      shared = opening_shared limits choice now r f.shared (lawful_accepted r w.lawful);
    }

-- ---- steps and openings

step_writing : (limits : Capacity) (choice : MemberChoice) (now : ℕ) (call : Call) (b : Broker) → AreWithin limits → TakesLawful call → is_step_spent limits choice now call b ≡ false → IsWriting b
    → IsWriting (stepped limits choice now call b)
step_writing limits choice now call b within taken unspent h = record {
  written = written (stored (stepped limits choice now call b)) (step_facts limits choice now call b within taken unspent h);
  topics = (step_contents of_packets packets_are limits choice now call b taken (packet_contents b h)).lines;
  timed = (step_timed limits choice now call b h.timed).1;
  last = step_last limits choice now call b h.last;
}

opening_writing : (limits : Capacity) (choice : MemberChoice) (now : ℕ) (r : Records) → AreWithin limits → is_opening_spent limits choice now r ≡ false → IsWritten r → IsWriting (opened limits choice now r)
opening_writing limits choice now r within unspent w = record {
  written = written (stored (opened limits choice now r)) (opening_facts limits choice now r within unspent w);
  topics = (opening_contents of_packets packets_are limits choice now r w.contents).lines;
  timed = (opening_timed limits choice now r w.lawful.numbers.moment).1;
  last = opened_last limits choice now r;
}

-- a step of a sound broker leaves what a broker writes
pub step_written : (limits : Capacity) (choice : MemberChoice) (now : ℕ) (call : Call) (b : Broker) → is_step_spent limits choice now call b ≡ false → TakesLawful call → IsSound limits b
    → IsWritten (stored b) → IsWritten (stored (stepped limits choice now call b))
step_written limits choice now call b unspent taken sound w =
    (step_writing limits choice now call b sound.limited taken unspent (record { written = w; topics = sound.contents.lines; timed = sound.timed; last = sound.last })).written

-- so does an opening
pub opening_written : (limits : Capacity) (choice : MemberChoice) (now : ℕ) (r : Records) → AreWithin limits → is_opening_spent limits choice now r ≡ false → IsWritten r → IsWritten (stored (opened limits choice now r))
opening_written limits choice now r within unspent w = (opening_writing limits choice now r within unspent w).written

-- ---- from an empty store

-- nothing is what a broker may have written
pub nothing_written : IsWritten nothing
nothing_written = record {
  lawful = record {
    numbers = record { births = omega arith; publications = omega arith; subscribes = omega arith; autos = omega arith; moment = omega arith };
    sessions = record { table = record { ascending = tt; within = omega arith }; clients = tt; places = tt; each = tt };
    retained = record { table = record { ascending = tt; within = omega arith }; topics = tt; each = tt };
    shared = nothing_shared;
  };
  contents = record { sessions = tt; retained = tt };
  filters = tt;
  publications = tt;
}

blank_writing : IsWriting blank
blank_writing = record { written = nothing_written; topics = tt; timed = omega arith; last = omega arith }

event_writing : (e : Event) (b : Broker) → IsFair e b → IsWriting b → IsWriting (after_event e b)
event_writing (Asked limits choice now call) b fair h = step_writing limits choice now call b fair.0 fair.1 fair.2 h
event_writing (Reopened limits choice now) b fair h = opening_writing limits choice now (stored b) fair.0 fair.1 h.written

events_writing : (es : List Event) (b : Broker) → AreFair es b → IsWriting b → IsWriting (after_events es b)
events_writing [] b fair h = h
events_writing (e ∷ es) b fair h = events_writing es (after_event e b) fair.1 (event_writing e b fair.0 h)

-- so is what any fair events leave
pub run_written : (es : List Event) → AreFair es blank → IsWritten (stored (after_events es blank))
run_written es fair = (events_writing es blank fair blank_writing).written

-- and from what a broker has written
pub opened_written : (limits : Capacity) (choice : MemberChoice) (now : ℕ) (r : Records) (es : List Event) → AreWithin limits → is_opening_spent limits choice now r ≡ false → IsWritten r
    → AreFair es (opened limits choice now r) → IsWritten (stored (after_events es (opened limits choice now r)))
opened_written limits choice now r es within unspent w fair = (events_writing es (opened limits choice now r) fair (opening_writing limits choice now r within unspent w)).written
