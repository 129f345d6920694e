-- Whoever calls: copies enter and end once, few identifiers are open, and what waits and is sent of a copy is its publication's (MQTT 5.0,
-- 3.3.4, 4.3, 4.9).
use Rattle.std.proofs.Common.{List, [], refl}
use Rattle.std.specs.List.{AllByRecursion}
use Rattle.mqtt_rules.specs.step.Laws.{Event, blank}
use Rattle.mqtt_rules.specs.step.State.{Broker}
use Rattle.mqtt_rules.proofs.step_lemmas.order.OrderedSteps.{few_open}
use Rattle.mqtt_world_laws.specs.headline_in_forms.Reading.{Course}
use Rattle.mqtt_world_laws.specs.of_calls.Calls.{BeginsInOrder, SpendNone, course_of}
use Rattle.mqtt_world_laws.specs.of_calls.Delivery.{KeepsAll, QueuesCarry, SendsOfQueues}
use Rattle.mqtt_world_laws.proofs.acceptance_lemmas.copies.OnceRuns.{start_apart}
use Rattle.mqtt_world_laws.proofs.acceptance_lemmas.copies.Steady.{steady_start}
use Rattle.mqtt_world_laws.proofs.delivery_lemmas.contents.Contents.{AllSaid, Keeps, keeping}
use Rattle.mqtt_world_laws.proofs.delivery_lemmas.contents.Saying.{first_said}
use Rattle.mqtt_world_laws.proofs.of_calls_lemmas.Ending.{all_end}
use Rattle.mqtt_world_laws.proofs.of_calls_lemmas.Entering.{all_enter, numbered}
use Rattle.mqtt_world_laws.proofs.of_calls_lemmas.Events.{events_steady, events_walk}
use Rattle.mqtt_world_laws.proofs.of_calls_lemmas.Sending.{queues_carry, sends_so, steps_by}

module _ (es : List Event) (b : Broker) (begins : BeginsInOrder b) (fair : SpendNone es b) where
  abbrev c : Course
  c = course_of es b

  said : AllSaid b.records.publications [] b.records
  said = first_said b.records begins.numbers

  waits : QueuesCarry c.acceptances c.end
  waits =
      let base = b.records.publications in
      queues_carry base c.end.records.publications c.deeds (numbered es b begins fair) c.acceptances (steps_by c.steps) c.end
      (events_walk (Keeps base) (λ limits within. keeping base limits) es b fair begins.steady [] said)

  sends : AllByRecursion (SendsOfQueues c.acceptances) c.steps
  sends =
      sends_so b.records.publications c.end.records.publications c.deeds (numbered es b begins fair) c.acceptances (steps_by c.steps) es b [] fair begins.steady said refl

  -- from any broker in order
  pub keeps_all : KeepsAll c
  keeps_all = record {
    entering = all_enter es b begins fair;
    ending = all_end es b begins fair;
    few_open = few_open c.end.records (events_steady es b fair begins.steady).coherent.ordered;
    waiting = waits;
    sending = sends;
  }

-- with nothing stored it is in order
pub blank_in_order : BeginsInOrder blank
blank_in_order = record { steady = steady_start; apart = start_apart; numbers = (tt, tt) }

-- from nothing stored
pub keeps_from_nothing : (es : List Event) → SpendNone es blank → KeepsAll (course_of es blank)
keeps_from_nothing es fair = keeps_all es blank blank_in_order fair
