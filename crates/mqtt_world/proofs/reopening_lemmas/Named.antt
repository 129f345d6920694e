-- What a broker has left names its topics, whatever came (MQTT 5.0, 3.3.2.1, 3.3.2.3.4).
use Rattle.std.proofs.Common.{List, [], ◌∷◌, subst}
use Rattle.mqtt_records.specs.declared.state.records.Records.{Records}
use Rattle.mqtt_rules.specs.step.Laws.{Asked, Event, Reopened, after_event, after_events, blank}
use Rattle.mqtt_rules.specs.step.State.{Broker, stored}
use Rattle.mqtt_rules.specs.granting.Naming.{NamesTopics, StoresNamed}
use Rattle.mqtt_rules.proofs.granting_lemmas.Steps.{opening_named, step_named}
use Rattle.mqtt_world.specs.reopening.Reached.{WasLeft}

-- nothing is stored at first
blank_named : NamesTopics blank
blank_named = record { stored = record { sessions = tt; retained = tt }; lines = tt }

event_named : (e : Event) (b : Broker) → NamesTopics b → NamesTopics (after_event e b)
event_named (Asked limits choice now call) b h = step_named limits choice now call b h
event_named (Reopened limits choice now) b h = opening_named limits choice now (stored b) h.stored

events_named : (es : List Event) (b : Broker) → NamesTopics b → NamesTopics (after_events es b)
events_named [] b h = h
events_named (e ∷ es) b h = events_named es (after_event e b) (event_named e b h)

-- of the events nothing is asked
pub left_named : (r : Records) → WasLeft r → StoresNamed r
left_named r w = subst StoresNamed w.is (events_named w.events blank blank_named).stored
