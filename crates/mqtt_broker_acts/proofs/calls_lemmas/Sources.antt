-- What messages are made from in a sound broker, and the Wills among it (MQTT 5.0, 3.1.2.5).
use Rattle.std.proofs.Common.{◌≡◌, ℕ, List, [], ◌∷◌, refl}
use Rattle.std.specs.Prelude.{Option, Some, None}
use Rattle.std.specs.List.{AllByRecursion}
use Rattle.mqtt_records.specs.declared.state.records.Records.{Records}
use Rattle.mqtt_records.specs.declared.state.session.Session.{Session}
use Rattle.mqtt_records.specs.state.Session.{birth_of}
use Rattle.mqtt_rules.specs.declared.step.Capacity.{Capacity}
use Rattle.mqtt_rules.specs.step.Contents.{AreContentsLawful, HasContents, HasLawfulContents, IsWilled}
use Rattle.mqtt_rules.specs.step.State.{Broker, session_at}
use Rattle.mqtt_rules.proofs.step_lemmas.flight.FlightRows.{all_at}
use Rattle.mqtt_broker_acts.specs.closing.Wills.{will_at, will_of}
use Rattle.mqtt_broker_acts.specs.calls.Ready.{AreSourcesLawful, AreSourcesStored, HasLawfulSources, IsReady}
use Rattle.mqtt_broker_acts.specs.calls.Sound.{IsSound}

sessions_sources : (ss : List Session) → AllByRecursion HasContents ss → AllByRecursion HasLawfulSources ss
sessions_sources [] h = tt
sessions_sources (s ∷ ss) h =
    (record { will = h.0.will; subscriptions = h.0.subscriptions; table = h.0.table }, sessions_sources ss h.1)

-- what is made from lawful contents is lawful, whatever waits
pub stored_sources : (r : Records) → HasLawfulContents r → AreSourcesStored r
stored_sources r h = record { sessions = sessions_sources r.sessions h.sessions; retained = h.retained }

-- so it is of what is stored and of the lines' aliases
pub contents_sources : (b : Broker) → AreContentsLawful b → AreSourcesLawful b
contents_sources b h = record { stored = stored_sources b.records h.stored; lines = h.lines }

-- a sound broker can do its calls
pub sound_ready : (limits : Capacity) (b : Broker) → IsSound limits b → IsReady limits b
sound_ready limits b h = record {
  limited = h.limited;
  coherent = h.coherent;
  timed = h.timed;
  last = h.last;
  accepted = h.accepted;
  flight = h.flight;
  orders = h.orders;
  filters = h.filters;
  lines = h.lines;
  sources = contents_sources b h.contents;
}

willed_by : (birth : ℕ) (r : Records) (o : Option Session) → session_at birth r ≡ o → AllByRecursion HasLawfulSources r.sessions → IsWilled (will_of o)
willed_by birth r None found h = tt
willed_by birth r (Some s) found h = (all_at birth_of HasLawfulSources birth s r.sessions h found).will

-- each Will is lawful
pub willed : (r : Records) → AreSourcesStored r → (birth : ℕ) → IsWilled (will_at birth r)
willed r h birth = willed_by birth r (session_at birth r) refl h.sessions
