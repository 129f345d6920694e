-- Worked runs: what a receiver and its session see of the world is what the events of their hop make (MQTT 5.0, 4.3.3, 4.4).
use Rattle.std.proofs.Common.{◌≡◌, ℕ, false, List, [], ◌∷◌, ◌++◌, Option, Some, None, refl}
use Rattle.std.specs.Prelude.{option_map, map}
use Rattle.std.specs.Str.{is_utf8, chars}
use Rattle.std.proofs.Math.Utf8.{encode}
use Rattle.mqtt_base.specs.Values.{varint}
use Rattle.mqtt_base.specs.declared.session.Qos.TheVariants.{ExactlyOnce}
use Rattle.mqtt_flow.specs.declared.outbound.entry.QueuedCopy.{QueuedCopy}
use Rattle.mqtt_flow.specs.outbound.OutboundWorld.{Event as HopEvent, Lot, World as Hop, enter, make_line}
use Rattle.mqtt_flow.specs.outbound.OutboundWorld as hop
use Rattle.mqtt_records.specs.declared.state.session.Session.{Session}
use Rattle.mqtt_rules.proofs.step_lemmas.examples.Play.{usual, topic, hi}
use Rattle.mqtt_rules.specs.step.State.{session_named}
use Rattle.mqtt_world_model.specs.model.Ends.{Receiver}
use Rattle.mqtt_world_model.specs.model.Run.{after}
use Rattle.mqtt_world_model.specs.model.World.{Event, World, ask, receiver_named, to_broker}
use Rattle.mqtt_world_model.proofs.model_lemmas.examples.Scripts.{turns, p1, r1, first_copy, published, pumped}
use Rattle.mqtt_world_laws.specs.receiver.Seen.{Numbering, lot_on, seen, still_standing, went_in}

abbrev world : List Event → World
world es = after usual (turns es)

-- a copy of QoS 2 enters the receiver's queue
abbrev accepted : List Event
accepted = published ++ ask (to_broker p1) ∷ []

-- the hop

abbrev the_copy : QueuedCopy
the_copy = record {
  id = first_copy;
  qos = ExactlyOnce;
  size = 12;
  arrived = 0;
  expiry = None;
}

abbrev largest : ℕ
largest = 0xfffffff

abbrev entering : List HopEvent
entering =
    make_line false ∷ hop.to_broker false ∷ hop.to_end
    ∷ enter (record { queue = usual.queue; full = usual.full }) 1 the_copy (record { topic = topic; payload = hi }) ∷ []

abbrev sending : List HopEvent
sending = entering ++ hop.pump 10 0 ∷ hop.to_end ∷ []

abbrev makes : List HopEvent → Hop
makes es = hop.run largest es hop.start

abbrev numbers : Numbering
numbers copy = 0

abbrev sees : List Event → List Lot → Option Hop
sees es copies = option_map (λ (r : Receiver). seen numbers copies r (world es).broker) (receiver_named r1 (world es))

abbrev went_by : Option (List ℕ) → List ℕ
went_by None = []
went_by (Some went) = went

abbrev queued : List Event → Option (List Lot)
queued es = option_map (λ (s : Session). map (lot_on (went_by (went_in s.birth (world es).broker))) s.queue) (session_named r1 (world es).broker.records)

-- the hop sees a copy that entered
pub an_entered_copy_is_seen : sees accepted (makes entering).copies ≡ Some (makes entering)
unfolding varint is_utf8 chars encode
an_entered_copy_is_seen = refl

-- and it stands
pub an_entered_copy_stands : queued accepted ≡ Some (still_standing (makes entering).copies)
unfolding varint is_utf8 chars encode
an_entered_copy_stands = refl

-- so it is with one that was sent
pub a_sent_copy_is_seen : sees pumped (makes sending).copies ≡ Some (makes sending)
unfolding varint is_utf8 chars encode
a_sent_copy_is_seen = refl

-- which stands too
pub a_sent_copy_stands : queued pumped ≡ Some (still_standing (makes sending).copies)
unfolding varint is_utf8 chars encode
a_sent_copy_stands = refl
