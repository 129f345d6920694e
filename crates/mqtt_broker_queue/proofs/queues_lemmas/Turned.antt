-- What one turn makes of a step.
use Rattle.std.proofs.Common.{◌≡◌, ℕ, true, false, [], ◌∷◌, ◌++◌, ap, sym}
use Rattle.std.specs.Prelude.{Option, Some, None, option_and_then}
use Rattle.mqtt_base.specs.declared.session.Phase.TheVariants.{Sent}
use Rattle.mqtt_packet.specs.declared.codec.packet.Packet.{Packet}
use Rattle.mqtt_flow.specs.declared.outbound.entry.Turn.TheVariants as turns
use Rattle.mqtt_records.specs.messages.Queue.{CopyRow}
use Rattle.mqtt_records.specs.lists.Order.{row_at}
use Rattle.mqtt_records.specs.declared.state.session.Session.{Session}
use Rattle.mqtt_records.specs.state.Records.{copy_at}
use Rattle.mqtt_records.specs.state.Session.{copy_place}
use Rattle.mqtt_rules.specs.step.State.{Broker, session_at}
use Rattle.mqtt_rules.specs.step.Deeds.{Act, At, Mark, On, Went, Send, whose, then, always, with_session}
use Rattle.mqtt_rules.specs.step.Outbound.{at_place, of_entry}
use Rattle.mqtt_rules.specs.step.Packets.{publish_of}
use Rattle.mqtt_broker_step.specs.declared.fault.StepFault.{StepFault}
use Rattle.mqtt_broker_step.specs.Stepping.{Stepping, Did, IsLeft, to_session}
use Rattle.mqtt_broker_queue.specs.queues.Turning.{takes_turn}
use Rattle.mqtt_broker_step.proofs.Then.{same_act, same_left, did_then, left_then}

abbrev found_in : ℕ → Option Session → Option CopyRow
found_in place o = option_and_then (λ s. row_at copy_place place s.queue) o

-- ---- a copy is sent

abbrev pub marks_sent : ℕ → ℕ → ℕ → ℕ → Act
marks_sent line birth place id b = then (to_session birth (Mark place (Sent id)) b) (always (On line (Went place) ∷ [])) b

sent_by : (o : Option Session) (line place id : ℕ) (e : CopyRow) (packet : CopyRow → Packet) (b : Broker) → found_in place o ≡ Some e
    → (with_session o (λ y. always (At (whose y) (Mark place (Sent id)) ∷ [])) b ++ On line (Went place) ∷ []) ++ Send line (packet e) ∷ []
    ≡ with_session o (λ y. always (at_place place y (λ k. At (whose y) (Mark place (Sent id)) ∷ On line (Went place) ∷ Send line (packet k) ∷ []))) b
sent_by None line place id e packet b found = absurd cc
sent_by (Some x) line place id e packet b found =
    ap (λ (r : Option CopyRow). of_entry r (λ k. At (whose x) (Mark place (Sent id)) ∷ On line (Went place) ∷ Send line (packet k) ∷ [])) (sym found)

abbrev sending : ℕ → ℕ → ℕ → ℕ → Packet → Act
sending line birth place id packet b = then (marks_sent line birth place id b) (always (Send line packet ∷ [])) b

sent_is : (line birth place id : ℕ) (e : CopyRow) (s : Stepping) → copy_at birth place s.broker.records ≡ Some e
    → sending line birth place id (publish_of s.broker.now false id e.copy) s.broker ≡ takes_turn line birth (turns.Send place id) s.broker
sent_is line birth place id e s found =
    sent_by (session_at birth s.broker.records) line place id e (λ k. publish_of s.broker.now false id k.copy) s.broker found

-- a copy is sent once it is marked, told of as gone out, and its PUBLISH went out
pub sent_done : (line birth place id : ℕ) (e : CopyRow) (s s1 s2 : Stepping) → copy_at birth place s.broker.records ≡ Some e
    → Did (marks_sent line birth place id) s s1 → Did (always (Send line (publish_of s.broker.now false id e.copy) ∷ [])) s1 s2
    → Did (takes_turn line birth (turns.Send place id)) s s2
sent_done line birth place id e s s1 s2 found marked sent =
    let packet = publish_of s.broker.now false id e.copy in
    same_act (sending line birth place id packet) (takes_turn line birth (turns.Send place id)) s s2 (sent_is line birth place id e s found)
    (did_then (marks_sent line birth place id) (always (Send line packet ∷ [])) s s1 s2 marked sent)

-- a copy's sending is refused if its PUBLISH is, once it is marked
pub sent_left : (line birth place id : ℕ) (e : CopyRow) (fault : StepFault) (s s1 s2 : Stepping) → copy_at birth place s.broker.records ≡ Some e
    → Did (marks_sent line birth place id) s s1 → IsLeft (always (Send line (publish_of s.broker.now false id e.copy) ∷ [])) fault s1 s2
    → IsLeft (takes_turn line birth (turns.Send place id)) fault s s2
sent_left line birth place id e fault s s1 s2 found marked left =
    let packet = publish_of s.broker.now false id e.copy in
    same_left (sending line birth place id packet) (takes_turn line birth (turns.Send place id)) fault s s2 (sent_is line birth place id e s found)
    (left_then (marks_sent line birth place id) (always (Send line packet ∷ [])) fault s s1 s2 marked left)

-- ---- a copy is sent again

resent_by : (o : Option Session) (line place : ℕ) (e : CopyRow) (packet : CopyRow → Packet) (b : Broker) → found_in place o ≡ Some e
    → On line (Went place) ∷ Send line (packet e) ∷ [] ≡ with_session o (λ y. always (at_place place y (λ k. On line (Went place) ∷ Send line (packet k) ∷ []))) b
resent_by None line place e packet b found = absurd cc
resent_by (Some x) line place e packet b found =
    ap (λ (r : Option CopyRow). of_entry r (λ k. On line (Went place) ∷ Send line (packet k) ∷ [])) (sym found)

abbrev resending : ℕ → ℕ → Packet → Act
resending line place packet b = then (always (On line (Went place) ∷ []) b) (always (Send line packet ∷ [])) b

resent_is : (line birth place id : ℕ) (e : CopyRow) (s : Stepping) → copy_at birth place s.broker.records ≡ Some e
    → resending line place (publish_of s.broker.now true id e.copy) s.broker ≡ takes_turn line birth (turns.Resend place id) s.broker
resent_is line birth place id e s found =
    resent_by (session_at birth s.broker.records) line place e (λ k. publish_of s.broker.now true id k.copy) s.broker found

-- a copy is sent again once it is told of as gone out and its PUBLISH with DUP went out
pub resent_done : (line birth place id : ℕ) (e : CopyRow) (s s1 s2 : Stepping) → copy_at birth place s.broker.records ≡ Some e
    → Did (always (On line (Went place) ∷ [])) s s1 → Did (always (Send line (publish_of s.broker.now true id e.copy) ∷ [])) s1 s2
    → Did (takes_turn line birth (turns.Resend place id)) s s2
resent_done line birth place id e s s1 s2 found went sent =
    let packet = publish_of s.broker.now true id e.copy in
    same_act (resending line place packet) (takes_turn line birth (turns.Resend place id)) s s2 (resent_is line birth place id e s found)
    (did_then (always (On line (Went place) ∷ [])) (always (Send line packet ∷ [])) s s1 s2 went sent)

-- sending a copy again is refused if its PUBLISH is
pub resent_left : (line birth place id : ℕ) (e : CopyRow) (fault : StepFault) (s s1 s2 : Stepping) → copy_at birth place s.broker.records ≡ Some e
    → Did (always (On line (Went place) ∷ [])) s s1 → IsLeft (always (Send line (publish_of s.broker.now true id e.copy) ∷ [])) fault s1 s2
    → IsLeft (takes_turn line birth (turns.Resend place id)) fault s s2
resent_left line birth place id e fault s s1 s2 found went left =
    let packet = publish_of s.broker.now true id e.copy in
    same_left (resending line place packet) (takes_turn line birth (turns.Resend place id)) fault s s2 (resent_is line birth place id e s found)
    (left_then (always (On line (Went place) ∷ [])) (always (Send line packet ∷ [])) fault s s1 s2 went left)
