-- What lawful records have in flight has packet identifiers from 1, of two bytes, if their slim rows have such (MQTT 5.0, 2.2.1).
use Rattle.std.proofs.Common.{◌≡◌, ℕ, List, [], ◌∷◌, map, subst}
use Rattle.std.specs.List.{AllByRecursion}
use Rattle.mqtt_base.specs.declared.session.Phase.{Phase}
use Rattle.mqtt_base.specs.declared.session.Phase.TheVariants.{Waiting, Sent, Released, Oversize}
use Rattle.mqtt_base.specs.declared.session.Qos.{Qos}
use Rattle.mqtt_base.specs.declared.session.Qos.TheVariants.{AtMostOnce, AtLeastOnce, ExactlyOnce}
use Rattle.mqtt_records.specs.messages.Queue.{CopyRow}
use Rattle.mqtt_records.specs.messages.Slim.{slim}
use Rattle.mqtt_records.specs.declared.state.records.Records.{Records}
use Rattle.mqtt_records.specs.declared.state.session.Session.{Session}
use Rattle.mqtt_records.specs.state.Session.{with_all_slim}
use Rattle.mqtt_records.specs.state.Slim.{all_slim}
use Rattle.mqtt_keep.specs.declared.lawful.rows.Last.{Last}
use Rattle.mqtt_keep.specs.lawful.Lawful.{IsLawful, IsLawfulCopy, IsLawfulSession, IsPhase, last_of}
use Rattle.mqtt_rules.specs.spelling.Sending.{HasSentPhases, HaveSentPhases, IsSentPhase}
use Rattle.mqtt_broker.specs.stored.Identifiers.{HasShortQueue, HasTwoBytes, HaveTwoBytes}

-- ---- slim rows have the identifiers of the whole ones

queue_of : (rows : List CopyRow) → AllByRecursion (λ (row : CopyRow). HasTwoBytes row.phase) (map slim rows)
    → AllByRecursion (λ (row : CopyRow). HasTwoBytes row.phase) rows
queue_of [] h = tt
queue_of (row ∷ rows) h = (h.0, queue_of rows h.1)

sessions_of : (ss : List Session) → AllByRecursion HasShortQueue (map with_all_slim ss) → AllByRecursion HasShortQueue ss
sessions_of [] h = tt
sessions_of (s ∷ ss) h = (queue_of s.queue h.0, sessions_of ss h.1)

-- ---- and lawful ones are from 1

sent_phase : (qos : Qos) (phase : Phase) → IsPhase qos phase → HasTwoBytes phase → IsSentPhase phase
sent_phase AtMostOnce phase lawful short = absurd lawful
sent_phase AtLeastOnce Waiting lawful short = tt
sent_phase AtLeastOnce (Sent identifier) lawful short = record { some = lawful; fits = short }
sent_phase AtLeastOnce (Released identifier order) lawful short = absurd lawful
sent_phase AtLeastOnce (Oversize identifier order) lawful short = absurd lawful
sent_phase ExactlyOnce Waiting lawful short = tt
sent_phase ExactlyOnce (Sent identifier) lawful short = record { some = lawful; fits = short }
sent_phase ExactlyOnce (Released identifier order) lawful short = record { some = lawful.0; fits = short }
sent_phase ExactlyOnce (Oversize identifier order) lawful short = record { some = lawful.0; fits = short }

module _ (last : Last) where
  sent_queue : (birth : ℕ) (rows : List CopyRow) → AllByRecursion (IsLawfulCopy last birth) rows
      → AllByRecursion (λ (row : CopyRow). HasTwoBytes row.phase) rows → AllByRecursion (λ (row : CopyRow). IsSentPhase row.phase) rows
  sent_queue birth [] lawful short = tt
  sent_queue birth (row ∷ rows) lawful short =
      (sent_phase row.copy.qos row.phase lawful.0.phase short.0, sent_queue birth rows lawful.1 short.1)

  sent_sessions : (ss : List Session) → AllByRecursion (IsLawfulSession last) ss → AllByRecursion HasShortQueue ss → AllByRecursion HasSentPhases ss
  sent_sessions [] lawful short = tt
  sent_sessions (s ∷ ss) lawful short = (sent_queue s.birth s.queue lawful.0.queue.each short.0, sent_sessions ss lawful.1 short.1)

-- what a load answered has such identifiers in flight, and so have the whole records that it is of
pub sent_phases : (some whole : Records) → some ≡ all_slim whole → IsLawful whole → HaveTwoBytes some → HaveSentPhases whole
sent_phases some whole is lawful short =
    sent_sessions (last_of whole) whole.sessions lawful.sessions.each (sessions_of whole.sessions (subst HaveTwoBytes is short))
