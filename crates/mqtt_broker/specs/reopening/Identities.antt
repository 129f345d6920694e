-- Identities of queued copies, and numbers of what is retained (MQTT 5.0, 3.3.1.3, 3.3.4, 4.6).
use Rattle.std.specs.Prelude.{◌≡◌, ℕ, true, map}
use Rattle.std.specs.List.{AllByRecursion}
use Rattle.mqtt_base.specs.declared.session.Cause.{Cause}
use Rattle.mqtt_base.specs.declared.session.Cause.TheVariants.{Direct, Share, Retained}
use Rattle.mqtt_keep.specs.lawful.Lawful.{IsUpTo}
use Rattle.mqtt_records.specs.declared.messages.message.MessageCopy.{MessageCopy}
use Rattle.mqtt_records.specs.declared.state.records.Records.{Records}
use Rattle.mqtt_records.specs.declared.state.session.Session.{Session}
use Rattle.mqtt_records.specs.lists.Distinct.{AllDiffer}
use Rattle.mqtt_rules.specs.step.Laws.{IsOrdered}
use Rattle.mqtt_rules.specs.step.Routing.{is_queued_at}

-- a copy of a retained message is for a subscribe that was granted
abbrev pub IsGivenCause : ℕ → Cause → Type 0
IsGivenCause subscribes Direct = Unit {0}
IsGivenCause subscribes (Share group) = Unit {0}
IsGivenCause subscribes (Retained subscribe) = IsUpTo subscribes subscribe

-- a copy of QoS 1 or 2, of a publication that was accepted
pub record IsGivenCopy (publications subscribes : ℕ) (copy : MessageCopy) : Type 0 where
  pub qos : is_queued_at copy.qos ≡ true
  pub publication : IsUpTo publications copy.id.publication
  pub cause : IsGivenCause subscribes copy.id.cause

-- no two copies in a session's queue have the same identity
pub record HasIdentities (publications subscribes : ℕ) (s : Session) : Type 0 where
  pub each : AllByRecursion (λ row. IsGivenCopy publications subscribes row.copy) s.queue
  pub differ : AllDiffer (map (λ row. row.copy.id) s.queue)

-- so it is in each session, and no two retained messages are of the same publication, which was accepted
pub record HaveIdentities (r : Records) : Type 0 where
  pub ordered : IsOrdered r
  pub sessions : AllByRecursion (HasIdentities r.publications r.subscribes) r.sessions
  pub retained : AllByRecursion (λ kept. IsUpTo r.publications kept.publication) r.retained
  pub differ : AllDiffer (map (λ kept. kept.publication) r.retained)
