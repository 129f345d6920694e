-- What a call asks of a broker: all that holds of it between calls but what its queues say (MQTT 5.0, 3, 4.1).
use Rattle.std.specs.Prelude.{ℕ}
use Rattle.std.specs.List.{AllByRecursion}
use Rattle.mqtt_base.specs.declared.limits.TheConstants.{SUBSCRIPTION_LIMIT}
use Rattle.mqtt_records.specs.declared.messages.message.RetainedMessage.{RetainedMessage}
use Rattle.mqtt_records.specs.declared.state.session.Session.{Session}
use Rattle.mqtt_records.specs.declared.state.records.Records.{Records}
use Rattle.mqtt_records.specs.state.Records.{IsNumber}
use Rattle.mqtt_records.specs.state.Session.{place_of}
use Rattle.mqtt_records.specs.lists.Order.{IsTable}
use Rattle.mqtt_rules.specs.declared.step.Capacity.{Capacity}
use Rattle.mqtt_rules.specs.step.State.{Broker}
use Rattle.mqtt_rules.specs.step.Contents.{HasTopics, IsAskedFor, IsPublished, IsWilled}
use Rattle.mqtt_rules.specs.step.Flight.{HasDistinctIdentifiers}
use Rattle.mqtt_rules.specs.step.Laws.{AreWithin, IsCoherent}
use Rattle.mqtt_rules.specs.step.Lines.{HasUniqueLines}
use Rattle.mqtt_rules.specs.step.Numbers.{HasAcceptedNumbers, IsTimed}
use Rattle.mqtt_broker_step.specs.Subscribing.{HaveFiltersOnce}
use Rattle.mqtt_broker_queue.specs.queues.Queues.{HasKeptOrders}

-- ---- what messages are made from, and who gets them: contents that packets can carry

-- a session's Will and its subscriptions
pub record HasLawfulSources (s : Session) : Type 0 where
  pub will : IsWilled s.will
  pub subscriptions : AllByRecursion IsAskedFor s.subscriptions
  pub table : IsTable place_of SUBSCRIPTION_LIMIT s.subscriptions

-- those of all sessions, and the retained messages
pub record AreSourcesStored (r : Records) : Type 0 where
  pub sessions : AllByRecursion HasLawfulSources r.sessions
  pub retained : AllByRecursion (λ (k : RetainedMessage). IsPublished k.content) r.retained

-- the same of what is stored, and the topics that aliases stand for
pub record AreSourcesLawful (b : Broker) : Type 0 where
  pub stored : AreSourcesStored b.records
  pub lines : AllByRecursion HasTopics b.lines

-- ---- what a call asks of a broker

-- whatever its waiting copies say, it is sound otherwise: so a call can do without what they say, which may stand in the store alone
pub record IsReady (limits : Capacity) (b : Broker) : Type 0 where
  pub limited : AreWithin limits
  pub coherent : IsCoherent b.records
  pub timed : IsTimed b
  pub last : IsNumber b.now
  pub accepted : HasAcceptedNumbers b.records
  pub flight : HasDistinctIdentifiers b.records
  pub orders : (birth : ℕ) → HasKeptOrders birth b.records
  pub filters : HaveFiltersOnce b.records
  pub lines : HasUniqueLines b
  pub sources : AreSourcesLawful b
