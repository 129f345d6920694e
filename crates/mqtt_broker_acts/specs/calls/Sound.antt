-- What holds of a broker between its calls (MQTT 5.0, 2.2.1, 3, 4.1).
use Rattle.std.specs.Prelude.{ℕ, ◌≤◌, length}
use Rattle.mqtt_records.specs.declared.state.records.Records.{Records}
use Rattle.mqtt_records.specs.state.Contents.{SharesContents}
use Rattle.mqtt_records.specs.state.Records.{IsNumber}
use Rattle.mqtt_rules.specs.declared.step.Capacity.{Capacity}
use Rattle.mqtt_rules.specs.step.State.{Broker}
use Rattle.mqtt_rules.specs.step.Contents.{AreContentsLawful}
use Rattle.mqtt_rules.specs.step.Flight.{HasDistinctIdentifiers}
use Rattle.mqtt_rules.specs.step.Laws.{AreWithin, IsCoherent, QueuesWithin}
use Rattle.mqtt_rules.specs.step.Lines.{HasUniqueLines}
use Rattle.mqtt_rules.specs.step.Numbers.{HasAcceptedNumbers, IsTimed}
use Rattle.mqtt_broker_step.specs.Subscribing.{HaveFiltersOnce}
use Rattle.mqtt_broker_queue.specs.queues.Queues.{HasKeptOrders}

-- limits within those of the tables; coherent records, of which the stored moment and the moment are such as are kept;
-- copies and retained messages of accepted publications, those of one saying the same; packet identifiers in flight that differ; orders of release that
-- are such as are kept; each filter of a session once; lines that stand for the connected sessions; and contents that packets
-- can carry
pub record IsSound (limits : Capacity) (b : Broker) : Type 0 where
  pub limited : AreWithin limits
  pub coherent : IsCoherent b.records
  pub timed : IsTimed b
  pub last : IsNumber b.now
  pub accepted : HasAcceptedNumbers b.records
  pub shared : SharesContents b.records
  pub flight : HasDistinctIdentifiers b.records
  pub orders : (birth : ℕ) → HasKeptOrders birth b.records
  pub filters : HaveFiltersOnce b.records
  pub lines : HasUniqueLines b
  pub contents : AreContentsLawful b

-- the broker's own limits, which may be lower than those of what was stored under other ones (ours)
pub record IsWithin (limits : Capacity) (r : Records) : Type 0 where
  pub sessions : length r.sessions ≤ limits.sessions
  pub retained : length r.retained ≤ limits.retained
  pub queues : QueuesWithin limits.queue r
