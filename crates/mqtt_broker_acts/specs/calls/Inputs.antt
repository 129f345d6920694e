-- A packet on the line of a connected client, and what it finds (MQTT 5.0, 3.3 to 3.14, 4.1).
use Rattle.std.specs.Prelude.{◌≡◌, ℕ, Bool, true, false, Some, None}
use Rattle.mqtt_packet.specs.declared.codec.packet.Packet.{Packet}
use Rattle.mqtt_packet.specs.declared.codec.packet.Packet.TheVariants.{Publish, Puback, Pubrec, Pubrel, Pubcomp, Subscribe, Unsubscribe, Pingreq, Disconnect}
use Rattle.mqtt_rules.specs.step.Deeds.{Act, with_line}
use Rattle.mqtt_rules.specs.step.Lines.{closed_at, session_on}
use Rattle.mqtt_rules.specs.step.State.{Broker, Env, line_at}
use Rattle.mqtt_rules.specs.step.Step.{on_packet}
use Rattle.mqtt_broker_step.specs.Subscribing.{HaveFiltersOnce}
use Rattle.mqtt_broker_queue.specs.queues.Queues.{HasKeptOrders}
use Rattle.mqtt_broker_acts.specs.calls.Ready.{AreSourcesLawful}

-- what a packet does on a line that was heard, by the session that is connected on it
abbrev pub takes : ℕ → Packet → Env → Act
takes line packet env b = with_line (line_at line b) (λ l. on_packet env l packet l.session) b

-- the session is connected on the line; the orders of its copies, all filters and what messages are made from are such as packets
-- leave them
pub record HasClient (line birth : ℕ) (b : Broker) : Type 0 where
  pub on : session_on line b ≡ Some (Some birth)
  pub stands : closed_at birth b.records ≡ Some None
  pub orders : HasKeptOrders birth b.records
  pub filters : HaveFiltersOnce b.records
  pub sources : AreSourcesLawful b

-- a connected client may not send it (4.13)
abbrev pub is_stray : Packet → Bool
is_stray (Publish p) = false
is_stray (Puback a) = false
is_stray (Pubrec a) = false
is_stray (Pubrel a) = false
is_stray (Pubcomp a) = false
is_stray (Subscribe p) = false
is_stray (Unsubscribe p) = false
is_stray Pingreq = false
is_stray (Disconnect n) = false
is_stray packet = true
