-- What is said of the packets that are under way from the ends of the world (MQTT 5.0, 1.5.4, 2.2.1).
use Rattle.std.specs.Prelude.{◌≤◌, ◌<◌, ◌^◌, ⊤}
use Rattle.std.specs.List.{AllByRecursion}
use Rattle.mqtt_flow.specs.outbound.Receiver.{connect, puback, pubcomp, pubrec}
use Rattle.mqtt_rules.specs.step.Contents.{IsTaken}
use Rattle.mqtt_world_model.specs.model.Ends.{Back, Publisher, Receiver, Sent, answers, asks_for, wire, wire_back}

-- the broker takes whatever is under way from a publisher, on its line and on the one that it gave up
pub record IsTakenFrom (p : Publisher) : Type 0 where
  pub up : AllByRecursion (λ (s : Sent). IsTaken (wire p.client p.contents s)) p.line.up
  pub old : AllByRecursion (λ (s : Sent). IsTaken (wire p.client p.contents s)) p.line.old

-- what a receiver answers has a packet identifier, which is that of the packet that it answers
abbrev pub HasIdentifier : Back → Type 0
HasIdentifier (answers (connect clean)) = ⊤
HasIdentifier (answers (puback i code)) = (1 ≤ i) × (i < 2 ^ 16)
HasIdentifier (answers (pubrec i code)) = (1 ≤ i) × (i < 2 ^ 16)
HasIdentifier (answers (pubcomp i code)) = (1 ≤ i) × (i < 2 ^ 16)
HasIdentifier (asks_for w) = ⊤

-- so with what is under way from a receiver
abbrev pub IsTakenBack : Receiver → Back → Type 0
IsTakenBack r x = HasIdentifier x → IsTaken (wire_back r.client r.window r.aliases x)

pub record IsTakenFromReceiver (r : Receiver) : Type 0 where
  pub up : AllByRecursion (IsTakenBack r) r.line.up
  pub old : AllByRecursion (IsTakenBack r) r.line.old
