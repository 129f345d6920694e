-- The laws that are stated and not yet proved, so that their text is checked.
use Rattle.std.proofs.Common.{List}
use Rattle.mqtt_rules.specs.declared.step.Capacity.{Capacity}
use Rattle.mqtt_world_model.specs.model.Run.{Turn}
use Rattle.mqtt_world_model.specs.model.Laws.{AcceptedOnce, CopiesOnce, AllHandedOnce}

-- the law of messages is its text
pub messages_text : (limits : Capacity) (ts : List Turn) → AcceptedOnce limits ts → AcceptedOnce limits ts
messages_text limits ts h = h

-- the law of copies is its text
pub copies_text : (limits : Capacity) (ts : List Turn) → CopiesOnce limits ts → CopiesOnce limits ts
copies_text limits ts h = h

-- the law of handing over is its text
pub handed_text : (limits : Capacity) (ts : List Turn) → AllHandedOnce limits ts → AllHandedOnce limits ts
handed_text limits ts h = h
