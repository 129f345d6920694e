-- What a receiver's line takes if a session is connected on it: what the CONNECT of a conforming receiver says (MQTT 5.0,
-- 3.1.2.11.3, 3.1.2.11.4).
use Rattle.std.specs.Prelude.{◌≡◌, ℕ, ⊤, true, List, Option, Some, None}
use Rattle.std.specs.List.{AllByRecursion}
use Rattle.mqtt_world_model.specs.model.Ends.{Receiver}
use Rattle.mqtt_world_model.specs.model.World.{World, is_window, receiver_named}
use Rattle.mqtt_rules.specs.step.State.{Line as BrokerLine, Broker}
use Rattle.mqtt_world_laws.specs.receiver.Connecting.{any_size}

-- its Receive Maximum, and packets of any size
abbrev pub TakesAsAsked : ℕ → BrokerLine → Type 0
TakesAsAsked window l = (l.window ≡ window) × (l.largest ≡ any_size)

-- if this is the line of the number, and a session is connected on it
abbrev pub TakesThere : ℕ → ℕ → BrokerLine → Type 0
TakesThere window n l = l.number ≡ n → (birth : ℕ) → l.session ≡ Some birth → TakesAsAsked window l

-- of the line that it has, if it has one
abbrev pub LineTakes : ℕ → Option ℕ → Broker → Type 0
LineTakes window None b = ⊤
LineTakes window (Some n) b = AllByRecursion (TakesThere window n) b.lines

pub record ReceiverTakes (r : Receiver) (b : Broker) : Type 0 where
  pub window : is_window r.window ≡ true
  pub line : LineTakes r.window r.line.number b

abbrev pub EachTakes : Option Receiver → Broker → Type 0
EachTakes None b = ⊤
EachTakes (Some r) b = ReceiverTakes r b

-- the receiver of a name, if it has come
abbrev pub ItsLineTakes : List ℕ → World → Type 0
ItsLineTakes client w = EachTakes (receiver_named client w) w.broker
