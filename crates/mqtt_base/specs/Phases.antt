-- What a copy's phase says of its packet identifier and its release (MQTT 5.0, 2.2.1, 4.3.3, 4.6).
use Rattle.std.specs.Prelude.{ℕ, Option, None, Some}
use Rattle.mqtt_base.specs.declared.session.Phase.{Phase}
use Rattle.mqtt_base.specs.declared.session.Phase.TheVariants.{Waiting, Sent, Released, Oversize}

-- the packet identifier that a copy has (2.2.1)
abbrev pub identifier_of : Phase → Option ℕ
identifier_of Waiting = None
identifier_of (Sent identifier) = Some identifier
identifier_of (Released identifier order) = Some identifier
identifier_of (Oversize identifier order) = Some identifier

-- a copy's place among those released (4.6), and 0 for one that isn't
abbrev pub order_of : Phase → ℕ
order_of Waiting = 0
order_of (Sent identifier) = 0
order_of (Released identifier order) = order
order_of (Oversize identifier order) = order
