-- Rows of a queue as the session rules see them, whatever the size by which a PUBLISH is too large (MQTT 5.0, 3.1.2.11.4).
use Rattle.std.proofs.Common.{◌≡◌, ℕ, List, [], ◌∷◌, map, refl, ap}
use Rattle.std.specs.Prelude.{max}
use Rattle.mqtt_base.specs.Phases.{order_of}
use Rattle.mqtt_flow.specs.outbound.Queue.{greatest_order}
use Rattle.mqtt_records.specs.messages.Queue.{CopyRow}
use Rattle.mqtt_rules.specs.step.Fitting.{sized}
use Rattle.mqtt_rules.specs.step.State.{entry_on, queued_copy}

-- the bytes that a row remembers
abbrev pub own_size : CopyRow → ℕ
own_size e = (queued_copy e.copy).size

-- by these a row is seen as it is on a line
pub own_rows : (went : List ℕ) (es : List CopyRow) → map (sized own_size went) es ≡ map (entry_on went) es
own_rows went es = refl

-- orders of release don't depend on sizes
pub orders_sized : (size : CopyRow → ℕ) (went : List ℕ) (es : List CopyRow) → greatest_order (map (sized size went) es) ≡ greatest_order (map (entry_on went) es)
orders_sized size went [] = refl
orders_sized size went (e ∷ es) = ap (max (order_of e.phase)) (orders_sized size went es)
