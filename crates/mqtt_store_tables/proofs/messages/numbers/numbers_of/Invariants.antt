use Rattle.std.proofs.Common.{◌≡◌, map, take}
use Rattle.sqlite_value.specs.Order.{column}
use Rattle.mqtt_store_tables.specs.messages.References.{as_rows}
use Rattle.mqtt_store_tables.proofs.messages.numbers.numbers_of.Given as goal

abbrev pub invariant-loop-row : goal.invariant-loop-row
invariant-loop-row l = as_rows l.found.items ≡ map (λ r. column r 0) (take l.row-index l.rows)
