use Rattle.std.proofs.Common.{◌≡◌, map, take}
use Rattle.mqtt_records.specs.state.Telling.{copy_content}
use Rattle.mqtt_records.proofs.state.telling.contents_of.Given as goal

abbrev pub invariant-loop-row : goal.invariant-loop-row
invariant-loop-row l = l.all.items ≡ map copy_content (take l.row-index l.rows)
