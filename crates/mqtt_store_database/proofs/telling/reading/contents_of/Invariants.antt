use Rattle.std.proofs.Common.{take}
use Rattle.mqtt_store_rows.specs.values.Lists.{AreRows}
use Rattle.mqtt_store_database.specs.telling.Said.{SaysCopyContent}
use Rattle.mqtt_store_database.proofs.telling.reading.contents_of.Given as goal

abbrev pub invariant-loop-row : goal.invariant-loop-row
invariant-loop-row l = record {
  are : AreRows SaysCopyContent (take l.row-index l.rows) l.all.items;
}
