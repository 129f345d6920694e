use Rattle.std.proofs.Common.{take}
use Rattle.mqtt_store_rows.specs.gathering.Thin.{AreCovered}
use Rattle.mqtt_store_rows.proofs.gathering.messages.numbers_in.Given as goal

abbrev pub invariant-loop-row : goal.invariant-loop-row
invariant-loop-row l = AreCovered l.numbers.items (take l.row-index l.kept)
