use Rattle.std.proofs.Common.{◌≡◌, ◌≤◌, take, vec_capacity}
use Rattle.mqtt_records.proofs.lists.rows.RowsClone.clone.Given as goal

abbrev pub invariant-loop-row : goal.invariant-loop-row
invariant-loop-row g l = record {
  items : l.rows.items ≡ take l.row-index l.row-items;
  room : g.row.LIMIT ≤ vec_capacity l.rows;
}
