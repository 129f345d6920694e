use Rattle.std.proofs.Common.{◌≡◌, ◌+◌, take}
use Rattle.mqtt_records.specs.lists.Order.{IsBelow, IsAscending}
use Rattle.mqtt_store_rows.specs.values.Lists.{AreRows}
use Rattle.mqtt_store_rows.proofs.values_lemmas.ListLemmas.{last_from}
use Rattle.mqtt_store_rows.proofs.rows.refers.all_with.Given as goal

abbrev pub invariant-loop-row : goal.invariant-loop-row
invariant-loop-row g l = record {
  are : AreRows (g.P.Refers.says l.messages) (take l.row-index l.rows) l.all;
  last : l.last ≡ last_from g.P.Row.key_of 0 l.all;
  order : IsAscending g.P.Row.key_of l.all;
  low : IsBelow g.P.Row.key_of (l.last + 1) l.all;
}
