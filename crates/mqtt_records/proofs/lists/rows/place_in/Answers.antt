use Rattle.std.proofs.Common.{rules, ltb}
use Rattle.std.proofs.lemmas.List.Sorted.{IsPartitionPoint-from_clause, IsPartitionedBy-ltb}
use Rattle.mqtt_records.proofs.lists_lemmas.OrderLemmas.{ascending_rises, front_len_is}
use Rattle.mqtt_records.proofs.lists.rows.place_in.Goals as goal

pub returns : goal.returns
returns g c =
    let key = g.R.Row.key_of in
    let parted = IsPartitionedBy-ltb key _ c.args.key (ascending_rises key _ c.requires) in
    let point = IsPartitionPoint-from_clause (λ row. ltb (key row) c.args.key) _ _ c.partition_point.ensures.partitioned parted (λ a r q k. search rules) in
    front_len_is key c.args.key _ _ c.partition_point.ensures.bound point.0 point.1
