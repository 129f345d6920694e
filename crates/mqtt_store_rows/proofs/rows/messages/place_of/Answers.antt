use Rattle.std.proofs.Common.{rules, ltb}
use Rattle.std.proofs.lemmas.List.Sorted.{IsPartitionPoint-from_clause, IsPartitionedBy-ltb}
use Rattle.mqtt_records.proofs.lists_lemmas.OrderLemmas.{ascending_rises, front_len_is}
use Rattle.mqtt_store_rows.specs.rows.Joins.{publication_of}
use Rattle.mqtt_store_rows.proofs.rows.messages.place_of.Goals as goal

pub returns : goal.returns
returns c =
    let parted = IsPartitionedBy-ltb publication_of _ c.args.publication (ascending_rises publication_of _ c.requires) in
    let point = IsPartitionPoint-from_clause (λ message. ltb (publication_of message) c.args.publication) _ _ c.partition_point.ensures.partitioned parted (λ a r q k. search rules) in
    front_len_is publication_of c.args.publication _ _ c.partition_point.ensures.bound point.0 point.1
