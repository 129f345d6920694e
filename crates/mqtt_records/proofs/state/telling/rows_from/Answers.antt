use Rattle.std.proofs.Common.{rules, ltb, ◌∙◌}
use Rattle.std.proofs.lemmas.List.{take_rest}
use Rattle.std.proofs.lemmas.List.Sorted.{IsPartitionPoint-from_clause, IsPartitionedBy-ltb}
use Rattle.mqtt_records.proofs.lists_lemmas.OrderLemmas.{ascending_rises}
use Rattle.mqtt_records.specs.state.Session.{copy_place}
use Rattle.mqtt_records.proofs.state_lemmas.TellingLemmas.{from_is}
use Rattle.mqtt_records.proofs.state.telling.rows_from.Goals as goal

pub returns : goal.returns
returns c =
    let queue = c.args.queue.now in
    let start = c.partition_point-start.result in
    let parted = IsPartitionedBy-ltb copy_place queue c.args.place (ascending_rises copy_place queue c.requires) in
    let point = IsPartitionPoint-from_clause (λ row. ltb (copy_place row) c.args.place) queue start c.partition_point-start.ensures.partitioned parted (λ a r q k. search rules) in
    take_rest queue start ∙ from_is c.args.place queue start c.partition_point-start.ensures.bound point.0 point.1
