use Rattle.mqtt_records.proofs.lists_lemmas.KeyLemmas.{distinct_says}
use Rattle.mqtt_records.proofs.lists.distinct.are_distinct.Goals as goal

pub returns : goal.returns
returns g c =
    distinct_says g.K.Ord.cmp g.met.K.Ord.total c.rise.result c.args.keys.now c.sort_unstable.new.self c.sort_unstable.ensures.permutation c.sort_unstable.ensures.sorted c.rise.ensures
