use Rattle.std.proofs.Common.{rules}
use Rattle.std.specs.Ordering.{is_lt}
use Rattle.std.proofs.lemmas.Fn.{always_returns_same}
use Rattle.mqtt_records.proofs.lists.distinct.rise.Goals as goal

pub returns : goal.returns
returns g c =
    c.is_sorted_by.ensures.cases (λ x y. is_lt (g.K.Ord.cmp x y)) (always_returns_same _ _ _ (λ a r f k. search rules))
