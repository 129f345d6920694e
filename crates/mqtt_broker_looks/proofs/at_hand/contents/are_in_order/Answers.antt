use Rattle.std.proofs.Common.{nat_lt, rules}
use Rattle.std.proofs.lemmas.Fn.{always_returns_same}
use Rattle.mqtt_broker_looks.proofs.at_hand_lemmas.Filled.{sorted_ascends}
use Rattle.mqtt_broker_looks.proofs.at_hand.contents.are_in_order.Goals as goal

pub returns : goal.returns
returns c =
    sorted_ascends c.is_sorted_by.result c.args.contents.now
    (c.is_sorted_by.ensures.cases (λ x y. nat_lt x.place y.place) (always_returns_same _ _ _ (λ a r f k. search rules)))
