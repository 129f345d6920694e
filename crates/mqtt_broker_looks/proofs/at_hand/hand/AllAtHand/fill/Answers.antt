use Rattle.std.proofs.Common.{◌≡◌, ◌∙◌, rules}
use Rattle.std.specs.Prelude.{IsTrue}
use Rattle.mqtt_broker_looks.specs.at_hand.Hand.{at_hand_of, by_place}
use Rattle.mqtt_broker_looks.proofs.at_hand_lemmas.Filled.{fill_says}
use Rattle.mqtt_broker_looks.proofs.at_hand.hand.AllAtHand.fill.Goals as goal

pub returns-then-is_ok-clause-stored : goal.returns-then-is_ok-clause-stored
returns-then-is_ok-clause-stored c =
    let all : IsTrue c.put.result → at_hand_of c.args.birth c.put.new.self ≡ record { entries = by_place c.args.contents.items; reaches_end = c.args.reaches_end } = search rules in
    fill_says c.args.birth c.args.self.now c.put.new.self c.args.contents.items c.args.reaches_end c.put.result all c.put.ensures.lost
    (λ other differ. c.put.ensures.others other differ ∙ c.take-at_hand.ensures.others other differ)
