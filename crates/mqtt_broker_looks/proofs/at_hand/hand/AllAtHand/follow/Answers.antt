use Rattle.std.proofs.Common.{ℕ, ◌≤◌, arith, drop, length}
use Rattle.mqtt_broker_looks.specs.at_hand.Following.{HasFollowedAll}
use Rattle.mqtt_broker_looks.specs.at_hand.Hand.{at_hand_of}
use Rattle.mqtt_broker_looks.proofs.at_hand_lemmas.Stored.{drop_past, gone_along, hand_says}
use Rattle.mqtt_broker_looks.proofs.at_hand.hand.AllAtHand.follow.Goals as goal

pub returns-clause-stored : goal.returns-clause-stored
returns-clause-stored c = λ r says fits.
    let changes = c.args.changes.now in
    let i = c.loop-change.change-index in
    let past : length changes ≤ i = omega (arith, c.loop-change-test.false) in
    let each : (birth : ℕ) → HasFollowedAll birth changes (at_hand_of birth c.args.self.now) (at_hand_of birth c.loop-change.self) =
    λ birth.
    (gone_along birth changes (drop i changes) c.loop-change.is_all (at_hand_of birth c.args.self.now) (at_hand_of birth c.loop-change.self)
    (drop_past changes i past) (c.loop-change.invariant birth)).1 in
    hand_says c.args.self.now c.loop-change.self changes r says fits each
