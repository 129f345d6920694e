use Rattle.std.proofs.Common.{◌≡◌, ◌∙◌, rules, sym}
use Rattle.std.specs.Prelude.{option_copied}
use Rattle.mqtt_flow.specs.ring.AtHand.{content_at}
use Rattle.mqtt_broker_looks.specs.at_hand.Hand.{at_hand_of}
use Rattle.mqtt_broker_looks.proofs.at_hand.hand.AllAtHand.find.Goals as goal

pub returns-in-Some-clause-stored : goal.returns-in-Some-clause-stored
returns-in-Some-clause-stored c = λ r content says is.
    let found : option_copied c.find.result ≡ content_at c.args.place (at_hand_of c.args.birth c.args.self.now) = search rules in
    says c.args.birth c.args.place content (sym found ∙ is)
