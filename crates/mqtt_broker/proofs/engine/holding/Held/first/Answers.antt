use Rattle.std.proofs.Common.{◌≡◌, rules, subst, sym}
use Rattle.std.specs.Prelude.{IfOk, option_map}
use Rattle.mqtt_packet.specs.stream.Stream.{Framing}
use Rattle.mqtt_rules.specs.step.Piece.{first_call}
use Rattle.mqtt_broker.specs.engine.Framers.{call_asked}
use Rattle.mqtt_broker.proofs.engine.holding.Held.first.Goals as goal

pub returns-clause-asked : goal.returns-clause-asked
returns-clause-asked c = λ line.
    let same : c.args.self.now.framing ≡ c.self.inside.framer = search rules in
    subst (λ (f : Framing). IfOk c.first.result (λ asked. option_map (call_asked line) asked ≡ first_call line f.held)) (sym same) (c.first.ensures.asked line)
