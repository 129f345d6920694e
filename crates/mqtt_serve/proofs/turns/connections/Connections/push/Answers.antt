use Rattle.std.proofs.Common.{◌≡◌, ◌<◌, ◌++◌, ◌∷◌, [], length, rules}
use Rattle.mqtt_base.specs.declared.limits.TheConstants.{LINE_LIMIT}
use Rattle.mqtt_serve.specs.declared.turns.connections.TheConstants.{AWAKE}
use Rattle.mqtt_serve.proofs.turns_lemmas.Noted.{noted_pushed}
use Rattle.mqtt_serve.proofs.turns.connections.Connections.push.Goals as goal

pub invariant_of-self : goal.invariant_of-self
invariant_of-self g c =
    let many : length c.self.inside.numbers.items ≡ length c.self.inside.all.items = c.self.invariant.0.as_many.0 in
    let many_too : length c.self.inside.awake.items ≡ length c.self.inside.all.items = c.self.invariant.0.as_many.1 in
    let room : length c.self.inside.all.items < LINE_LIMIT = search rules in
    let all : c.push.new.self.items ≡ c.self.inside.all.items ++ c.args.connection ∷ [] = search rules in
    let numbers : c.push-2.new.self.items ≡ c.self.inside.numbers.items ++ c.number-number.result ∷ [] = search rules in
    let awake : c.push-3.new.self.items ≡ c.self.inside.awake.items ++ AWAKE ∷ [] = search rules in (
      rw all (rw numbers (rw awake (noted_pushed _ _ _ c.number-number.result c.args.connection c.number-number.ensures c.self.invariant.0))),
      search rules,
      search rules,
      search rules,
    )
