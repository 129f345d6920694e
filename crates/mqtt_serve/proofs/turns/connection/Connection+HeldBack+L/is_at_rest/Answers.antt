use Rattle.std.proofs.Common.{◌≡◌, [], length, true, rules}
use Rattle.mqtt_serve.specs.turns.Wires.{may_send}
use Rattle.mqtt_serve.proofs.turns_lemmas.Noted.{at_rest}
use Rattle.mqtt_serve.proofs.turns.connection.Connection+HeldBack+L.is_at_rest.Goals as goal

pub returns-then-not-self : goal.returns-then-not-self
returns-then-not-self g c = λ still.
    let sends : may_send c.args.self.now ≡ true = search rules in
    let waits : c.args.self.now.waits ≡ [] = search rules in
    let held : length c.self.inside.peer.held ≡ 0 = search rules in
    at_rest c.args.self.now (g.L.Link.written c.self.inside.peer.peer) c.self.inside.peer.held sends waits held (search rules) (search rules)
