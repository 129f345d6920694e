use Rattle.mqtt_serve.proofs.turns_lemmas.Noted.{noted_woken}
use Rattle.mqtt_serve.proofs.turns.connections.Connections.wake_at.Goals as goal

pub invariant_of-self : goal.invariant_of-self
invariant_of-self g c =
    (noted_woken _ _ _ c.args.place c.self.invariant.0, c.self.invariant.1, c.self.invariant.2, c.self.invariant.3)
