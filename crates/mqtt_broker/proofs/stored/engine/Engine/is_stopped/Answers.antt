use Rattle.std.proofs.Common.{◌≡◌, false, sym, subst}
use Rattle.mqtt_rules.specs.step.State.{Broker}
use Rattle.mqtt_broker.specs.stored.Running.{Running}
use Rattle.mqtt_broker.proofs.stored_lemmas.Finished.{view_is}
use Rattle.mqtt_broker.proofs.stored.engine.Engine.is_stopped.Goals as goal

pub returns-clause-stored : goal.returns-clause-stored
returns-clause-stored g c =
    let p = c.self.inside.parts in
    subst (λ (r : Running _). r.stopped ≡ false → g.K.Keep.is_sound r.keep → g.K.Keep.holds r.keep r.broker.records) c.self.view_is
    (λ runs sound.
    let h = c.self.invariant.its runs in
    subst (λ (b : Broker). g.K.Keep.holds p.keep b.records)
    (sym (view_is g.K.Keep g.met.K.Keep.tells p.keep p.step.limits p.step.broker h.whole h.its sound)) h.its.holds)
