use Rattle.std.proofs.Common.{◌≡◌, ap, subst}
use Rattle.mqtt_flow.specs.outbound.Queue.{IsQueue}
use Rattle.mqtt_flow.specs.outbound.Outbound.{pushed}
use Rattle.mqtt_flow.proofs.outbound_lemmas.outbound.Queues.{is_queue-pushed}
use Rattle.mqtt_flow.proofs.outbound.outflow.Outflow.add.Goals as goal

pub invariant_of-self : goal.invariant_of-self
invariant_of-self c =
    let same : c.self.inside.entries.items ≡ c.args.self.now.queue = ap (λ v. v.queue) c.self.view_is in
    let grown = rw c.unwrap.ensures at c.push.ensures.items in
    let made : c.push.new.self.items ≡ pushed c.args.copy c.args.self.now.queue = cc in
    rw made (is_queue-pushed c.args.copy c.args.self.now.queue c.requires.few c.requires.place (subst IsQueue same c.self.invariant))
