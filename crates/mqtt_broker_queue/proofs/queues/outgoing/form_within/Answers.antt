use Rattle.std.proofs.Common.{false, refl, ap, ◌∙◌}
use Rattle.mqtt_rules.specs.step.Forms.{other_bytes, published_of}
use Rattle.mqtt_broker_queue.proofs.queues_lemmas.Forms.{found_by}
use Rattle.mqtt_broker_queue.proofs.queues.outgoing.form_within.Goals as goal

pub returns : goal.returns
returns c =
    let copy = c.args.copy.now in
    c.form_within.ensures (published_of copy.content.arrived false 1 copy) refl
    (found_by c.in-Some.other copy (c.in-Some.ensures.exact ∙ ap other_bytes c.lend.ensures) copy.content.arrived 1 false)
