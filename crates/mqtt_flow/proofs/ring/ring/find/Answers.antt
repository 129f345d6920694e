use Rattle.std.proofs.Common.{sym, ap, ◌∙◌}
use Rattle.mqtt_flow.specs.ring.AtHand.{content_in}
use Rattle.mqtt_flow.proofs.ring_lemmas.RingLemmas.{content_in-append, content_in-past}
use Rattle.mqtt_flow.proofs.ring.ring.find.Goals as goal

pub returns-in-Some : goal.returns-in-Some
returns-in-Some g c =
    sym (ap (content_in c.args.place) (sym c.as_slices.ensures)
    ∙ content_in-append c.args.place c.in-Some.content.now c.as_slices.result.0.now c.as_slices.result.1.now (sym c.in-Some.ensures))

pub returns-in-None : goal.returns-in-None
returns-in-None g c =
    c.find_among-in-None.ensures
    ∙ sym (ap (content_in c.args.place) (sym c.as_slices.ensures)
    ∙ content_in-past c.args.place c.as_slices.result.0.now c.as_slices.result.1.now (sym c.in-None.ensures))
