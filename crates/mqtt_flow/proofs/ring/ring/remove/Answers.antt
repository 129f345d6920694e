use Rattle.std.proofs.Common.{◌<◌, sym, ap, ◌∙◌, arith}
use Rattle.circular_buffer.specs.Buffer.{buffer}
use Rattle.mqtt_flow.proofs.ring_lemmas.RingLemmas.{without_before, without_empty, without_first}
use Rattle.mqtt_flow.proofs.ring.ring.remove.Goals as goal

pub returns-in-None : goal.returns-in-None
returns-in-None g c =
    ap (λ l. buffer l c.args.ring.now.capacity) (sym (without_empty c.args.place c.args.ring.now.items (sym c.in-None.ensures)))

pub returns-then-first-place : goal.returns-then-first-place
returns-then-first-place g c =
    c.pop_front.ensures.items
    ∙ ap (λ l. buffer l c.args.ring.now.capacity) (sym (without_first c.args.place c.args.ring.now.items c.in-Some.entry.now c.requires.order (sym c.in-Some.ensures) c.if-first-place.true))

pub returns-else-first-place-2 : goal.returns-else-first-place-2
returns-else-first-place-2 g c =
    let less : c.args.place < c.in-Some.entry.now.0 = omega (arith, c.if-first-place.false, c.if-first-place-2.false) in
    ap (λ l. buffer l c.args.ring.now.capacity) (sym (without_before c.args.place c.args.ring.now.items c.in-Some.entry.now c.requires.order (sym c.in-Some.ensures) less))
