use Rattle.std.proofs.Common.{ap, arith}
use Rattle.mqtt_packet.specs.stream.Stream.{Framing}
use Rattle.mqtt_cli.proofs.viewer_lemmas.RightVectors.{fault_found, fed_parts, part_given, waits_first, whole_given}
use Rattle.mqtt_cli.proofs.viewer.vectors_checker.whole_of.Goals as goal

pub loop-rest-init : goal.loop-rest-init
loop-rest-init c = waits_first c.args.frame.now c.args.framer.now c.requires.start

pub returns-then-after-held-eq0 : goal.returns-then-after-held-eq0
returns-then-after-held-eq0 c =
    let new = ap (λ (f : Framing). f.held) c.in-Ok.ensures.ok in
    let parts = fed_parts _ _ _ _ _ _ _ _ c.loop-rest.invariant c.split_at.ensures.front (omega (arith, c.in-Ok.ensures.answer)) new c.split_at-in-loop-rest.ensures.back in
    whole_given _ _ _ _ _ parts (rw c.in-Ok-Some.field-0-is at c.in-Ok-Some.ensures.found) (omega (arith, c.held.ensures.exact, c.if-after-held-eq0.true))

pub returns-in-Ok-Some : goal.returns-in-Ok-Some
returns-in-Ok-Some c =
    let new = ap (λ (f : Framing). f.held) c.in-Ok.ensures.ok in
    let parts = fed_parts _ _ _ _ _ _ _ _ c.loop-rest.invariant c.split_at.ensures.front (omega (arith, c.in-Ok.ensures.answer)) new c.split_at-in-loop-rest.ensures.back in
    part_given _ _ _ _ _ parts (rw c.in-Ok-Some.field-0-is at c.in-Ok-Some.ensures.found) (omega (arith, c.held.ensures.exact, c.if-after-held-eq0.false))

pub returns-in-Err-next : goal.returns-in-Err-next
returns-in-Err-next c =
    let new = ap (λ (f : Framing). f.held) c.in-Ok.ensures.ok in
    let parts = fed_parts _ _ _ _ _ _ _ _ c.loop-rest.invariant c.split_at.ensures.front (omega (arith, c.in-Ok.ensures.answer)) new c.split_at-in-loop-rest.ensures.back in
    fault_found _ _ _ _ parts c.in-Err-next.ensures.refused.1
