use Rattle.std.proofs.Common.{arith, sym}
use Rattle.std.proofs.lemmas.List.{take_rest}
use Rattle.std.proofs.lemmas.Result.{err_from_is_err_and}
use Rattle.std.proofs.lemmas.Bool.{eqb-true}
use Rattle.mqtt_base.proofs.Items.{begins, goes_on, fails, finds}
use Rattle.mqtt_packet.specs.declared.parts.fault.Fault.TheVariants.{Malformed}
use Rattle.mqtt_packet.specs.subscribe.Filters.{filter_at}
use Rattle.mqtt_packet.proofs.subscribe.filters.walk.Goals as goal

pub loop-rest-init : goal.loop-rest-init
loop-rest-init c = begins Malformed filter_at c.args.bytes.now

pub returns-in_err-taken : goal.returns-in_err-taken
returns-in_err-taken c =
    let p = err_from_is_err_and c.from_residual.result c.from_residual.ensures.1 in
    rw (p.1, p.2) (fails Malformed filter_at c.loop-rest.rest.now c.args.bytes.now c.in_err-taken.field-0.0 (grind arith) c.in_err-taken.ensures.exact c.loop-rest.invariant)

pub loop-rest-preserved : goal.loop-rest-preserved
loop-rest-preserved c =
    rw take_rest (goes_on Malformed filter_at _ _ _ _ c.in_ok-taken.ensures.progress c.in_ok-taken.ensures.exact.0 c.in_ok-taken.ensures.exact.1 c.loop-rest.invariant)

pub returns : goal.returns
returns c = finds Malformed filter_at c.loop-rest.rest.now c.args.bytes.now (eqb-true _ _ (sym c.loop-rest-test.ensures)) c.loop-rest.invariant
