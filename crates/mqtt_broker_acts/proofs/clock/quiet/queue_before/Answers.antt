-- One after the other.
use Rattle.std.proofs.Common.{◌≡◌, false, ◌∷◌, length, rules, subst}
use Rattle.mqtt_broker_acts.specs.clock.Quiet.{IsFresh, IsQuiet}
use Rattle.mqtt_broker_acts.proofs.clock_lemmas.Quiets.{each_behind, each_ends}
use Rattle.mqtt_broker_acts.proofs.clock.quiet.queue_before.Goals as goal

pub loop-row-preserved : goal.loop-row-preserved
loop-row-preserved c = λ now below behind.
    let both = c.sooner-least.ensures now below in
    let splits : c.loop-row.rest.now ≡ c.in-Some.row.now ∷ c.in-Some.after.now = search rules in
    each_behind (IsFresh now) c.in-Some.row.now c.in-Some.after.now c.loop-row.rest.now c.args.queue.now splits (subst (IsFresh now) c.get.ensures (c.row_before.ensures now both.1)) (c.loop-row.invariant now both.0) behind

pub returns : goal.returns
returns c = λ now below.
    let ends : length c.loop-row.rest.now ≡ 0 = search rules in
    each_ends (IsFresh now) c.loop-row.rest.now c.args.queue.now ends (c.loop-row.invariant now below)
