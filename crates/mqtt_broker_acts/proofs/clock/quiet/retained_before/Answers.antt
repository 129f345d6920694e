-- One after the other.
use Rattle.std.proofs.Common.{◌≡◌, false, ◌∷◌, length, rules, subst}
use Rattle.mqtt_rules.specs.step.Tick.{is_stale}
use Rattle.mqtt_broker_acts.specs.clock.Quiet.{IsFresh, IsQuiet}
use Rattle.mqtt_broker_acts.proofs.clock_lemmas.Quiets.{each_behind, each_ends}
use Rattle.mqtt_broker_acts.proofs.clock.quiet.retained_before.Goals as goal

pub loop-kept-preserved : goal.loop-kept-preserved
loop-kept-preserved c = λ now below behind.
    let both = c.sooner-least.ensures now below in
    let splits : c.loop-kept.rest.now ≡ c.in-Some.kept.now ∷ c.in-Some.after.now = search rules in
    each_behind (λ k. is_stale now k ≡ false) c.in-Some.kept.now c.in-Some.after.now c.loop-kept.rest.now c.args.retained.now splits (subst (λ k. is_stale now k ≡ false) c.get.ensures (c.content_before.ensures now both.1)) (c.loop-kept.invariant now both.0) behind

pub returns : goal.returns
returns c = λ now below.
    let ends : length c.loop-kept.rest.now ≡ 0 = search rules in
    each_ends (λ k. is_stale now k ≡ false) c.loop-kept.rest.now c.args.retained.now ends (c.loop-kept.invariant now below)
