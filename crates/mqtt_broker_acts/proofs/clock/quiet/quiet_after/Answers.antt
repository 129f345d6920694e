-- One change after the other.
use Rattle.std.proofs.Common.{◌≡◌, ◌∷◌, List, length, ap, sym, ◌∙◌, rules, subst}
use Rattle.mqtt_records.specs.declared.state.change.Change.{Change}
use Rattle.std.specs.List.{AllByRecursion}
use Rattle.mqtt_broker_acts.specs.clock.Quiet.{BringsNothing}
use Rattle.mqtt_broker_acts.proofs.clock_lemmas.Quiets.{each_behind, each_ends, quiet_all}
use Rattle.mqtt_broker_acts.proofs.clock.quiet.quiet_after.Goals as goal

pub loop-change-preserved : goal.loop-change-preserved
loop-change-preserved c = λ now below.
    let r = c.args.step.now.broker.records in
    let both = c.sooner-least.ensures now below in
    let splits : c.loop-change.rest.now ≡ c.in-Some.change.now ∷ c.in-Some.after.now = search rules in
    let before = c.loop-change.invariant now both.0 in
    (before.0, each_behind (BringsNothing now r) c.in-Some.change.now c.in-Some.after.now c.loop-change.rest.now c.args.step.now.rows splits (c.change_before.ensures now both.1) before.1)

pub returns : goal.returns
returns c = λ quiet now below.
    let s = c.args.step.now in
    let r = s.broker.records in
    let ends : length c.loop-change.rest.now ≡ 0 = search rules in
    let before = c.loop-change.invariant now below in
    quiet_all now s.rows s.start.records r c.rows-rest.ensures.made c.in_order.ensures.sessions (each_ends (BringsNothing now r) c.loop-change.rest.now s.rows ends before.1) (quiet now before.0)
