-- One after the other.
use Rattle.std.proofs.Common.{◌≡◌, false, ◌∷◌, length, rules, subst}
use Rattle.mqtt_broker_acts.specs.clock.Quiet.{IsFresh, IsQuiet}
use Rattle.mqtt_broker_acts.proofs.clock_lemmas.Quiets.{each_behind, each_ends}
use Rattle.mqtt_broker_acts.proofs.clock.quiet.sessions_before.Goals as goal

pub loop-session-preserved : goal.loop-session-preserved
loop-session-preserved c = λ now below behind.
    let both = c.sooner-least.ensures now below in
    let splits : c.loop-session.rest.now ≡ c.in-Some.session.now ∷ c.in-Some.after.now = search rules in
    each_behind (IsQuiet now) c.in-Some.session.now c.in-Some.after.now c.loop-session.rest.now c.args.sessions.now splits (subst (IsQuiet now) c.get.ensures (c.session_before.ensures now both.1)) (c.loop-session.invariant now both.0) behind

pub returns : goal.returns
returns c = λ now below.
    let ends : length c.loop-session.rest.now ≡ 0 = search rules in
    each_ends (IsQuiet now) c.loop-session.rest.now c.args.sessions.now ends (c.loop-session.invariant now below)
