use Rattle.std.proofs.Common.{◌≡◌, false, List, subst}
use Rattle.std.specs.List.{AllByRecursion}
use Rattle.mqtt_records.specs.declared.messages.message.RetainedMessage.{RetainedMessage}
use Rattle.mqtt_records.specs.declared.state.session.Session.{Session}
use Rattle.mqtt_rules.specs.step.Tick.{is_stale}
use Rattle.mqtt_broker_acts.specs.clock.Quiet.{IsQuiet}
use Rattle.mqtt_broker_acts.proofs.clock.quiet.quiet_before.Goals as goal

pub returns : goal.returns
returns c = λ now below.
    let both = c.sooner.ensures now below in
    record {
      sessions = subst (λ (ss : List Session). AllByRecursion (IsQuiet now) ss) c.all_sessions.ensures.sessions (c.sessions_before.ensures now both.0);
      retained = subst (λ (ks : List RetainedMessage). AllByRecursion (λ k. is_stale now k ≡ false) ks) c.all_retained.ensures (c.retained_before.ensures now both.1);
    }
