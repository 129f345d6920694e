use Rattle.std.proofs.Common.{sym, subst}
use Rattle.mqtt_records.specs.declared.state.change.Change.{Change}
use Rattle.mqtt_records.specs.declared.state.change.Change.TheVariants.{RemoveSubscription}
use Rattle.mqtt_broker_step.specs.Backs.{TakesBack}
use Rattle.mqtt_broker_step.proofs.Doing.{if_ok}
use Rattle.mqtt_broker_step.proofs.FilterBacks.{removal_back, none_back}
use Rattle.mqtt_broker_step.proofs.subscribing.unsubscribed_back.Goals as goal

pub returns-in-Some : goal.returns-in-Some
returns-in-Some c =
    let s = c.args.session.now in
    let f = c.args.filter.now in
    if_ok c.put.result
    (λ undo is. subst (λ (u : Change). TakesBack (RemoveSubscription s.birth f) u s) (sym is)
    (removal_back c.as_str.result.now f c.in-Some.before.now s c.as_str.ensures.value c.has_tables.ensures c.requires (sym c.in-Some.ensures)))
    c.put.ensures

pub returns-in-None : goal.returns-in-None
returns-in-None c =
    let s = c.args.session.now in
    let f = c.args.filter.now in
    if_ok c.removal.result
    (λ undo is. subst (λ (u : Change). TakesBack (RemoveSubscription s.birth f) u s) (sym is)
    (none_back c.as_str.result.now f s c.as_str.ensures.value (sym c.in-None.ensures)))
    c.removal.ensures
