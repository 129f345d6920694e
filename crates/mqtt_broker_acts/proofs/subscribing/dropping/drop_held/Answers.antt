use Rattle.std.proofs.Common.{ap, sym, ◌∙◌}
use Rattle.std.specs.Prelude.{flat_map}
use Rattle.mqtt_rules.specs.step.Deeds.{always}
use Rattle.mqtt_rules.specs.step.Subscribe.{unsubscribes}
use Rattle.mqtt_broker_step.proofs.Doing.{on_ok, if_err}
use Rattle.mqtt_broker_step.proofs.Then.{same_act, same_left}
use Rattle.mqtt_broker_acts.specs.subscribing.Dropping.{drops, held, removes_all}
use Rattle.mqtt_broker_acts.proofs.subscribing_lemmas.Removed.{drops_is}
use Rattle.mqtt_broker_acts.proofs.subscribing_lemmas.Unsubscribed.{nobody}
use Rattle.mqtt_broker_acts.proofs.subscribing.dropping.drop_held.Goals as goal

pub returns-in_default-clause-ok : goal.returns-in_default-clause-ok
returns-in_default-clause-ok c =
    nobody c.args.birth (λ y. always (flat_map (unsubscribes y) (held c.args.filters.now y))) c.args.step.now (sym c.in_default.ensures)

pub returns-clause-ok : goal.returns-clause-ok
returns-clause-ok c =
    on_ok c.remove_all.result
    (same_act (removes_all c.args.birth c.in_ok-all.all.items) (drops c.args.birth c.args.filters.now) c.args.step.now c.remove_all.new.step
    (ap (λ fs. removes_all c.args.birth fs c.args.step.now.broker) c.in_ok-all.ensures
    ∙ drops_is c.args.birth c.in-Some.session.now c.args.filters.now c.args.step.now.broker (sym c.in-Some.ensures)))
    c.remove_all.ensures.ok

pub returns-clause-left : goal.returns-clause-left
returns-clause-left c =
    if_err c.remove_all.result
    (λ fault. same_left (removes_all c.args.birth c.in_ok-all.all.items) (drops c.args.birth c.args.filters.now) fault c.args.step.now c.remove_all.new.step
    (ap (λ fs. removes_all c.args.birth fs c.args.step.now.broker) c.in_ok-all.ensures
    ∙ drops_is c.args.birth c.in-Some.session.now c.args.filters.now c.args.step.now.broker (sym c.in-Some.ensures)))
    c.remove_all.ensures.left
