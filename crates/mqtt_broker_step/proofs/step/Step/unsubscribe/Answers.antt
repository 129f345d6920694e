use Rattle.std.proofs.Common.{refl, sym}
use Rattle.mqtt_records.specs.declared.state.change.Change.TheVariants.{RemoveSubscription}
use Rattle.mqtt_rules.specs.step.Deeds.{Unsubscribe}
use Rattle.mqtt_broker_step.proofs.Doing.{on_ok, stands, part_ok}
use Rattle.mqtt_broker_step.proofs.step.Step.unsubscribe.Goals as goal

pub make-requires : goal.make-requires
make-requires c =
    c.in-Ok.ensures c.args.self.now.broker.records (stands c.args.birth c.args.self.now.broker.records c.in-Some.session.now (sym c.in-Some.ensures))

pub returns-in-Ok-clause-ok : goal.returns-in-Ok-clause-ok
returns-in-Ok-clause-ok c =
    let x = c.in-Some.session.now in
    on_ok c.make.result
    (part_ok c.args.birth (Unsubscribe c.args.filter) (RemoveSubscription x.birth c.args.filter) x c.args.self.now c.make.new.self (sym c.in-Some.ensures) refl refl refl)
    c.make.ensures.ok
