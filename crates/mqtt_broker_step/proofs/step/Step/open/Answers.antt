use Rattle.std.proofs.Common.{refl, sym}
use Rattle.mqtt_records.specs.declared.state.change.Change.TheVariants.{PutInbound}
use Rattle.mqtt_rules.specs.step.Deeds.{Open}
use Rattle.mqtt_broker_step.proofs.Doing.{on_ok, stands, part_ok}
use Rattle.mqtt_broker_step.proofs.step.Step.open.Goals as goal

pub make-requires : goal.make-requires
make-requires c =
    c.identifier_back-undo.ensures.opened c.args.self.now.broker.records (stands c.args.birth c.args.self.now.broker.records c.in-Some.session.now (sym c.in-Some.ensures))

pub returns-clause-ok : goal.returns-clause-ok
returns-clause-ok c =
    let x = c.in-Some.session.now in
    on_ok c.make.result
    (part_ok c.args.birth (Open c.args.identifier) (PutInbound x.birth c.args.identifier) x c.args.self.now c.make.new.self (sym c.in-Some.ensures) refl refl refl)
    c.make.ensures.ok
