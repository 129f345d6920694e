use Rattle.std.proofs.Common.{refl, sym}
use Rattle.mqtt_records.specs.declared.state.change.Change.TheVariants.{SetCopy}
use Rattle.mqtt_rules.specs.step.Deeds.{Mark}
use Rattle.mqtt_broker_step.proofs.Doing.{on_ok, if_err_too, stands, part_ok, part_left}
use Rattle.mqtt_broker_step.proofs.step.Step.mark.Goals as goal

pub make-requires : goal.make-requires
make-requires c =
    c.marked_back-undo.ensures c.args.self.now.broker.records (stands c.args.birth c.args.self.now.broker.records c.in-Some.session.now (sym c.in-Some.ensures))

pub returns-clause-ok : goal.returns-clause-ok
returns-clause-ok c =
    let x = c.in-Some.session.now in
    on_ok c.make.result
    (part_ok c.args.birth (Mark c.args.place c.args.phase) (SetCopy x.birth c.args.place c.args.phase) x c.args.self.now c.make.new.self (sym c.in-Some.ensures) refl refl refl)
    c.make.ensures.ok

pub returns-clause-left : goal.returns-clause-left
returns-clause-left c =
    let x = c.in-Some.session.now in
    if_err_too c.make.result
    (λ e. part_left c.args.birth (Mark c.args.place c.args.phase) (SetCopy x.birth c.args.place c.args.phase) x e c.args.self.now c.make.new.self (sym c.in-Some.ensures) refl)
    c.make.ensures.fault c.make.ensures.err
