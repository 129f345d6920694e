use Rattle.std.proofs.Common.{◌≡◌, refl, ap, sym}
use Rattle.std.specs.Prelude.{Some}
use Rattle.mqtt_records.specs.declared.state.change.Change.TheVariants.{RemoveInbound}
use Rattle.mqtt_rules.specs.step.Deeds.{Release}
use Rattle.mqtt_rules.specs.declared.step.Report.TheVariants.{Released}
use Rattle.mqtt_broker_step.proofs.Doing.{on_ok, stands, part_told}
use Rattle.mqtt_broker_step.proofs.step.Step.release.Goals as goal

pub make_told-requires : goal.make_told-requires
make_told-requires c =
    c.identifier_back-undo.ensures.closed c.args.self.now.broker.records (stands c.args.birth c.args.self.now.broker.records c.in-Some.session.now (sym c.in-Some.ensures))

pub returns-clause-ok : goal.returns-clause-ok
returns-clause-ok c =
    let x = c.in-Some.session.now in
    let client : c.in_ok-client.client ≡ x.client = c.in_ok-client.ensures.cases in
    on_ok c.make_told.result
    (part_told c.args.birth (Release c.args.identifier) (RemoveInbound x.birth c.args.identifier) (Released x.birth c.in_ok-client.client c.args.identifier) x c.args.self.now c.make_told.new.self
    (sym c.in-Some.ensures) refl refl (ap (λ t. Some (Released x.birth t c.args.identifier)) (sym client)))
    c.make_told.ensures.ok
