use Rattle.std.proofs.Common.{◌≡◌, [], ◌∷◌, refl, ap, sym}
use Rattle.mqtt_records.specs.declared.state.session.Columns.{Columns}
use Rattle.mqtt_records.specs.declared.state.session.Session.{Session}
use Rattle.mqtt_records.specs.declared.state.change.Change.TheVariants.{SetSession}
use Rattle.mqtt_rules.specs.step.Deeds.{SetExpiry, part_rows}
use Rattle.mqtt_broker_step.proofs.Doing.{on_ok, if_err_too, stands, part_ok, part_left}
use Rattle.mqtt_broker_step.proofs.step.Step.set_expiry.Goals as goal

pub make-requires : goal.make-requires
make-requires c =
    let x : Session = c.in-Some.session.now in
    c.in_ok-undo.ensures c.in-Ok.row (ap (λ (row : Columns). row.birth) c.in-Ok.ensures)
    c.args.self.now.broker.records (stands c.args.birth c.args.self.now.broker.records x (sym c.in-Some.ensures))

pub returns-clause-ok : goal.returns-clause-ok
returns-clause-ok c =
    let x : Session = c.in-Some.session.now in
    let rows : part_rows (SetExpiry c.args.expiry) x ≡ SetSession c.in-Ok.row ∷ [] = ap (λ (row : Columns). SetSession row ∷ []) (sym c.in-Ok.ensures) in
    on_ok c.make.result
    (part_ok c.args.birth (SetExpiry c.args.expiry) (SetSession c.in-Ok.row) x c.args.self.now c.make.new.self (sym c.in-Some.ensures) rows refl refl)
    c.make.ensures.ok

pub returns-clause-left : goal.returns-clause-left
returns-clause-left c =
    let x : Session = c.in-Some.session.now in
    let rows : part_rows (SetExpiry c.args.expiry) x ≡ SetSession c.in-Ok.row ∷ [] = ap (λ (row : Columns). SetSession row ∷ []) (sym c.in-Ok.ensures) in
    if_err_too c.make.result
    (λ e. part_left c.args.birth (SetExpiry c.args.expiry) (SetSession c.in-Ok.row) x e c.args.self.now c.make.new.self (sym c.in-Some.ensures) rows)
    c.make.ensures.fault c.make.ensures.err
