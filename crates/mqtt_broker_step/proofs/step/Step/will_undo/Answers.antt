use Rattle.std.proofs.Common.{◌≡◌, ℕ, sym, subst}
use Rattle.mqtt_records.specs.declared.state.records.Records.{Records}
use Rattle.mqtt_records.specs.declared.state.session.Session.{Session}
use Rattle.mqtt_records.specs.state.Records.{changed}
use Rattle.mqtt_rules.specs.step.Deeds.{will_row}
use Rattle.mqtt_broker_step.proofs.Backs.{no_will_back}
use Rattle.mqtt_broker_step.proofs.Doing.{if_ok, stands, found_birth}
use Rattle.mqtt_broker_step.proofs.step.Step.will_undo.Goals as goal

pub returns-in-Some : goal.returns-in-Some
returns-in-Some c =
    let x : Session = c.in-Some.session.now in
    let r : Records = c.args.self.now.broker.records in
    if_ok c.will_back.result
    (λ undo back will. subst (λ (n : ℕ). changed undo (changed (will_row n will) r) ≡ r) (found_birth c.args.birth r.sessions x (sym c.in-Some.ensures))
    (back will r (stands c.args.birth r x (sym c.in-Some.ensures))))
    c.will_back.ensures

pub returns-in-None : goal.returns-in-None
returns-in-None c = λ will. no_will_back will c.args.birth c.args.self.now.broker.records (sym c.in-None.ensures)
