use Rattle.std.proofs.Common.{◌≡◌, ap, sym, ◌∙◌}
use Rattle.std.specs.Prelude.{Some, None}
use Rattle.mqtt_records.specs.declared.messages.message.Will.{Will}
use Rattle.mqtt_broker_step.proofs.Backs.{will_row_back}
use Rattle.mqtt_broker_step.proofs.sessions.will_back.Goals as goal

pub returns-in_ok-clone-in-Some : goal.returns-in_ok-clone-in-Some
returns-in_ok-clone-in-Some c = λ will r found.
    let same : c.in_ok-clone-in-Some.field-0 ≡ c.in-Some.will = c.in_ok-clone-in-Some.ensures.cases in
    will_row_back will (Some c.in_ok-clone-in-Some.field-0) c.args.session.now r (c.in-Some.is ∙ ap (λ (x : Will). Some x) (sym same)) found

pub returns-in-None : goal.returns-in-None
returns-in-None c = λ will r found. will_row_back will None c.args.session.now r c.in-None.is found
