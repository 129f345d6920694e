use Rattle.std.proofs.Common.{◌∙◌, sym}
use Rattle.mqtt_rules.specs.telling.Meaning.{on_line}
use Rattle.mqtt_world.proofs.clients_lemmas.Told.{told_none, told_on}
use Rattle.mqtt_world.proofs.clients.telling.push_told.Goals as goal

pub returns-in-Some : goal.returns-in-Some
returns-in-Some g c = λ told are spelled understood.
    let n = c.in-Some.number in
    told_on c.push_all.result n c.args.engine.now.broker told c.args.line.now c.push_all.new.line (sym c.number.ensures ∙ c.in-Some.is) spelled understood
    (λ its reads. c.push_all.ensures told.wires (on_line n told.outputs) are its reads)

pub returns-in-None : goal.returns-in-None
returns-in-None g c = λ told are spelled understood.
    told_none c.args.engine.now.broker told c.args.line.now (sym c.number.ensures ∙ c.in-None.is)
