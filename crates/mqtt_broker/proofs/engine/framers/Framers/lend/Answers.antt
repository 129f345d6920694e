use Rattle.std.proofs.Common.{◌≡◌, rules, ap, sym, ◌∙◌}
use Rattle.mqtt_records.specs.lists.Order.{row_at}
use Rattle.mqtt_broker.specs.engine.Framers.{line_of}
use Rattle.mqtt_broker.proofs.engine_lemmas.Lent.{lent_is}
use Rattle.mqtt_broker.proofs.engine.framers.Framers.lend.Goals as goal

pub returns-clause-lent : goal.returns-clause-lent
returns-clause-lent c =
    let same : c.args.self.now ≡ c.self.inside.all = search rules in
    c.take_part.ensures.taken ∙ lent_is (row_at line_of c.args.line c.self.inside.all) ∙ sym (ap (row_at line_of c.args.line) same)
