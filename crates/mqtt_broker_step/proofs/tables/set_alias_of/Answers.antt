use Rattle.std.proofs.Common.{sym, ◌∙◌}
use Rattle.mqtt_records.proofs.lists_lemmas.OrderLemmas.{change-none, remove-none}
use Rattle.mqtt_broker_step.specs.Lines.{line_number, with_alias}
use Rattle.mqtt_broker_step.proofs.AliasDeeds.{set_is, unset_is, set_back}
use Rattle.mqtt_broker_step.proofs.tables.set_alias_of.Goals as goal

pub returns-in_default-clause-ok : goal.returns-in_default-clause-ok
returns-in_default-clause-ok c =
    c.take.ensures.rest
    ∙ (remove-none line_number c.args.number c.args.lines.now (sym c.in_default.ensures.row)
    ∙ sym (change-none line_number c.args.number (with_alias c.args.alias c.args.topic.now) c.args.lines.now (sym c.in_default.ensures.row)))

pub returns-in_default-clause-back : goal.returns-in_default-clause-back
returns-in_default-clause-back c =
    c.take.ensures.rest ∙ remove-none line_number c.args.number c.args.lines.now (sym c.in_default.ensures.row)

pub returns-in-Ok-clause-ok : goal.returns-in-Ok-clause-ok
returns-in-Ok-clause-ok c =
    set_is c.args.number c.args.alias c.args.topic.now c.in-Some.line c.set_alias-set.new.self c.args.lines.now c.take.new.self c.put.new.self
    c.as_slice.ensures.order c.as_slice.ensures.few (sym c.in-Some.ensures.row) c.take.ensures.rest c.in-Ok.ensures.ok c.put.ensures

pub returns-in-Ok-clause-back : goal.returns-in-Ok-clause-back
returns-in-Ok-clause-back c =
    set_back c.args.number c.args.alias c.args.topic.now c.in-Ok.before c.in-Some.line c.args.lines.now c.put.new.self
    c.in-Ok.ensures.named c.in-Ok.ensures.before (sym c.in-Some.ensures.row)
    (set_is c.args.number c.args.alias c.args.topic.now c.in-Some.line c.set_alias-set.new.self c.args.lines.now c.take.new.self c.put.new.self
    c.as_slice.ensures.order c.as_slice.ensures.few (sym c.in-Some.ensures.row) c.take.ensures.rest c.in-Ok.ensures.ok c.put.ensures)

pub returns-in-Err-clause-err : goal.returns-in-Err-clause-err
returns-in-Err-clause-err c =
    unset_is c.args.number c.in-Some.line c.set_alias-set.new.self c.args.lines.now c.take.new.self c.put.new.self
    c.as_slice.ensures.order c.as_slice.ensures.few (sym c.in-Some.ensures.row) c.take.ensures.rest c.in-Err.ensures.err c.put.ensures
