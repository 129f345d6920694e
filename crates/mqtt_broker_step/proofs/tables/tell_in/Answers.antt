use Rattle.std.proofs.Common.{length, ap, sym, ◌∙◌}
use Rattle.mqtt_records.proofs.lists_lemmas.OrderLemmas.{remove-none, change-none}
use Rattle.mqtt_topic.specs.sending.Told.{ToldTopics}
use Rattle.mqtt_rules.specs.step.State.{told_line}
use Rattle.mqtt_broker_step.specs.Tellings.{telling_more}
use Rattle.mqtt_broker_step.proofs.TellingBacks.{told_is, told_back, untold_is}
use Rattle.mqtt_broker_step.proofs.tables.tell_in.Goals as goal

pub returns-in_default-clause-ok : goal.returns-in_default-clause-ok
returns-in_default-clause-ok c =
    c.take.ensures.rest
    ∙ (remove-none told_line c.args.line c.args.tellings.now (sym c.in_default.ensures.row)
    ∙ sym (change-none told_line c.args.line (telling_more c.args.topic.now) c.args.tellings.now (sym c.in_default.ensures.row)))

pub returns-in_default-clause-back : goal.returns-in_default-clause-back
returns-in_default-clause-back c =
    c.take.ensures.rest ∙ remove-none told_line c.args.line c.args.tellings.now (sym c.in_default.ensures.row)

pub returns-in-Ok-clause-ok : goal.returns-in-Ok-clause-ok
returns-in-Ok-clause-ok c =
    told_is c.args.line c.args.topic.now c.in-Some.telling c.tell-told.new.self c.args.tellings.now c.take.new.self c.put.new.self
    c.as_slice.ensures.order c.as_slice.ensures.few (sym c.in-Some.ensures.row) c.take.ensures.rest c.in-Ok.ensures.ok c.put.ensures

pub returns-in-Ok-clause-back : goal.returns-in-Ok-clause-back
returns-in-Ok-clause-back c =
    told_back c.args.line c.count-count.result c.args.topic.now c.in-Some.telling c.args.tellings.now c.put.new.self
    (c.count-count.ensures ∙ ap (λ (t : ToldTopics). length t.topics) c.topics.ensures) (sym c.in-Some.ensures.row)
    (told_is c.args.line c.args.topic.now c.in-Some.telling c.tell-told.new.self c.args.tellings.now c.take.new.self c.put.new.self
    c.as_slice.ensures.order c.as_slice.ensures.few (sym c.in-Some.ensures.row) c.take.ensures.rest c.in-Ok.ensures.ok c.put.ensures)

pub returns-in-Err-clause-err : goal.returns-in-Err-clause-err
returns-in-Err-clause-err c =
    untold_is c.args.line c.in-Some.telling c.tell-told.new.self c.args.tellings.now c.take.new.self c.put.new.self
    c.as_slice.ensures.order c.as_slice.ensures.few (sym c.in-Some.ensures.row) c.take.ensures.rest c.in-Err.ensures.err c.put.ensures
