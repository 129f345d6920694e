use Rattle.std.proofs.Common.{◌≡◌, rules, sym, subst}
use Rattle.std.specs.Prelude.{⊤, Result, Err, IfErr}
use Rattle.mqtt_rules.proofs.step_lemmas.contents.LawfulContents.{lawful_contents}
use Rattle.mqtt_rules.proofs.step_lemmas.fit.LawfulRecords.{lawful_coherent}
use Rattle.mqtt_broker_step.specs.declared.fault.StepFault.{StepFault}
use Rattle.mqtt_broker_step.proofs.Doing.{if_err_too, on_ok}
use Rattle.mqtt_broker.proofs.alike_lemmas.Ready.{records_coherent, records_sourced}
use Rattle.mqtt_broker_acts.proofs.calls_lemmas.Sources.{stored_sources}
use Rattle.mqtt_broker.specs.stored.Closing.{IsLeftOpen}
use Rattle.mqtt_broker.proofs.stored_lemmas.GoingAlong.{indexed_alike}
use Rattle.mqtt_broker.proofs.stored_lemmas.Stamped.{left_of, left_stamp, opened_of, stamped_serves}
use Rattle.mqtt_broker.proofs.stored.opening.open_stamped.Goals as goal

pub close_all-requires-clause-coherent : goal.close_all-requires-clause-coherent
close_all-requires-clause-coherent c =
    let h = c.requires.lawful in
    records_coherent c.args.step.now.broker.records h.whole h.alike (lawful_coherent h.whole h.lawful)

pub close_all-requires-clause-sources : goal.close_all-requires-clause-sources
close_all-requires-clause-sources c =
    let h = c.requires.lawful in
    records_sourced c.args.step.now.broker.records h.whole h.alike (stored_sources h.whole (lawful_contents h.whole h.lawful))

pub close_all-requires-clause-indexed : goal.close_all-requires-clause-indexed
close_all-requires-clause-indexed c = indexed_alike c.args.step.now.broker.records c.requires.lawful

pub returns-clause-ok : goal.returns-clause-ok
returns-clause-ok c = λ limits now r begun.
    on_ok c.stamp.result (opened_of limits now r c.args.step.now begun c.close_all.new.step c.stamp.new.self c.in_ok-close_all.ensures.ok) c.stamp.ensures.ok

pub returns-clause-left : goal.returns-clause-left
returns-clause-left c = λ limits now r begun.
    if_err_too c.stamp.result
    (λ fault memory same. left_stamp limits now r c.args.step.now begun fault c.close_all.new.step c.stamp.new.self c.in_ok-close_all.ensures.ok same memory)
    c.stamp.ensures.fault c.stamp.ensures.err

pub returns-clause-serves : goal.returns-clause-serves
returns-clause-serves c =
    on_ok c.stamp.result (λ is. stamped_serves c.close_all.new.index.sessions c.close_all.new.step c.stamp.new.self is c.in_ok-close_all.ensures.serves) c.stamp.ensures.ok

pub returns-in_err-close_all-clause-left : goal.returns-in_err-close_all-clause-left
returns-in_err-close_all-clause-left c = λ limits now r begun.
    let fault = c.in_err-close_all.field-0.0 in
    let left : IsLeftOpen limits now r fault c.close_all.new.step = left_of limits now r c.args.step.now begun fault c.close_all.new.step c.in_err-close_all.ensures.left in
    let is : c.from_residual.result ≡ Err fault = search rules in
    subst (λ (x : Result ⊤ StepFault). IfErr x (λ e. IsLeftOpen limits now r e c.close_all.new.step)) (sym is) left
