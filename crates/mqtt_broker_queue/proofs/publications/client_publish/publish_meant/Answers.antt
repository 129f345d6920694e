use Rattle.std.proofs.Common.{◌≡◌, ℕ, ap, sym, subst, ◌∙◌}
use Rattle.std.specs.Prelude.{Some}
use Rattle.mqtt_records.specs.declared.state.records.Records.{Records}
use Rattle.mqtt_rules.specs.step.State.{session_at}
use Rattle.mqtt_rules.specs.step.Routing.{subscribers}
use Rattle.mqtt_broker_step.specs.Lines.{line_number}
use Rattle.mqtt_broker_step.specs.Stepping.{Did, IsLeft}
use Rattle.mqtt_broker_step.proofs.Inverse.{row_key}
use Rattle.mqtt_broker_step.proofs.Doing.{if_ok, if_err}
use Rattle.mqtt_broker_queue.specs.publications.Publishing.{alias_set}
use Rattle.mqtt_broker_queue.proofs.publications_lemmas.Aliased.{alias_leaves, alias_refused, answered, stored_stays}
use Rattle.mqtt_broker_queue.proofs.publications.client_publish.publish_meant.Goals as goal

pub publish_by-requires-clause-serves : goal.publish_by-requires-clause-serves
publish_by-requires-clause-serves g c =
    subst (λ (r : Records). g.R.Router.serves c.args.router.now (subscribers r))
    (sym (stored_stays c.args.line c.args.publish.now c.args.topic.now c.args.step.now c.set_alias.new.step c.in-Ok.ensures.ok)) c.requires.serves

pub publish_by-requires-clause-lawful : goal.publish_by-requires-clause-lawful
publish_by-requires-clause-lawful g c = λ s stands.
    c.requires.lawful s
    (ap (session_at c.args.birth) (sym (stored_stays c.args.line c.args.publish.now c.args.topic.now c.args.step.now c.set_alias.new.step c.in-Ok.ensures.ok)) ∙ stands)

pub returns-in-Ok-clause-ok : goal.returns-in-Ok-clause-ok
returns-in-Ok-clause-ok g c = λ l s found stands.
    let number : l.number ≡ c.args.line = row_key line_number c.args.line c.args.step.now.broker.lines l found in
    let set : Did (alias_set l.number c.args.publish.now c.args.topic.now) c.args.step.now c.set_alias.new.step =
    subst (λ (n : ℕ). Did (alias_set n c.args.publish.now c.args.topic.now) c.args.step.now c.set_alias.new.step) (sym number) c.in-Ok.ensures.ok in
    let there : session_at c.args.birth c.set_alias.new.step.broker.records ≡ Some s =
    ap (session_at c.args.birth) (stored_stays l.number c.args.publish.now c.args.topic.now c.args.step.now c.set_alias.new.step set) ∙ stands in
    if_ok c.publish_by.result
    (λ r. answered l s c.args.publish.now c.args.topic.now (c.requires.means l found) r c.args.step.now c.set_alias.new.step c.publish_by.new.step set)
    (c.publish_by.ensures.ok l s number there)

pub returns-in-Ok-clause-left : goal.returns-in-Ok-clause-left
returns-in-Ok-clause-left g c = λ l s found stands.
    let number : l.number ≡ c.args.line = row_key line_number c.args.line c.args.step.now.broker.lines l found in
    let set : Did (alias_set l.number c.args.publish.now c.args.topic.now) c.args.step.now c.set_alias.new.step =
    subst (λ (n : ℕ). Did (alias_set n c.args.publish.now c.args.topic.now) c.args.step.now c.set_alias.new.step) (sym number) c.in-Ok.ensures.ok in
    let there : session_at c.args.birth c.set_alias.new.step.broker.records ≡ Some s =
    ap (session_at c.args.birth) (stored_stays l.number c.args.publish.now c.args.topic.now c.args.step.now c.set_alias.new.step set) ∙ stands in
    if_err c.publish_by.result
    (λ fault. alias_leaves l s c.args.publish.now c.args.topic.now (c.requires.means l found) fault c.args.step.now c.set_alias.new.step c.publish_by.new.step set)
    (c.publish_by.ensures.left l s number there)

pub returns-in-Err-clause-left : goal.returns-in-Err-clause-left
returns-in-Err-clause-left g c = λ l s found stands.
    let number : l.number ≡ c.args.line = row_key line_number c.args.line c.args.step.now.broker.lines l found in
    alias_refused l s c.args.publish.now c.args.topic.now (c.requires.means l found) c.in-Err.fault c.args.step.now c.set_alias.new.step
    (subst (λ (n : ℕ). IsLeft (alias_set n c.args.publish.now c.args.topic.now) c.in-Err.fault c.args.step.now c.set_alias.new.step) (sym number) c.in-Err.ensures.left)
