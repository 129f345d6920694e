use Rattle.std.proofs.Common.{◌≡◌, rules, List, Some, ap, sym, ◌∙◌}
use Rattle.std.specs.Prelude.{find, option_map}
use Rattle.mqtt_flow.specs.outbound.Queue.{is_holder}
use Rattle.mqtt_records.specs.messages.Queue.{CopyRow}
use Rattle.mqtt_rules.specs.step.State.{session_at}
use Rattle.mqtt_rules.specs.step.Step.{copy_in, copy_of_session}
use Rattle.mqtt_broker.proofs.stored_lemmas.Holders.{held_on}
use Rattle.mqtt_broker.proofs.stored.holding.copy_in.Goals as goal

pub returns-in-Some-session : goal.returns-in-Some-session
returns-in-Some-session c = λ went.
    let x = c.in-Some-session.session.now in
    let here : c.args.session ≡ Some c.in-Some.birth = c.in-Some.is in
    let found : session_at c.in-Some.birth c.args.step.now.broker.records ≡ Some x = search rules in
    let queue : c.as_slice.result.now ≡ x.queue = search rules in
    c.held_by.ensures
    ∙ (ap (λ (rows : List CopyRow). option_map (λ (e : CopyRow). e.copy.id) (find (λ (e : CopyRow). is_holder c.args.identifier e.phase) rows)) queue
    ∙ (held_on c.args.identifier went x.queue
    ∙ (sym (ap (λ o. copy_of_session c.args.identifier went o) found)
    ∙ sym (ap (λ o. copy_in c.args.identifier went o c.args.step.now.broker) here))))
