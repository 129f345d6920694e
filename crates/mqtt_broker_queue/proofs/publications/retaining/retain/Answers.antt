use Rattle.std.proofs.Common.{◌≡◌, Bool, true, rules, subst}
use Rattle.std.specs.Prelude.{IfErr}
use Rattle.mqtt_topic.specs.names.Names.{is_empty}
use Rattle.mqtt_rules.specs.step.Routing.{retain_by}
use Rattle.mqtt_broker_step.specs.Stepping.{IsLeft}
use Rattle.mqtt_broker_queue.proofs.publications.retaining.retain.Goals as goal

pub returns-then-is_empty-clause-left : goal.returns-then-is_empty-clause-left
returns-then-is_empty-clause-left c =
    let kept : true ≡ c.args.message.now.retain = search rules in
    let empty : true ≡ is_empty c.args.message.now.payload = search rules in
    subst (λ (t : Bool). IfErr c.forget_message.result (λ fault.
    IsLeft (retain_by t (is_empty c.args.message.now.payload) c.args.number c.args.message.now) fault c.args.step.now c.forget_message.new.step)) kept
    (subst (λ (e : Bool). IfErr c.forget_message.result (λ fault.
    IsLeft (retain_by true e c.args.number c.args.message.now) fault c.args.step.now c.forget_message.new.step)) empty
    (c.forget_message.ensures.left c.args.number))
