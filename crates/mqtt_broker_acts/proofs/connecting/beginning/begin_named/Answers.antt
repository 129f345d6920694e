use Rattle.std.proofs.Common.{◌≡◌, Bool, true, false, sym, subst, ◌∙◌}
use Rattle.std.specs.Prelude.{OnOk, IfErr}
use Rattle.mqtt_topic.specs.names.Names.{is_empty}
use Rattle.mqtt_broker_step.specs.Stepping.{Did, IsLeft}
use Rattle.mqtt_broker_acts.proofs.connecting_lemmas.Wholes.{begins_named}
use Rattle.mqtt_broker_acts.proofs.connecting.beginning.begin_named.Goals as goal

pub returns-then-is_unnamed-clause-ok : goal.returns-then-is_unnamed-clause-ok
returns-then-is_unnamed-clause-ok c = λ l number.
    let is : is_empty c.args.connect.now.client_identifier ≡ true = sym c.is_unnamed.ensures ∙ c.if-is_unnamed.true in
    subst (λ (t : Bool). OnOk c.begin_assigned.result (Did (begins_named t l c.args.connect.now) c.args.step.now c.begin_assigned.new.step)) (sym is) (c.begin_assigned.ensures.ok l number)

pub returns-then-is_unnamed-clause-left : goal.returns-then-is_unnamed-clause-left
returns-then-is_unnamed-clause-left c = λ l number.
    let is : is_empty c.args.connect.now.client_identifier ≡ true = sym c.is_unnamed.ensures ∙ c.if-is_unnamed.true in
    subst (λ (t : Bool). IfErr c.begin_assigned.result (λ fault. IsLeft (begins_named t l c.args.connect.now) fault c.args.step.now c.begin_assigned.new.step)) (sym is) (c.begin_assigned.ensures.left l number)

pub returns-else-is_unnamed-clause-ok : goal.returns-else-is_unnamed-clause-ok
returns-else-is_unnamed-clause-ok c = λ l number.
    let is : is_empty c.args.connect.now.client_identifier ≡ false = sym c.is_unnamed.ensures ∙ c.if-is_unnamed.false in
    subst (λ (t : Bool). OnOk c.begin.result (Did (begins_named t l c.args.connect.now) c.args.step.now c.begin.new.step)) (sym is) (c.begin.ensures.ok l number)

pub returns-else-is_unnamed-clause-left : goal.returns-else-is_unnamed-clause-left
returns-else-is_unnamed-clause-left c = λ l number.
    let is : is_empty c.args.connect.now.client_identifier ≡ false = sym c.is_unnamed.ensures ∙ c.if-is_unnamed.false in
    subst (λ (t : Bool). IfErr c.begin.result (λ fault. IsLeft (begins_named t l c.args.connect.now) fault c.args.step.now c.begin.new.step)) (sym is) (c.begin.ensures.left l number)
