use Rattle.std.proofs.Common.{◌≡◌, ap, rules, subst, sym}
use Rattle.std.specs.Prelude.{Err, IfErr, Result, Option}
use Rattle.mqtt_records.specs.messages.Content.{CopyContent}
use Rattle.mqtt_keep.specs.declared.keeping.keep.KeepError.{KeepError}
use Rattle.mqtt_broker_looks.specs.at_hand.Hand.{first_at}
use Rattle.mqtt_broker_looks.specs.at_hand.Reading.{HasFailed}
use Rattle.mqtt_broker_looks.proofs.at_hand_lemmas.Reading.{one_read, question_answered, question_failed}
use Rattle.mqtt_broker_looks.proofs.at_hand.hand.AllAtHand.read.Goals as goal

pub returns-in_err-contents-clause-err : goal.returns-in_err-contents-clause-err
returns-in_err-contents-clause-err g c =
    let fault = c.in_err-contents.field-0.0 in
    let is : c.from_residual.result ≡ Err fault = search rules in
    let e = c.in_err-contents.ensures in
    subst (λ (o : Result (Option CopyContent) KeepError). IfErr o (λ f. HasFailed g.K.Keep 1 c.args.keep.now c.contents.new.self f)) (sym is)
    (question_failed g.K.Keep c.args.keep.now c.contents.new.self fault e.refused (λ r holds same. e.memory r holds (ap (λ (k : KeepError). Err k) same)) e.crash e.sound (λ same. e.cause (ap (λ (k : KeepError). Err k) same)) e.read)

pub returns-in-Ok-clause-ok : goal.returns-in-Ok-clause-ok
returns-in-Ok-clause-ok g c =
    let e = c.in_ok-contents.ensures in
    let first : c.in-Ok.first ≡ first_at c.args.place c.in_ok-contents.contents.items = search rules in
    one_read g.K.Keep c.args.birth c.args.place c.args.keep.now c.args.self.now c.contents.new.self c.fill-is_all.new.self c.in-Ok.first c.in_ok-contents.contents.items
    (question_answered g.K.Keep c.args.keep.now c.contents.new.self e.same e.loaded e.crash e.sound e.uncounted e.read)
    (λ r holds sound. e.exact r holds sound)
    first
    c.fill-is_all.ensures.stored
