use Rattle.std.proofs.Common.{◌≡◌, ℕ, refl, sym, subst}
use Rattle.std.specs.Prelude.{Some}
use Rattle.mqtt_packet.specs.declared.codec.ack.Ack.{Ack}
use Rattle.mqtt_rules.specs.step.Contents.{IsWilled}
use Rattle.mqtt_rules.specs.step.Routing.{subscribers}
use Rattle.mqtt_rules.specs.step.State.{Broker, Env, Line}
use Rattle.mqtt_rules.specs.step.Step.{on_packet}
use Rattle.mqtt_broker_step.specs.Stepping.{Stepping}
use Rattle.mqtt_broker_step.proofs.Doing.{if_err, on_ok}
use Rattle.mqtt_broker_acts.specs.closing.Wills.{will_at}
use Rattle.mqtt_broker_acts.proofs.calls_lemmas.Sources.{willed}
use Rattle.mqtt_broker_queue.specs.queues.Answering.{Came}
use Rattle.mqtt_broker_queue.specs.declared.queues.answering.Answered.TheVariants.{Taken, Wrong}
use Rattle.mqtt_broker_acts.specs.calls.Answers.{answers, packet_of}
use Rattle.mqtt_broker_acts.specs.declared.calls.answers.AnswerKind.{AnswerKind}
use Rattle.mqtt_broker_acts.specs.declared.calls.answers.AnswerKind.TheVariants.{Puback, Pubrec, Pubcomp}
use Rattle.mqtt_broker_acts.proofs.calls_lemmas.OnLine.{on_line}
use Rattle.mqtt_broker_acts.proofs.calls_lemmas.Answered.{came_taken, came_wrong, came_wrong_left, left_packet}
use Rattle.mqtt_broker_acts.proofs.calls.answers.answer.Goals as goal

-- what the session makes of an answer is what its packet does
answer_is : (kind : AnswerKind) (birth : ℕ) (a : Ack) (env : Env) (l : Line) (b : Broker) → answers kind birth a env l b ≡ on_packet env l (packet_of kind a) (Some birth) b
answer_is Puback birth a env l b = refl
answer_is Pubrec birth a env l b = refl
answer_is Pubcomp birth a env l b = refl

pub drop_line-requires-clause-serves : goal.drop_line-requires-clause-serves
drop_line-requires-clause-serves g c =
    let came : Came (answers c.args.kind c.args.birth c.args.packet.now) c.args.line Wrong c.args.step.now c.take.new.step = rw c.in-Ok-Wrong.field-0-is at c.in-Ok-Wrong.ensures.ok in
    subst (λ (t : Stepping). g.R.Router.serves c.args.router.now (subscribers t.broker.records)) (sym came.0) c.requires.serves

pub drop_line-requires-clause-lawful : goal.drop_line-requires-clause-lawful
drop_line-requires-clause-lawful g c =
    let came : Came (answers c.args.kind c.args.birth c.args.packet.now) c.args.line Wrong c.args.step.now c.take.new.step = rw c.in-Ok-Wrong.field-0-is at c.in-Ok-Wrong.ensures.ok in
    λ birth is. subst (λ (t : Stepping). IsWilled (will_at birth t.broker.records)) (sym came.0) (willed c.args.step.now.broker.records c.requires.client.sources.stored birth)

pub returns-in-Ok-Taken-clause-ok : goal.returns-in-Ok-Taken-clause-ok
returns-in-Ok-Taken-clause-ok g c =
    let s = c.args.step.now in
    let h = on_line c.args.line c.args.birth s.broker c.requires.client in
    let a = c.args.packet.now in
    let came : Came (answers c.args.kind c.args.birth a) c.args.line Taken s c.take.new.step = rw c.in-Ok-Taken.field-0-is at c.in-Ok-Taken.ensures.ok in
    came_taken c.args.line c.args.birth s h (packet_of c.args.kind a) (answers c.args.kind c.args.birth a) c.take.new.step (λ env. answer_is c.args.kind c.args.birth a env h.l s.broker) came

pub returns-in-Ok-Wrong-clause-ok : goal.returns-in-Ok-Wrong-clause-ok
returns-in-Ok-Wrong-clause-ok g c =
    let s = c.args.step.now in
    let h = on_line c.args.line c.args.birth s.broker c.requires.client in
    let a = c.args.packet.now in
    let came : Came (answers c.args.kind c.args.birth a) c.args.line Wrong s c.take.new.step = rw c.in-Ok-Wrong.field-0-is at c.in-Ok-Wrong.ensures.ok in
    on_ok c.drop_line.result
    (came_wrong c.args.line c.args.birth s h (packet_of c.args.kind a) (answers c.args.kind c.args.birth a) c.take.new.step c.drop_line.new.step
    (λ env. answer_is c.args.kind c.args.birth a env h.l s.broker) came)
    (c.drop_line.ensures.ok h.l h.number h.session)

pub returns-in-Ok-Wrong-clause-left : goal.returns-in-Ok-Wrong-clause-left
returns-in-Ok-Wrong-clause-left g c =
    let s = c.args.step.now in
    let h = on_line c.args.line c.args.birth s.broker c.requires.client in
    let a = c.args.packet.now in
    let came : Came (answers c.args.kind c.args.birth a) c.args.line Wrong s c.take.new.step = rw c.in-Ok-Wrong.field-0-is at c.in-Ok-Wrong.ensures.ok in
    if_err c.drop_line.result
    (λ fault. came_wrong_left c.args.line c.args.birth s h (packet_of c.args.kind a) (answers c.args.kind c.args.birth a) fault c.take.new.step c.drop_line.new.step
    (λ env. answer_is c.args.kind c.args.birth a env h.l s.broker) came)
    (c.drop_line.ensures.left h.l h.number h.session)

pub returns-in-Err-clause-left : goal.returns-in-Err-clause-left
returns-in-Err-clause-left g c =
    let s = c.args.step.now in
    let h = on_line c.args.line c.args.birth s.broker c.requires.client in
    let a = c.args.packet.now in
    left_packet c.args.line c.args.birth s h (packet_of c.args.kind a) (answers c.args.kind c.args.birth a) c.in-Err.fault c.take.new.step
    (λ env. answer_is c.args.kind c.args.birth a env h.l s.broker) (λ env. c.in-Err.ensures.left env h.l h.number)
