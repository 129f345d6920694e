use Rattle.std.proofs.Common.{sym, subst}
use Rattle.mqtt_records.specs.declared.state.records.Records.{Records}
use Rattle.mqtt_rules.specs.step.Contents.{IsWilled}
use Rattle.mqtt_rules.specs.step.Inbound.{on_publish}
use Rattle.mqtt_rules.specs.step.Routing.{subscribers}
use Rattle.mqtt_broker_step.proofs.Doing.{if_err, on_ok}
use Rattle.mqtt_broker_queue.specs.publications.Choosing.{DoesSome}
use Rattle.mqtt_broker_acts.specs.closing.Wills.{will_at}
use Rattle.mqtt_broker_queue.specs.publications.Publishing.{IsOver, IsWrong}
use Rattle.mqtt_broker_acts.proofs.calls_lemmas.OnLine.{on_line}
use Rattle.mqtt_broker_acts.proofs.calls_lemmas.Sources.{willed}
use Rattle.mqtt_broker_acts.proofs.calls_lemmas.Clients.{lawful_message}
use Rattle.mqtt_broker_acts.proofs.calls_lemmas.Answered.{over_publish, over_publish_left, over_stays, publish_left, published, wrong_publish, wrong_publish_left, wrong_stays}
use Rattle.mqtt_broker_acts.proofs.calls.publishing.publish.Goals as goal

pub on_publish-requires-clause-lawful : goal.on_publish-requires-clause-lawful
on_publish-requires-clause-lawful g c =
    λ l x topic row stands means.
    lawful_message c.args.line c.args.step.now.broker c.args.packet.now l x topic c.requires.client.sources c.requires.taken row means

pub returns-in-Ok-Done-clause-ok : goal.returns-in-Ok-Done-clause-ok
returns-in-Ok-Done-clause-ok g c =
    let s = c.args.step.now in
    let h = on_line c.args.line c.args.birth s.broker c.requires.client in
    let came : DoesSome (λ env. on_publish env h.l h.x c.args.packet.now) s c.on_publish.new.step = rw c.in-Ok-Done.field-0-is at (c.in-Ok-Done.ensures.ok h.l h.x h.row h.stands) in
    published c.args.line c.args.birth s h c.args.packet.now c.on_publish.new.step came

pub returns-in-Err-clause-left : goal.returns-in-Err-clause-left
returns-in-Err-clause-left g c =
    let s = c.args.step.now in
    let h = on_line c.args.line c.args.birth s.broker c.requires.client in
    publish_left c.args.line c.args.birth s h c.args.packet.now c.in-Err.fault c.on_publish.new.step (c.in-Err.ensures.left h.l h.x h.row h.stands)

pub drop_line-requires-clause-serves : goal.drop_line-requires-clause-serves
drop_line-requires-clause-serves g c =
    let s = c.args.step.now in
    let h = on_line c.args.line c.args.birth s.broker c.requires.client in
    let came : IsWrong c.in-Ok-Wrong.code.0 h.l c.args.packet.now s c.on_publish.new.step = rw c.in-Ok-Wrong.field-0-is at (c.in-Ok-Wrong.ensures.ok h.l h.x h.row h.stands) in
    let stays = wrong_stays c.args.line c.args.birth s h c.args.packet.now c.in-Ok-Wrong.code.0 c.on_publish.new.step came in
    subst (λ (r : Records). g.R.Router.serves c.on_publish.new.router (subscribers r)) (sym stays) (c.on_publish.ensures.serves (subscribers s.broker.records) c.requires.serves)

pub drop_line-requires-clause-lawful : goal.drop_line-requires-clause-lawful
drop_line-requires-clause-lawful g c =
    let s = c.args.step.now in
    let h = on_line c.args.line c.args.birth s.broker c.requires.client in
    let came : IsWrong c.in-Ok-Wrong.code.0 h.l c.args.packet.now s c.on_publish.new.step = rw c.in-Ok-Wrong.field-0-is at (c.in-Ok-Wrong.ensures.ok h.l h.x h.row h.stands) in
    let stays = wrong_stays c.args.line c.args.birth s h c.args.packet.now c.in-Ok-Wrong.code.0 c.on_publish.new.step came in
    λ birth is. subst (λ (r : Records). IsWilled (will_at birth r)) (sym stays) (willed s.broker.records c.requires.client.sources.stored birth)

pub returns-in-Ok-Wrong-clause-ok : goal.returns-in-Ok-Wrong-clause-ok
returns-in-Ok-Wrong-clause-ok g c =
    let s = c.args.step.now in
    let h = on_line c.args.line c.args.birth s.broker c.requires.client in
    let came : IsWrong c.in-Ok-Wrong.code.0 h.l c.args.packet.now s c.on_publish.new.step = rw c.in-Ok-Wrong.field-0-is at (c.in-Ok-Wrong.ensures.ok h.l h.x h.row h.stands) in
    on_ok c.drop_line.result (λ done. wrong_publish c.args.line c.args.birth s h c.args.packet.now c.in-Ok-Wrong.code.0 c.on_publish.new.step c.drop_line.new.step came done)
    (c.drop_line.ensures.ok h.l h.number h.session)

pub returns-in-Ok-Wrong-clause-left : goal.returns-in-Ok-Wrong-clause-left
returns-in-Ok-Wrong-clause-left g c =
    let s = c.args.step.now in
    let h = on_line c.args.line c.args.birth s.broker c.requires.client in
    let came : IsWrong c.in-Ok-Wrong.code.0 h.l c.args.packet.now s c.on_publish.new.step = rw c.in-Ok-Wrong.field-0-is at (c.in-Ok-Wrong.ensures.ok h.l h.x h.row h.stands) in
    if_err c.drop_line.result (λ fault left. wrong_publish_left c.args.line c.args.birth s h c.args.packet.now c.in-Ok-Wrong.code.0 fault c.on_publish.new.step c.drop_line.new.step came left)
    (c.drop_line.ensures.left h.l h.number h.session)

pub returns-in-Ok-Wrong-clause-serves : goal.returns-in-Ok-Wrong-clause-serves
returns-in-Ok-Wrong-clause-serves g c =
    λ sessions serves. c.drop_line.ensures.serves sessions (c.on_publish.ensures.serves sessions serves)

pub drop_line-requires-in-Ok-Over-clause-serves : goal.drop_line-requires-in-Ok-Over-clause-serves
drop_line-requires-in-Ok-Over-clause-serves g c =
    let s = c.args.step.now in
    let h = on_line c.args.line c.args.birth s.broker c.requires.client in
    let came : IsOver h.l h.x c.args.packet.now s c.on_publish.new.step = rw c.in-Ok-Over.field-0-is at (c.in-Ok-Over.ensures.ok h.l h.x h.row h.stands) in
    let stays = over_stays c.args.line c.args.birth s h c.args.packet.now c.on_publish.new.step came in
    subst (λ (r : Records). g.R.Router.serves c.on_publish.new.router (subscribers r)) (sym stays) (c.on_publish.ensures.serves (subscribers s.broker.records) c.requires.serves)

pub drop_line-requires-in-Ok-Over-clause-lawful : goal.drop_line-requires-in-Ok-Over-clause-lawful
drop_line-requires-in-Ok-Over-clause-lawful g c =
    let s = c.args.step.now in
    let h = on_line c.args.line c.args.birth s.broker c.requires.client in
    let came : IsOver h.l h.x c.args.packet.now s c.on_publish.new.step = rw c.in-Ok-Over.field-0-is at (c.in-Ok-Over.ensures.ok h.l h.x h.row h.stands) in
    let stays = over_stays c.args.line c.args.birth s h c.args.packet.now c.on_publish.new.step came in
    λ birth is. subst (λ (r : Records). IsWilled (will_at birth r)) (sym stays) (willed s.broker.records c.requires.client.sources.stored birth)

pub returns-in-Ok-Over-clause-ok : goal.returns-in-Ok-Over-clause-ok
returns-in-Ok-Over-clause-ok g c =
    let s = c.args.step.now in
    let h = on_line c.args.line c.args.birth s.broker c.requires.client in
    let came : IsOver h.l h.x c.args.packet.now s c.on_publish.new.step = rw c.in-Ok-Over.field-0-is at (c.in-Ok-Over.ensures.ok h.l h.x h.row h.stands) in
    on_ok c.drop_line-in-Ok-Over.result (λ done. over_publish c.args.line c.args.birth s h c.args.packet.now c.on_publish.new.step c.drop_line-in-Ok-Over.new.step came done)
    (c.drop_line-in-Ok-Over.ensures.ok h.l h.number h.session)

pub returns-in-Ok-Over-clause-left : goal.returns-in-Ok-Over-clause-left
returns-in-Ok-Over-clause-left g c =
    let s = c.args.step.now in
    let h = on_line c.args.line c.args.birth s.broker c.requires.client in
    let came : IsOver h.l h.x c.args.packet.now s c.on_publish.new.step = rw c.in-Ok-Over.field-0-is at (c.in-Ok-Over.ensures.ok h.l h.x h.row h.stands) in
    if_err c.drop_line-in-Ok-Over.result (λ fault left. over_publish_left c.args.line c.args.birth s h c.args.packet.now fault c.on_publish.new.step c.drop_line-in-Ok-Over.new.step came left)
    (c.drop_line-in-Ok-Over.ensures.left h.l h.number h.session)

pub returns-in-Ok-Over-clause-serves : goal.returns-in-Ok-Over-clause-serves
returns-in-Ok-Over-clause-serves g c =
    λ sessions serves. c.drop_line-in-Ok-Over.ensures.serves sessions (c.on_publish.ensures.serves sessions serves)
