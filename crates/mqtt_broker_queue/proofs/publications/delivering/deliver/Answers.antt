use Rattle.std.proofs.Common.{◌≡◌, true, false, ap, sym, subst, ◌∙◌, List}
use Rattle.mqtt_rules.specs.step.Routing.{is_queued, is_queued_at}
use Rattle.mqtt_rules.specs.step.State.{Line}
use Rattle.mqtt_broker_step.proofs.Doing.{on_ok, if_err}
use Rattle.mqtt_broker_queue.specs.publications.Copies.{copy_for}
use Rattle.mqtt_broker_queue.specs.publications.Delivering.{addressed}
use Rattle.mqtt_broker_queue.specs.publications.Seats.{AreSeats}
use Rattle.mqtt_broker_queue.proofs.publications_lemmas.Delivered.{queued_is, queued_left, offered_is, offered_left, offered_lines}
use Rattle.mqtt_broker_queue.proofs.publications.delivering.deliver.Goals as goal

pub returns-then-is_queued-clause-ok : goal.returns-then-is_queued-clause-ok
returns-then-is_queued-clause-ok g c =
    let copy = copy_for c.args.common.now (g.T.Addressed.addressee c.args.to.now) in
    let queued : is_queued (addressed copy) ≡ true = ap is_queued_at (sym c.qos.ensures) ∙ (sym c.is_queued.ensures ∙ c.if-is_queued.true) in
    on_ok c.enter_copy.result (queued_is copy c.args.step.now c.enter_copy.new.step queued) c.enter_copy.ensures.ok

pub returns-then-is_queued-clause-left : goal.returns-then-is_queued-clause-left
returns-then-is_queued-clause-left g c =
    let copy = copy_for c.args.common.now (g.T.Addressed.addressee c.args.to.now) in
    let queued : is_queued (addressed copy) ≡ true = ap is_queued_at (sym c.qos.ensures) ∙ (sym c.is_queued.ensures ∙ c.if-is_queued.true) in
    if_err c.enter_copy.result (λ fault. queued_left copy fault c.args.step.now c.enter_copy.new.step queued) c.enter_copy.ensures.left

pub returns-then-is_queued-clause-entered : goal.returns-then-is_queued-clause-entered
returns-then-is_queued-clause-entered g c = on_ok c.enter_copy.result (λ entered queued. entered) c.enter_copy.ensures.entered

pub returns-then-is_queued-clause-seats : goal.returns-then-is_queued-clause-seats
returns-then-is_queued-clause-seats g c = on_ok c.enter_copy.result (λ done. c.forget.ensures c.enter_copy.new.step.broker.lines) c.enter_copy.ensures.ok

pub enter_copy-requires-clause-room : goal.enter_copy-requires-clause-room
enter_copy-requires-clause-room g c =
    let copy = copy_for c.args.common.now (g.T.Addressed.addressee c.args.to.now) in
    let queued : is_queued (addressed copy) ≡ true = ap is_queued_at (sym c.qos.ensures) ∙ (sym c.is_queued.ensures ∙ c.if-is_queued.true) in
    c.requires.room queued

pub returns-else-is_queued-clause-entered : goal.returns-else-is_queued-clause-entered
returns-else-is_queued-clause-entered g c =
    let copy = copy_for c.args.common.now (g.T.Addressed.addressee c.args.to.now) in
    let queued : is_queued (addressed copy) ≡ false = ap is_queued_at (sym c.qos.ensures) ∙ (sym c.is_queued.ensures ∙ c.if-is_queued.false) in
    on_ok c.offer_copy.result (λ is so. let no : true ≡ false = sym so ∙ queued in absurd cc) c.offer_copy.ensures.ok

pub returns-else-is_queued-clause-seats : goal.returns-else-is_queued-clause-seats
returns-else-is_queued-clause-seats g c =
    let to = g.T.Addressed.addressee c.args.to.now in
    on_ok c.offer_copy.result
    (λ is. subst (λ (lines : List Line). AreSeats c.args.seats.now lines) (sym (offered_lines to.birth (copy_for c.args.common.now to) c.args.step.now c.offer_copy.new.step is)) c.requires.seats)
    c.offer_copy.ensures.ok

pub returns-else-is_queued-clause-ok : goal.returns-else-is_queued-clause-ok
returns-else-is_queued-clause-ok g c =
    let copy = copy_for c.args.common.now (g.T.Addressed.addressee c.args.to.now) in
    let queued : is_queued (addressed copy) ≡ false = ap is_queued_at (sym c.qos.ensures) ∙ (sym c.is_queued.ensures ∙ c.if-is_queued.false) in
    on_ok c.offer_copy.result (offered_is copy c.args.step.now c.offer_copy.new.step queued) c.offer_copy.ensures.ok

pub returns-else-is_queued-clause-left : goal.returns-else-is_queued-clause-left
returns-else-is_queued-clause-left g c =
    let copy = copy_for c.args.common.now (g.T.Addressed.addressee c.args.to.now) in
    let queued : is_queued (addressed copy) ≡ false = ap is_queued_at (sym c.qos.ensures) ∙ (sym c.is_queued.ensures ∙ c.if-is_queued.false) in
    if_err c.offer_copy.result (λ fault. offered_left copy fault c.args.step.now c.offer_copy.new.step queued) c.offer_copy.ensures.left
