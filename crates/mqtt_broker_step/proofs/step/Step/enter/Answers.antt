use Rattle.std.proofs.Common.{◌≡◌, true, nat_lt, [], ◌∷◌, arith, refl, ap, sym, ◌∙◌}
use Rattle.std.specs.Prelude.{Some, None}
use Rattle.std.proofs.lemmas.Bool.{lt-ltb}
use Rattle.mqtt_base.specs.declared.limits.TheConstants.{LAST_NUMBER}
use Rattle.mqtt_base.specs.declared.session.Phase.TheVariants.{Waiting}
use Rattle.mqtt_records.specs.messages.Queue.{CopyRow}
use Rattle.mqtt_records.specs.lists.Order.{row_at}
use Rattle.mqtt_records.specs.declared.state.session.Session.{Session}
use Rattle.mqtt_records.specs.declared.state.change.Change.TheVariants.{PutCopy}
use Rattle.mqtt_records.specs.state.Session.{copy_place, with_copy, without_copy}
use Rattle.mqtt_rules.specs.declared.step.Report.{Report}
use Rattle.mqtt_rules.specs.step.State.{next_of}
use Rattle.mqtt_rules.specs.step.Deeds.{Enter, new_entry}
use Rattle.mqtt_broker_step.proofs.Backs.{session_back, entered_back}
use Rattle.mqtt_broker_step.proofs.Inverse.{none_above}
use Rattle.mqtt_broker_step.proofs.Doing.{on_ok, if_err, stands, part_told, left_part}
use Rattle.mqtt_broker_step.proofs.step.Step.enter.Goals as goal

pub returns-in-Err-clause-left : goal.returns-in-Err-clause-left
returns-in-Err-clause-left c =
    let x : Session = c.in-Some.session.now in
    let last = c.last_place.ensures.place in
    let full = c.in-Err.ensures.spent.1 in
    let above : nat_lt LAST_NUMBER (next_of copy_place x.queue) ≡ true = lt-ltb LAST_NUMBER (next_of copy_place x.queue) (omega (arith, last, full)) in
    left_part c.args.birth (Enter c.args.copy) (PutCopy x.birth (new_entry c.args.copy x.queue)) x c.in-Err.fault c.args.self.now c.args.self.now (sym c.in-Some.ensures) refl
    (record { start = refl; limits = refl; spent = λ e. rw above refl })

pub make_told-requires : goal.make_told-requires
make_told-requires c =
    let x : Session = c.in-Some.session.now in
    let last = c.last_place.ensures.place in
    let number = c.in-Ok.ensures.next in
    let row : c.in-Ok-waiting.row.place ≡ c.in-Ok.place = ap copy_place c.in-Ok-waiting.ensures.row in
    let none : row_at copy_place c.in-Ok-waiting.row.place x.queue ≡ None = none_above copy_place c.in-Ok-waiting.row.place x.queue (omega (arith, last, number, row)) in
    session_back (with_copy c.in-Ok-waiting.row) (without_copy c.in-Ok.place) x c.args.self.now.broker.records (λ y. refl)
    (ap (λ p. without_copy p (with_copy c.in-Ok-waiting.row x)) (sym row) ∙ entered_back c.in-Ok-waiting.row x c.last_place.ensures.tables none)
    (stands c.args.birth c.args.self.now.broker.records x (sym c.in-Some.ensures))

pub returns-clause-ok : goal.returns-clause-ok
returns-clause-ok c =
    let x : Session = c.in-Some.session.now in
    let last = c.last_place.ensures.place in
    let number = c.in-Ok.ensures.next in
    let next : next_of copy_place x.queue ≡ c.in-Ok.place = omega (arith, last, number) in
    let row : new_entry c.args.copy x.queue ≡ c.in-Ok-waiting.row =
    ap (λ p. let e : CopyRow = record { place = p; phase = Waiting; copy = c.args.copy } in e) next ∙ sym c.in-Ok-waiting.ensures.row in
    on_ok c.make_told.result
    (part_told c.args.birth (Enter c.args.copy) (PutCopy x.birth c.in-Ok-waiting.row) c.in-Ok-entered.report x c.args.self.now c.make_told.new.self (sym c.in-Some.ensures)
    (ap (λ (e : CopyRow). PutCopy x.birth e ∷ []) row) refl (ap (λ (y : Report). Some y) (sym c.in-Ok-entered.ensures)))
    c.make_told.ensures.ok

pub returns-clause-left : goal.returns-clause-left
returns-clause-left c =
    let x : Session = c.in-Some.session.now in
    let last = c.last_place.ensures.place in
    let number = c.in-Ok.ensures.next in
    let next : next_of copy_place x.queue ≡ c.in-Ok.place = omega (arith, last, number) in
    let row : new_entry c.args.copy x.queue ≡ c.in-Ok-waiting.row =
    ap (λ p. let e : CopyRow = record { place = p; phase = Waiting; copy = c.args.copy } in e) next ∙ sym c.in-Ok-waiting.ensures.row in
    if_err c.make_told.result
    (λ e. left_part c.args.birth (Enter c.args.copy) (PutCopy x.birth c.in-Ok-waiting.row) x e c.args.self.now c.make_told.new.self (sym c.in-Some.ensures)
    (ap (λ (y : CopyRow). PutCopy x.birth y ∷ []) row))
    c.make_told.ensures.left
