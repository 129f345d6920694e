use Rattle.std.proofs.Common.{◌≡◌, ◌==◌, ℕ, Ok, true, false, refl, sym, ap, ◌∙◌, deque_len}
use Rattle.std.specs.Prelude.{None}
use Rattle.std.proofs.lemmas.Bool.{eqb-true}
use Rattle.std.proofs.lemmas.List.{nil_from_length}
use Rattle.mqtt_store_rows.proofs.rows_lemmas.PairLemmas.{not_empty}
use Rattle.mqtt_store_rows.proofs.gathering_lemmas.ReadingLemmas.{gathered_with, none_before}
use Rattle.mqtt_store_rows.proofs.gathering_lemmas.QueuesLemmas.{all_read, rows_left}
use Rattle.mqtt_store_rows.specs.gathering.Queues.{IsEnd}
use Rattle.mqtt_store_rows.proofs.gathering.queues.read_rest.Goals as goal

pub returns-clause-read : goal.returns-clause-read
returns-clause-read c is rows gathered =
    let old = c.args.reading.now in
    let new = c.read_on.new.self in
    let yes_all : c.read_on.result ≡ Ok true = c.in_ok-read_on.was ∙ ap Ok c.if-not-branch.false in
    let empty : c.is_empty.result ≡ true = cc in
    all_read new rows (c.read_on.ensures.read yes_all rows (gathered_with old rows None gathered)) (c.read_on.ensures.over yes_all refl) (nil_from_length new.part.items (sym new.part.ok.0 ∙ eqb-true (deque_len new.part) 0 (sym c.is_empty.ensures ∙ empty)))

pub returns-clause-no : goal.returns-clause-no
returns-clause-no c is sound rows gathered =
    let old = c.args.reading.now in
    let new = c.read_on.new.self in
    let yes_all : c.read_on.result ≡ Ok true = c.in_ok-read_on.was ∙ ap Ok c.if-not-branch.false in
    let some : c.is_empty.result ≡ false = cc in
    none_before old new rows IsEnd c.in_ok-read_on.ensures.same
    (rows_left new rows (c.read_on.ensures.read yes_all rows (gathered_with old rows None gathered)) (c.read_on.ensures.over yes_all refl) (not_empty new.part.items (sym some ∙ (c.is_empty.ensures ∙ ap (λ (n : ℕ). n == 0) new.part.ok.0))))
