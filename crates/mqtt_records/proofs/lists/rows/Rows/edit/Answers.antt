use Rattle.std.proofs.Common.{◌+◌, drop, refl, ap, sym, ◌∙◌}
use Rattle.std.specs.Prelude.{slice_set}
use Rattle.mqtt_records.proofs.lists_lemmas.FrontLemmas.{drop_get, drop_set}
use Rattle.mqtt_records.proofs.lists_lemmas.OrderLemmas.{change_at, change-none, change-ascending, change-length}
use Rattle.mqtt_records.proofs.lists.rows.Rows.edit.Goals as goal

pub invariant_of-self : goal.invariant_of-self
invariant_of-self g c =
    let key = g.R.Row.key_of in
    let gone = c.self.inside.gone in
    let all = c.self.inside.rows.items in
    let rows = drop gone all in
    let at = c.in-Ok.place in
    let f = g.R.Editable.edited c.args.part in
    let found = rw (c.as_slice.ensures.rows, ← c.self.view_is) at c.in-Ok.ensures in
    let there = c.index_mut.ensures.value ∙ drop_get gone at (gone + at) all c.index_mut.result.now refl in
    let row = c.edit.ensures ∙ ap f there in
    let made = drop_set gone at (gone + at) all c.edit.new.self refl ∙ (ap (slice_set rows at) row ∙ change_at key c.args.key f rows at c.index_mut.result.now c.self.invariant.0 found) in
    (rw made (change-ascending key c.args.key f rows (λ x. g.met.R.Editable.key_kept c.args.part x) c.self.invariant.0), c.self.invariant.1, rw (made, change-length key c.args.key f rows) c.self.invariant.2, c.self.invariant.3, c.self.invariant.4)

pub returns-in-Ok : goal.returns-in-Ok
returns-in-Ok g c =
    let key = g.R.Row.key_of in
    let gone = c.self.inside.gone in
    let all = c.self.inside.rows.items in
    let rows = drop gone all in
    let at = c.in-Ok.place in
    let f = g.R.Editable.edited c.args.part in
    let found = rw (c.as_slice.ensures.rows, ← c.self.view_is) at c.in-Ok.ensures in
    let there = c.index_mut.ensures.value ∙ drop_get gone at (gone + at) all c.index_mut.result.now refl in
    let row = c.edit.ensures ∙ ap f there in
    let made = drop_set gone at (gone + at) all c.edit.new.self refl ∙ (ap (slice_set rows at) row ∙ change_at key c.args.key f rows at c.index_mut.result.now c.self.invariant.0 found) in
    rw (← c.self.view_is) made

pub returns-in_default : goal.returns-in_default
returns-in_default g c =
    let missed = rw c.as_slice.ensures.rows at c.in_default.ensures in
    sym (change-none g.R.Row.key_of c.args.key (g.R.Editable.edited c.args.part) c.args.self.now missed.1)
