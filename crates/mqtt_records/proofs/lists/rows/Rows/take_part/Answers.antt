use Rattle.std.proofs.Common.{◌+◌, drop, refl, ap, sym, ◌∙◌}
use Rattle.std.specs.Prelude.{slice_set, option_and_then}
use Rattle.mqtt_records.proofs.lists_lemmas.FrontLemmas.{drop_get, drop_set}
use Rattle.mqtt_records.proofs.lists_lemmas.OrderLemmas.{change_at, change-none, change-ascending, change-length, take_at}
use Rattle.mqtt_records.proofs.lists.rows.Rows.take_part.Goals as goal

pub invariant_of-self : goal.invariant_of-self
invariant_of-self g c =
    let key = g.R.Row.key_of in
    let gone = c.self.inside.gone in
    let all = c.self.inside.rows.items in
    let rows = drop gone all in
    let at = c.in-Ok.at in
    let f = g.R.Parted.left c.args.place in
    let found = rw (c.as_slice.ensures.rows, ← c.self.view_is) at c.in-Ok.ensures in
    let there = c.index_mut.ensures.value ∙ drop_get gone at (gone + at) all c.index_mut.result.now refl in
    let row = c.take_part.ensures.rest ∙ ap f there in
    let made = drop_set gone at (gone + at) all c.take_part.new.self refl ∙ (ap (slice_set rows at) row ∙ change_at key c.args.key f rows at c.index_mut.result.now c.self.invariant.0 found) in
    (rw made (change-ascending key c.args.key f rows (λ x. g.met.R.Parted.left_key c.args.place x) c.self.invariant.0), c.self.invariant.1, rw (made, change-length key c.args.key f rows) c.self.invariant.2, c.self.invariant.3, c.self.invariant.4)

pub returns-in-Ok-clause-taken : goal.returns-in-Ok-clause-taken
returns-in-Ok-clause-taken g c =
    let gone = c.self.inside.gone in
    let rows = drop gone c.self.inside.rows.items in
    let found = rw (c.as_slice.ensures.rows, ← c.self.view_is) at c.in-Ok.ensures in
    let stands = c.index_mut.ensures.value ∙ drop_get gone c.in-Ok.at (gone + c.in-Ok.at) c.self.inside.rows.items c.index_mut.result.now refl in
    let there = take_at g.R.Row.key_of c.args.key rows c.in-Ok.at c.index_mut.result.now found stands in
    rw (← c.self.view_is) (c.take_part.ensures.taken ∙ ap (option_and_then (g.R.Parted.taken c.args.place)) there)

pub returns-in-Ok-clause-rest : goal.returns-in-Ok-clause-rest
returns-in-Ok-clause-rest g c =
    let key = g.R.Row.key_of in
    let gone = c.self.inside.gone in
    let all = c.self.inside.rows.items in
    let rows = drop gone all in
    let at = c.in-Ok.at in
    let f = g.R.Parted.left c.args.place in
    let found = rw (c.as_slice.ensures.rows, ← c.self.view_is) at c.in-Ok.ensures in
    let there = c.index_mut.ensures.value ∙ drop_get gone at (gone + at) all c.index_mut.result.now refl in
    let row = c.take_part.ensures.rest ∙ ap f there in
    let made = drop_set gone at (gone + at) all c.take_part.new.self refl ∙ (ap (slice_set rows at) row ∙ change_at key c.args.key f rows at c.index_mut.result.now c.self.invariant.0 found) in
    rw (← c.self.view_is) made

pub returns-in-Err-clause-rest : goal.returns-in-Err-clause-rest
returns-in-Err-clause-rest g c =
    let missed = rw c.as_slice.ensures.rows at c.in-Err.ensures in
    sym (change-none g.R.Row.key_of c.args.key (g.R.Parted.left c.args.place) c.args.self.now missed.1)
