use Rattle.std.proofs.Common.{◌↔◌, ◌+◌, cond, drop, refl, ap, subst, ◌∙◌}
use Rattle.std.specs.Prelude.{IsSomeAnd, IsTrue, Option, slice_set}
use Rattle.mqtt_records.proofs.lists_lemmas.FillLemmas.{filled_or_same, key_of_either}
use Rattle.mqtt_records.proofs.lists_lemmas.FrontLemmas.{drop_get, drop_set}
use Rattle.mqtt_records.proofs.lists_lemmas.OrderLemmas.{change_at, change-ascending, change-length, take_at}
use Rattle.mqtt_records.proofs.lists.rows.Rows.fill.Goals as goal

pub invariant_of-self : goal.invariant_of-self
invariant_of-self g c =
    let full = g.R.Fillable.filled c.args.filling in
    let key = g.R.Row.key_of in
    let gone = c.self.inside.gone in
    let all = c.self.inside.rows.items in
    let rows = drop gone all in
    let at = c.in-Ok.place in
    let f = λ (x : g.row.R.Denot). cond c.fill_in.result (full x) x in
    let found = rw (c.as_slice.ensures.rows, ← c.self.view_is) at c.in-Ok.ensures in
    let there = c.index_mut.ensures.value ∙ drop_get gone at (gone + at) all c.index_mut.result.now refl in
    let row = filled_or_same c.fill_in.result c.fill_in.new.self _ _ c.fill_in.ensures.ok c.fill_in.ensures.err ∙ ap f there in
    let made = drop_set gone at (gone + at) all c.fill_in.new.self refl ∙ (ap (slice_set rows at) row ∙ change_at key c.args.key f rows at c.index_mut.result.now c.self.invariant.0 found) in
    let kept = λ (x : g.row.R.Denot). key_of_either key full c.fill_in.result x (g.met.R.Fillable.filled_key c.args.filling x) in
    (rw made (change-ascending key c.args.key f rows kept c.self.invariant.0), c.self.invariant.1, rw (made, change-length key c.args.key f rows) c.self.invariant.2, c.self.invariant.3, c.self.invariant.4)

pub returns-in-Ok-clause-exact : goal.returns-in-Ok-clause-exact
returns-in-Ok-clause-exact g c =
    let gone = c.self.inside.gone in
    let rows = drop gone c.self.inside.rows.items in
    let found = rw (c.as_slice.ensures.rows, ← c.self.view_is) at c.in-Ok.ensures in
    let stands = c.index_mut.ensures.value ∙ drop_get gone c.in-Ok.place (gone + c.in-Ok.place) c.self.inside.rows.items c.index_mut.result.now refl in
    let there = take_at g.R.Row.key_of c.args.key rows c.in-Ok.place c.index_mut.result.now found stands in
    rw (← c.self.view_is) (subst (λ (o : Option g.row.R.Denot). IsTrue c.fill_in.result ↔ IsSomeAnd o (g.R.Fillable.fits c.args.filling)) there c.fill_in.ensures.exact)

pub returns-in-Ok-clause-ok : goal.returns-in-Ok-clause-ok
returns-in-Ok-clause-ok g c fits =
    let full = g.R.Fillable.filled c.args.filling in
    let key = g.R.Row.key_of in
    let gone = c.self.inside.gone in
    let all = c.self.inside.rows.items in
    let rows = drop gone all in
    let at = c.in-Ok.place in
    let f = full in
    let found = rw (c.as_slice.ensures.rows, ← c.self.view_is) at c.in-Ok.ensures in
    let there = c.index_mut.ensures.value ∙ drop_get gone at (gone + at) all c.index_mut.result.now refl in
    let row = c.fill_in.ensures.ok fits ∙ ap f there in
    let made = drop_set gone at (gone + at) all c.fill_in.new.self refl ∙ (ap (slice_set rows at) row ∙ change_at key c.args.key f rows at c.index_mut.result.now c.self.invariant.0 found) in
    rw (← c.self.view_is) made
