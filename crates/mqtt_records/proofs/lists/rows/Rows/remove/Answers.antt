use Rattle.std.proofs.Common.{◌≤◌, length, drop, sym, ◌∙◌, arith}
use Rattle.mqtt_records.proofs.lists_lemmas.OrderLemmas.{remove_at, remove-none, remove-ascending, remove-length}
use Rattle.mqtt_records.proofs.lists.rows.Rows.remove.Goals as goal

pub invariant_of-self : goal.invariant_of-self
invariant_of-self g c =
    let key = g.R.Row.key_of in
    let rows = drop c.self.inside.gone c.self.inside.rows.items in
    let found = rw (c.as_slice.ensures.rows, ← c.self.view_is) at c.in-Ok.ensures in
    let rest = c.take_out-row.ensures.rest ∙ remove_at key c.args.key rows c.in-Ok.place c.self.invariant.0 found in
    let less = remove-length key c.args.key rows in
    let few : length rows ≤ g.row.LIMIT = c.self.invariant.2 in
    (rw rest (remove-ascending key c.args.key rows c.self.invariant.0), rw c.take_out-row.ensures.capacity c.self.invariant.1, rw rest (omega (arith, less, few)), c.take_out-row.ensures.gone, c.self.invariant.4)

pub returns-in-Ok : goal.returns-in-Ok
returns-in-Ok g c =
    let key = g.R.Row.key_of in
    let rows = drop c.self.inside.gone c.self.inside.rows.items in
    let found = rw (c.as_slice.ensures.rows, ← c.self.view_is) at c.in-Ok.ensures in
    rw (← c.self.view_is) (c.take_out-row.ensures.rest ∙ remove_at key c.args.key rows c.in-Ok.place c.self.invariant.0 found)

pub returns-in_default : goal.returns-in_default
returns-in_default g c =
    let missed = rw c.as_slice.ensures.rows at c.in_default.ensures in
    sym (remove-none g.R.Row.key_of c.args.key c.args.self.now missed.1)
