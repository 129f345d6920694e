use Rattle.std.proofs.Common.{◌≤◌, length, drop, sym, ◌∙◌, arith}
use Rattle.mqtt_records.proofs.lists_lemmas.OrderLemmas.{remove_at, remove-none, remove-ascending, remove-length, take_at}
use Rattle.mqtt_records.proofs.lists.rows.Rows.take.Goals as goal

pub invariant_of-self : goal.invariant_of-self
invariant_of-self g c =
    let key = g.R.Row.key_of in
    let rows = drop c.self.inside.gone c.self.inside.rows.items in
    let found = rw (c.as_slice.ensures.rows, ← c.self.view_is) at c.in-Ok.ensures in
    let rest = c.take_out.ensures.rest ∙ remove_at key c.args.key rows c.in-Ok.place c.self.invariant.0 found in
    let less = remove-length key c.args.key rows in
    let few : length rows ≤ g.row.LIMIT = c.self.invariant.2 in
    (rw rest (remove-ascending key c.args.key rows c.self.invariant.0), rw c.take_out.ensures.capacity c.self.invariant.1, rw rest (omega (arith, less, few)), c.take_out.ensures.gone, c.self.invariant.4)

pub returns-in-Ok-clause-row : goal.returns-in-Ok-clause-row
returns-in-Ok-clause-row g c =
    let rows = drop c.self.inside.gone c.self.inside.rows.items in
    let found = rw (c.as_slice.ensures.rows, ← c.self.view_is) at c.in-Ok.ensures in
    rw (← c.self.view_is) (take_at g.R.Row.key_of c.args.key rows c.in-Ok.place c.take_out.result found c.take_out.ensures.row)

pub returns-in-Ok-clause-rest : goal.returns-in-Ok-clause-rest
returns-in-Ok-clause-rest g c =
    let rows = drop c.self.inside.gone c.self.inside.rows.items in
    let found = rw (c.as_slice.ensures.rows, ← c.self.view_is) at c.in-Ok.ensures in
    rw (← c.self.view_is) (c.take_out.ensures.rest ∙ remove_at g.R.Row.key_of c.args.key rows c.in-Ok.place c.self.invariant.0 found)

pub returns-in-Err-clause-rest : goal.returns-in-Err-clause-rest
returns-in-Err-clause-rest g c =
    let missed = rw c.as_slice.ensures.rows at c.in-Err.ensures in
    sym (remove-none g.R.Row.key_of c.args.key c.args.self.now missed.1)
