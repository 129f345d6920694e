use Rattle.std.proofs.Common.{rules, ◌≤◌, length, drop, filter, not, bytes_eq, ap, ◌∙◌, arith}
use Rattle.std.proofs.lemmas.Fn.{filter_same}
use Rattle.mqtt_records.proofs.lists_lemmas.OrderLemmas.{filter-ascending, filter-length}
use Rattle.mqtt_records.proofs.lists.rows.Rows.remove_named.Goals as goal

pub invariant_of-self : goal.invariant_of-self
invariant_of-self g c =
    let stays = λ (row : g.row.R.Denot). not (bytes_eq (g.R.Named.name_of row) c.args.name.now) in
    let rows = drop c.self.inside.gone c.self.inside.rows.items in
    let kept = filter_same _ stays _ (λ x b h r. search rules) _ _ c.retain.ensures.filtered ∙ ap (filter stays) c.close_up.ensures.items in
    let less = filter-length g.R.Row.key_of stays rows in
    let few : length rows ≤ g.row.LIMIT = c.self.invariant.2 in
    (rw kept (filter-ascending g.R.Row.key_of _ rows c.self.invariant.0), rw (c.retain.ensures.capacity, c.close_up.ensures.capacity) c.self.invariant.1, rw kept (omega (arith, less, few)), omega arith, omega arith)

pub returns : goal.returns
returns g c =
    let stays = λ (row : g.row.R.Denot). not (bytes_eq (g.R.Named.name_of row) c.args.name.now) in
    rw (← c.self.view_is) (filter_same _ stays _ (λ x b h r. search rules) _ _ c.retain.ensures.filtered ∙ ap (filter stays) c.close_up.ensures.items)
