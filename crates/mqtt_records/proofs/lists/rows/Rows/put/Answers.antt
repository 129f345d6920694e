use Rattle.std.proofs.Common.{drop, ap, ◌∙◌, arith}
use Rattle.mqtt_records.specs.lists.Order.{put_row}
use Rattle.mqtt_records.proofs.lists_lemmas.OrderLemmas.{put-ascending, put-length}
use Rattle.mqtt_records.proofs.lists.rows.Rows.put.Goals as goal

pub invariant_of-self : goal.invariant_of-self
invariant_of-self g c =
    let key = g.R.Row.key_of in
    let rows = drop c.self.inside.gone c.self.inside.rows.items in
    let made = c.put_in.ensures.items ∙ ap (put_row key g.row.LIMIT c.args.row) c.make_place-self-inside.ensures.rest in
    (rw made (put-ascending key g.row.LIMIT c.args.row rows c.self.invariant.0), c.put_in.ensures.room, rw made (put-length key g.row.LIMIT c.args.row rows c.self.invariant.0 c.self.invariant.2), c.put_in.ensures.gone, omega (arith, c.make_place-self-inside.ensures.few, c.self.invariant.4))
