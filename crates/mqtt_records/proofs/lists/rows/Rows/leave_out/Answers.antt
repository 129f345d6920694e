use Rattle.std.proofs.Common.{drop, ap, ◌∙◌}
use Rattle.std.proofs.lemmas.List.{length-map}
use Rattle.mqtt_records.proofs.lists_lemmas.FrontLemmas.{drop_map}
use Rattle.mqtt_records.proofs.lists_lemmas.OrderLemmas.{map-ascending}
use Rattle.mqtt_records.proofs.lists.rows.Rows.leave_out.Goals as goal

pub invariant_of-self : goal.invariant_of-self
invariant_of-self g c =
    let key = g.R.Row.key_of in
    let gone = c.self.inside.gone in
    let rows = drop gone c.self.inside.rows.items in
    let f = g.R.Slimmable.slimmed in
    let made = ap (drop gone) c.slim_list.ensures.items ∙ drop_map gone f c.self.inside.rows.items in
    (rw made (map-ascending key f rows (λ x. g.met.R.Slimmable.slimmed_key x) c.self.invariant.0), rw c.slim_list.ensures.capacity c.self.invariant.1, rw (made, length-map rows f) c.self.invariant.2, rw c.slim_list.ensures.len c.self.invariant.3, c.self.invariant.4)

pub returns : goal.returns
returns g c =
    let gone = c.self.inside.gone in
    rw (← c.self.view_is) (ap (drop gone) c.slim_list.ensures.items ∙ drop_map gone g.R.Slimmable.slimmed c.self.inside.rows.items)
