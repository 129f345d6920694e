use Rattle.std.proofs.Common.{sym, subst, arith}
use Rattle.mqtt_flow.specs.inbound.Inflow.{BelongsAt}
use Rattle.mqtt_flow.proofs.inbound_lemmas.inbound.OpenLists.{lawful_insert}
use Rattle.mqtt_flow.proofs.inbound.inflow.Inflow.publish.Goals as goal

pub invariant_of-self : goal.invariant_of-self
invariant_of-self c = rw c.insert.ensures.items (lawful_insert _ c.args.id c.in-Err.place c.self.inside.ids.items (subst (λ v. BelongsAt c.args.id v.ids c.in-Err.place) (sym c.self.view_is) c.in-Err.ensures.missing) (omega arith) c.self.invariant)
