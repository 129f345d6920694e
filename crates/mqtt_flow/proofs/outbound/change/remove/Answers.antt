use Rattle.std.proofs.Common.{rules, not, nat_eq}
use Rattle.std.proofs.lemmas.Fn.{filter_same}
use Rattle.mqtt_flow.proofs.outbound.change.remove.Goals as goal

pub returns-clause-items : goal.returns-clause-items
returns-clause-items c = filter_same _ (λ e. not (nat_eq e.place c.args.place)) _ (λ e b f r. search rules) _ _ c.retain.ensures.filtered
