-- The close of an identifier keeps the others.
use Rattle.std.proofs.Common.{not, nat_eq, rules}
use Rattle.std.proofs.lemmas.Fn.{filter_same}
use Rattle.mqtt_flow.proofs.outbound.in_use.close.Goals as goal

pub returns-clause-items : goal.returns-clause-items
returns-clause-items c = filter_same _ (λ i. not (nat_eq i c.args.identifier)) _ (λ i b f r. search rules) _ _ c.retain.ensures.filtered
