use Rattle.std.proofs.Common.{not, nat_eq, rules}
use Rattle.std.proofs.lemmas.Fn.{filter_same}
use Rattle.mqtt_broker_step.proofs.places.drop_place.Goals as goal

pub returns-clause-items : goal.returns-clause-items
returns-clause-items c = filter_same _ (λ i. not (nat_eq i c.args.place)) _ (λ i b f r. search rules) _ _ c.retain.ensures.filtered
