use Rattle.std.proofs.Common.{not, nat_eq, rules}
use Rattle.std.proofs.lemmas.Fn.{filter_same}
use Rattle.mqtt_world_ends.proofs.peers.receiver.forget.Goals as goal

pub returns : goal.returns
returns c = filter_same _ (λ i. not (nat_eq i c.args.identifier)) _ (λ i b f r. search rules) _ _ c.retain.ensures.filtered
