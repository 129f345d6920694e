-- What always holds of strangers.
use Rattle.std.proofs.Common.{subst}
use Rattle.mqtt_world_ends.specs.strangers.Strangers.{AreKept}
use Rattle.mqtt_world_ends.proofs.strangers_lemmas.Places.{all_alike, no_packet}
use Rattle.mqtt_world_ends.proofs.strangers.strangers.Strangers.has.Goals as goal

pub returns-clause-alike : goal.returns-clause-alike
returns-clause-alike c = λ w. all_alike c.args.self.now w (subst AreKept c.self.view_is c.self.invariant)

pub returns-clause-waits : goal.returns-clause-waits
returns-clause-waits c = λ w. no_packet c.args.self.now w (subst AreKept c.self.view_is c.self.invariant)
