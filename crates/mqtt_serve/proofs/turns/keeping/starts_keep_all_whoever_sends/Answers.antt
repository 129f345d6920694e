-- What a start finds is stored after calls; it opens that, and calls.
use Rattle.mqtt_serve.proofs.turns_lemmas.Starts.{runs_started, so_far_keep, starts_keep}
use Rattle.mqtt_serve.proofs.turns.keeping.starts_keep_all_whoever_sends.Goals as goal

pub returns-clause-left : goal.returns-clause-left
returns-clause-left g c = starts_keep g.K.Keep g.met.K.Keep.leaves_held

pub returns-clause-keeps : goal.returns-clause-keeps
returns-clause-keeps g c = so_far_keep g.K.Keep g.met.K.Keep.leaves_held

pub returns-clause-runs : goal.returns-clause-runs
returns-clause-runs g c = runs_started g.K.Keep
