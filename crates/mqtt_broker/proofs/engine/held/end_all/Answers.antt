use Rattle.std.proofs.Common.{◌∙◌}
use Rattle.mqtt_broker.proofs.engine_lemmas.Framings.{ended_is}
use Rattle.mqtt_broker.proofs.engine.held.end_all.Goals as goal

pub returns : goal.returns
returns c = c.end_each.ensures ∙ ended_is c.args.closed.now c.args.framers.now
