use Rattle.mqtt_broker.proofs.stored_lemmas.Slimmed.{slim_none}
use Rattle.mqtt_broker.proofs.stored.parts.EngineParts.finish.Goals as goal

pub finish_filled-requires-clause-slim : goal.finish_filled-requires-clause-slim
finish_filled-requires-clause-slim g c = slim_none c.args.self.now.step.start c.requires.slim
