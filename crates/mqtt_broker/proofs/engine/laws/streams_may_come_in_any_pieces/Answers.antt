use Rattle.mqtt_broker.proofs.engine_lemmas.Cuts.{stream_given}
use Rattle.mqtt_broker.proofs.engine.laws.streams_may_come_in_any_pieces.Goals as goal

pub returns-clause-front : goal.returns-clause-front
returns-clause-front c = λ line stream items ending b came is on. (stream_given line stream items ending b came is on).front

pub returns-clause-whole : goal.returns-clause-whole
returns-clause-whole c = λ line stream items ending b came is on whole. (stream_given line stream items ending b came is on).whole whole
