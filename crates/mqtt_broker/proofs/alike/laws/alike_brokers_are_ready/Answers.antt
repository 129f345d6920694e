use Rattle.mqtt_broker_acts.proofs.calls_lemmas.Sources.{sound_ready}
use Rattle.mqtt_broker.proofs.alike_lemmas.Ready.{ready_alike}
use Rattle.mqtt_broker.proofs.alike.laws.alike_brokers_are_ready.Goals as goal

pub returns-clause-ready : goal.returns-clause-ready
returns-clause-ready c = ready_alike

pub returns-clause-sound : goal.returns-clause-sound
returns-clause-sound c = λ limits some whole alike sound. ready_alike limits some whole alike (sound_ready limits whole sound)
