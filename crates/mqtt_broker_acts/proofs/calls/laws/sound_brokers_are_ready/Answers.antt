use Rattle.mqtt_broker_acts.proofs.calls_lemmas.Sources.{sound_ready}
use Rattle.mqtt_broker_acts.proofs.calls.laws.sound_brokers_are_ready.Goals as goal

pub returns : goal.returns
returns c = record { ready = sound_ready }
