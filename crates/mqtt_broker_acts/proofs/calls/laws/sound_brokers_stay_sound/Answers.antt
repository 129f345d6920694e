use Rattle.mqtt_broker_acts.proofs.calls_lemmas.SoundLaw.{step_sound, opening_sound}
use Rattle.mqtt_broker_acts.proofs.calls.laws.sound_brokers_stay_sound.Goals as goal

pub returns-clause-step : goal.returns-clause-step
returns-clause-step c = step_sound

pub returns-clause-opening : goal.returns-clause-opening
returns-clause-opening c = opening_sound
