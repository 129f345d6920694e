use Rattle.mqtt_base.proofs.Characters.{text_means, text_meant}
use Rattle.mqtt_base.proofs.laws.text_is_characters.Goals as goal

pub returns : goal.returns
returns c = λ bytes. (text_means bytes, text_meant bytes)
