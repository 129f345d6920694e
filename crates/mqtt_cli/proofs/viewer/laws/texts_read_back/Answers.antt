use Rattle.mqtt_cli.proofs.viewer_lemmas.ReadBack.{text_read_back}
use Rattle.mqtt_cli.proofs.viewer.laws.texts_read_back.Goals as goal

pub returns : goal.returns
returns c = text_read_back
