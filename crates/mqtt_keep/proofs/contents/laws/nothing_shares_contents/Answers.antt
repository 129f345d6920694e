use Rattle.mqtt_keep.proofs.contents_lemmas.Nothing.{nothing_shared}
use Rattle.mqtt_keep.proofs.contents.laws.nothing_shares_contents.Goals as goal

pub returns : goal.returns
returns c = nothing_shared
