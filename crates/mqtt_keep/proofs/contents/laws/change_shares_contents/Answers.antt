use Rattle.mqtt_keep.proofs.contents_lemmas.Said.{shared_after}
use Rattle.mqtt_keep.proofs.contents.laws.change_shares_contents.Goals as goal

pub returns : goal.returns
returns c change r shared fits = shared_after change r shared fits
