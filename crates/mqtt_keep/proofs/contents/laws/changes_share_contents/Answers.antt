use Rattle.mqtt_keep.proofs.contents_lemmas.Said.{shared_after_all}
use Rattle.mqtt_keep.proofs.contents.laws.changes_share_contents.Goals as goal

pub returns : goal.returns
returns c changes r shared fits = shared_after_all changes r shared fits
