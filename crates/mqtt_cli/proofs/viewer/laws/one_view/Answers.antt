use Rattle.mqtt_cli.proofs.viewer_lemmas.OneView.{early_begins, only_view, some_view}
use Rattle.mqtt_cli.proofs.viewer.laws.one_view.Goals as goal

pub returns-clause-some : goal.returns-clause-some
returns-clause-some c = some_view

pub returns-clause-only : goal.returns-clause-only
returns-clause-only c = only_view

pub returns-clause-front : goal.returns-clause-front
returns-clause-front c = early_begins
