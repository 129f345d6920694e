-- By each deed of a step, and by what a turn of the clock does.
use Rattle.mqtt_run_laws.proofs.wills_lemmas.AtOnce.{none_at_close}
use Rattle.mqtt_run_laws.proofs.wills_lemmas.Due.{all_grounded, none_is_due}
use Rattle.mqtt_run_laws.proofs.wills.laws.wills_are_published_when_due.Goals as goal

pub returns-clause-not_earlier : goal.returns-clause-not_earlier
returns-clause-not_earlier c = all_grounded

pub returns-clause-at_once : goal.returns-clause-at_once
returns-clause-at_once c = none_at_close

pub returns-clause-not_later : goal.returns-clause-not_later
returns-clause-not_later c = none_is_due
