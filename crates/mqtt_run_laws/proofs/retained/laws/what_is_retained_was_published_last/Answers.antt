-- By each act that changes what is retained.
use Rattle.mqtt_run_laws.proofs.retained_lemmas.Runs.{retains_from_nothing, retains_the_last}
use Rattle.mqtt_run_laws.proofs.retained.laws.what_is_retained_was_published_last.Goals as goal

pub returns-clause-from_nothing : goal.returns-clause-from_nothing
returns-clause-from_nothing c = retains_from_nothing

pub returns-clause-goes_on : goal.returns-clause-goes_on
returns-clause-goes_on c = retains_the_last
