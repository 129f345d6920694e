-- By what each step keeps.
use Rattle.mqtt_world_laws.proofs.headline_lemmas.Lives.{lives_begin, run_begins, run_begins_under, start_begins}
use Rattle.mqtt_world_laws.proofs.headline.laws.what_a_run_leaves_may_begin_another.Goals as goal

pub returns-clause-nothing : goal.returns-clause-nothing
returns-clause-nothing c = start_begins

pub returns-clause-again : goal.returns-clause-again
returns-clause-again c = run_begins

pub returns-clause-under_others : goal.returns-clause-under_others
returns-clause-under_others c = run_begins_under

pub returns-clause-lives : goal.returns-clause-lives
returns-clause-lives c = lives_begin
