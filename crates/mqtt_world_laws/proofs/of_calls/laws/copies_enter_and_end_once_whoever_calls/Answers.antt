-- What each step keeps, all keep; so copies enter and end once, and what is sent of one is its publication's.
use Rattle.mqtt_world_laws.proofs.of_calls_lemmas.Keeping.{keeps_all, keeps_from_nothing}
use Rattle.mqtt_world_laws.proofs.of_calls.laws.copies_enter_and_end_once_whoever_calls.Goals as goal

pub returns-clause-from_nothing : goal.returns-clause-from_nothing
returns-clause-from_nothing c = keeps_from_nothing

pub returns-clause-keeps : goal.returns-clause-keeps
returns-clause-keeps c = keeps_all
