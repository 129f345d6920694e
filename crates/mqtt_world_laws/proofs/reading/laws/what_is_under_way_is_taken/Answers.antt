-- By what each event leaves under way.
use Rattle.mqtt_world_laws.proofs.reading_lemmas.Runs.{start_under_way, under_way}
use Rattle.mqtt_world_laws.proofs.reading.laws.what_is_under_way_is_taken.Goals as goal

pub returns-clause-taken : goal.returns-clause-taken
returns-clause-taken c = under_way

pub returns-clause-from_nothing : goal.returns-clause-from_nothing
returns-clause-from_nothing c = start_under_way
