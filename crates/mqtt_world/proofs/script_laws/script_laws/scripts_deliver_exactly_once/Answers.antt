-- By the law of every run.
use Rattle.std.proofs.Common.{refl}
use Rattle.mqtt_world.proofs.script_drains_lemmas.Done.{delivers_once, start_delivers}
use Rattle.mqtt_world.proofs.script_laws.script_laws.scripts_deliver_exactly_once.Goals as goal

pub returns-clause-delivers : goal.returns-clause-delivers
returns-clause-delivers c = delivers_once

pub returns-clause-empty : goal.returns-clause-empty
returns-clause-empty c = λ limits choice. refl

pub returns-clause-from_nothing : goal.returns-clause-from_nothing
returns-clause-from_nothing c = start_delivers
