-- By what each step does to the Wills of a session.
use Rattle.mqtt_world_laws.proofs.of_calls_lemmas.Keeping.{blank_in_order}
use Rattle.mqtt_rules.specs.step.Laws.{blank}
use Rattle.mqtt_run_laws.proofs.wills_lemmas.Fates.{each_stands_or_ended}
use Rattle.mqtt_run_laws.proofs.wills.laws.each_will_stands_or_ended_once.Goals as goal

pub returns-clause-from_nothing : goal.returns-clause-from_nothing
returns-clause-from_nothing c events fair = each_stands_or_ended events blank blank_in_order fair

pub returns-clause-keeps : goal.returns-clause-keeps
returns-clause-keeps c = each_stands_or_ended
