-- By a turn of sending, which alone sends a PUBLISH of QoS 1 or 2.
use Rattle.mqtt_rules.specs.step.Laws.{blank}
use Rattle.mqtt_world_laws.proofs.of_calls_lemmas.Keeping.{blank_in_order}
use Rattle.mqtt_world_laws.proofs.of_calls_lemmas.Repeating.{all_again, all_repeat}
use Rattle.mqtt_world_laws.proofs.of_calls.laws.each_publish_has_its_dup.Goals as goal

pub returns-clause-repeats : goal.returns-clause-repeats
returns-clause-repeats c = all_repeat

pub returns-clause-from_nothing : goal.returns-clause-from_nothing
returns-clause-from_nothing c = λ events fair. all_repeat events blank blank_in_order fair

pub returns-clause-again : goal.returns-clause-again
returns-clause-again c = λ events b begins fair copy h. all_again copy events b begins fair h
