-- By the rounds of the drain by one choice.
use Rattle.mqtt_world.proofs.script_laws_lemmas.Drained.{is_over_then, is_within}
use Rattle.mqtt_world.proofs.script_laws.drain_laws.drains_of_a_script_end.Goals as goal

pub returns-clause-is_within : goal.returns-clause-is_within
returns-clause-is_within c = λ limits es choice client rounds t w v after untouched comes made. is_within limits es choice client w v untouched comes rounds t after made

pub returns-clause-is_over : goal.returns-clause-is_over
returns-clause-is_over c = λ limits es choice client rounds t w v after untouched comes made enough. is_over_then limits es choice client w v untouched comes rounds t after made enough
