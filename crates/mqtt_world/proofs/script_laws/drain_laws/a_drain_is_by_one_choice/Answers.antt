-- Round by round: no turn asks for a choice.
use Rattle.mqtt_world.proofs.script_laws_lemmas.Drained.{so_far, whole}
use Rattle.mqtt_world.proofs.script_laws.drain_laws.a_drain_is_by_one_choice.Goals as goal

pub returns-clause-so_far : goal.returns-clause-so_far
returns-clause-so_far c = λ limits es choice client rounds t w v after untouched comes made. so_far limits es choice client w v untouched comes rounds t after made

pub returns-clause-whole : goal.returns-clause-whole
returns-clause-whole c = λ limits es choice client most t w v after untouched comes h le. whole limits es choice client w v untouched comes most t after h le
