-- By induction over how many there are.
use Rattle.mqtt_world.proofs.script_laws_lemmas.Drained.{a_round_more}
use Rattle.mqtt_world.proofs.script_laws_lemmas.Repeated.{once_more}
use Rattle.mqtt_world.proofs.script_laws.drain_laws.rounds_follow_one_another.Goals as goal

pub returns-clause-once_more : goal.returns-clause-once_more
returns-clause-once_more c = once_more

pub returns-clause-a_round_more : goal.returns-clause-a_round_more
returns-clause-a_round_more c = a_round_more
