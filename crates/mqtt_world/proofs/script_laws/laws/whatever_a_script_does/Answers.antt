-- By the law of every run.
use Rattle.mqtt_world_laws.proofs.headline_lemmas.Delivered.{run_delivers_all}
use Rattle.mqtt_world.proofs.script_laws_lemmas.Carrying.{script_fair, turns_fair}
use Rattle.mqtt_world.proofs.script_laws.laws.whatever_a_script_does.Goals as goal

pub returns-clause-delivers : goal.returns-clause-delivers
returns-clause-delivers c = λ limits es turns w begins are fair. run_delivers_all limits turns w begins fair

pub returns-clause-fair : goal.returns-clause-fair
returns-clause-fair c = turns_fair

pub returns-clause-comes : goal.returns-clause-comes
returns-clause-comes c = script_fair
