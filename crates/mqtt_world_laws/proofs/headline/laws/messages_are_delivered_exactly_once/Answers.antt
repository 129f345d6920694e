-- By the laws of every run, of intended copies, of causes and of drains.
use Rattle.mqtt_world_laws.proofs.routing_lemmas.Intended.{copies_once}
use Rattle.mqtt_world_laws.proofs.delivery_lemmas.whole.WholeRuns.{all_handed_whole}
use Rattle.mqtt_world_laws.proofs.headline_lemmas.Delivered.{accepted_once, lives_deliver, lives_fit, run_delivers_all, script_delivers}
use Rattle.mqtt_world_laws.proofs.headline.laws.messages_are_delivered_exactly_once.Goals as goal

pub returns-clause-delivers : goal.returns-clause-delivers
returns-clause-delivers c = lives_deliver

pub returns-clause-fits : goal.returns-clause-fits
returns-clause-fits c = lives_fit

pub returns-clause-wherever : goal.returns-clause-wherever
returns-clause-wherever c = script_delivers

pub returns-clause-run : goal.returns-clause-run
returns-clause-run c = run_delivers_all

pub returns-clause-messages : goal.returns-clause-messages
returns-clause-messages c = accepted_once

pub returns-clause-copies : goal.returns-clause-copies
returns-clause-copies c = copies_once

pub returns-clause-receivers : goal.returns-clause-receivers
returns-clause-receivers c = all_handed_whole
