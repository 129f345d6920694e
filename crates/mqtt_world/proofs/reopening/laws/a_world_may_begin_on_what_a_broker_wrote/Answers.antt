-- By what lawful records have, and what a broker's have beside.
use Rattle.mqtt_world.proofs.reopening_lemmas.Begun.{left_begins, left_delivers, written_begins, written_contents, written_delivers, written_sends}
use Rattle.mqtt_world.proofs.reopening_lemmas.Sending.{left_sends}
use Rattle.mqtt_world.proofs.reopening.laws.a_world_may_begin_on_what_a_broker_wrote.Goals as goal

pub returns-clause-begins : goal.returns-clause-begins
returns-clause-begins c = written_begins

pub returns-clause-contents : goal.returns-clause-contents
returns-clause-contents c = written_contents

pub returns-clause-delivers : goal.returns-clause-delivers
returns-clause-delivers c = written_delivers

pub returns-clause-sends : goal.returns-clause-sends
returns-clause-sends c = left_sends

pub returns-clause-sends_wherever : goal.returns-clause-sends_wherever
returns-clause-sends_wherever c = written_sends

pub returns-clause-left_begins : goal.returns-clause-left_begins
returns-clause-left_begins c = left_begins

pub returns-clause-left_delivers : goal.returns-clause-left_delivers
returns-clause-left_delivers c = left_delivers
