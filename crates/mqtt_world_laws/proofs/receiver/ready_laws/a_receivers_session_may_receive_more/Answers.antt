-- By the deeds of each step.
use Rattle.mqtt_world_laws.proofs.receiver_lemmas.own.Answering.{answers_receive}
use Rattle.mqtt_world_laws.proofs.receiver_lemmas.own.Losing.{losing_receives}
use Rattle.mqtt_world_laws.proofs.receiver_lemmas.own.OldAnswers.{old_answers_receive}
use Rattle.mqtt_world_laws.proofs.receiver_lemmas.queue.Sending.{pump_receives}
use Rattle.mqtt_world_laws.proofs.receiver.ready_laws.a_receivers_session_may_receive_more.Goals as goal

pub returns-clause-sends : goal.returns-clause-sends
returns-clause-sends z number largest copies limits choice now r l s b h c x fits whole distinct = pump_receives number largest copies limits choice now r l s b h c fits whole distinct x.known

pub returns-clause-answers : goal.returns-clause-answers
returns-clause-answers c = answers_receive

pub returns-clause-old_answers : goal.returns-clause-old_answers
returns-clause-old_answers c = old_answers_receive

pub returns-clause-loses : goal.returns-clause-loses
returns-clause-loses c = losing_receives
