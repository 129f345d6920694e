-- By the deeds of CONNECT.
use Rattle.mqtt_world_laws.proofs.receiver_lemmas.connects.Beginning.{first_receives}
use Rattle.mqtt_world_laws.proofs.receiver_lemmas.connects.Renewing.{renewal_receives}
use Rattle.mqtt_world_laws.proofs.receiver_lemmas.connects.Resuming.{connect_receives}
use Rattle.mqtt_world_laws.proofs.receiver.ready_laws.a_connected_session_may_receive_more.Goals as goal

pub returns-clause-resumes : goal.returns-clause-resumes
returns-clause-resumes c = connect_receives

pub returns-clause-begins : goal.returns-clause-begins
returns-clause-begins c = first_receives

pub returns-clause-renews : goal.returns-clause-renews
returns-clause-renews c = renewal_receives
