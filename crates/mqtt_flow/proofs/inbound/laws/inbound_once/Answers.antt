use Rattle.mqtt_flow.specs.inbound.Publisher.{completed, refused}
use Rattle.mqtt_flow.specs.inbound.InboundWorld.{after}
use Rattle.mqtt_flow.proofs.inbound_lemmas.inbound.Runs.{is_good, once, unsent_is, ended_is, ended_1_is, few}
use Rattle.mqtt_flow.proofs.inbound_lemmas.inbound.ForGood.{for_good}
use Rattle.mqtt_flow.proofs.inbound_lemmas.inbound.Heard.{alone_run, heard_run}
use Rattle.mqtt_flow.proofs.inbound.laws.inbound_once.Goals as goal

pub returns-clause-once : goal.returns-clause-once
returns-clause-once c = λ events n of_qos_2. once (after events) n (is_good events) of_qos_2

pub returns-clause-unsent : goal.returns-clause-unsent
returns-clause-unsent c = λ events n fate. unsent_is (after events) n (is_good events) fate

pub returns-clause-completed : goal.returns-clause-completed
returns-clause-completed c = λ events n fate. ended_is (after events) n completed (is_good events) fate

pub returns-clause-refused : goal.returns-clause-refused
returns-clause-refused c = λ events n fate. ended_is (after events) n refused (is_good events) fate

pub returns-clause-acknowledged : goal.returns-clause-acknowledged
returns-clause-acknowledged c = λ events n fate. ended_1_is (after events) n completed (is_good events) fate

pub returns-clause-within : goal.returns-clause-within
returns-clause-within c = λ events. few (after events) (is_good events)

pub returns-clause-for_good : goal.returns-clause-for_good
returns-clause-for_good c = for_good

pub returns-clause-alone : goal.returns-clause-alone
returns-clause-alone c = alone_run

pub returns-clause-heard : goal.returns-clause-heard
returns-clause-heard c = heard_run
