use Rattle.mqtt_rules.proofs.granting_lemmas.Steps.{opening_named, step_named, step_topics, step_users, stored_named}
use Rattle.mqtt_rules.proofs.granting.laws.each_publish_names_its_topic.Goals as goal

pub returns-clause-topics : goal.returns-clause-topics
returns-clause-topics c = step_topics

pub returns-clause-users : goal.returns-clause-users
returns-clause-users c = step_users

pub returns-clause-step : goal.returns-clause-step
returns-clause-step c = step_named

pub returns-clause-opening : goal.returns-clause-opening
returns-clause-opening c = opening_named

pub returns-clause-nothing : goal.returns-clause-nothing
returns-clause-nothing c = record { sessions = tt; retained = tt }

pub returns-clause-lawful : goal.returns-clause-lawful
returns-clause-lawful c = stored_named
