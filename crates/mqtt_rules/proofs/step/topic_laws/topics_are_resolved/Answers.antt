use Rattle.std.proofs.Common.{◌∙◌}
use Rattle.mqtt_props.specs.declared.table.PropName.TheVariants.{SubscriptionIdentifier, TopicAlias}
use Rattle.mqtt_props.specs.Laws.{has}
use Rattle.mqtt_records.specs.messages.PassedOn.{number_at}
use Rattle.mqtt_rules.specs.step.Inbound.{resolved}
use Rattle.mqtt_rules.proofs.step_lemmas.acts.Meanings.{resolved_means, resolved_only, resolved_refused, unless_identified, if_identified, identified_only}
use Rattle.mqtt_rules.proofs.step.topic_laws.topics_are_resolved.Goals as goal

pub returns-clause-name : goal.returns-clause-name
returns-clause-name c = λ p table name none r.
    unless_identified (has SubscriptionIdentifier p.properties) (resolved table p.topic (number_at TopicAlias p.properties)) none
    ∙ resolved_means table p.topic (number_at TopicAlias p.properties) name r

pub returns-clause-only : goal.returns-clause-only
returns-clause-only c = λ p table name e.
    resolved_only table p.topic (number_at TopicAlias p.properties) name
    (identified_only (has SubscriptionIdentifier p.properties) (resolved table p.topic (number_at TopicAlias p.properties)) name e)

pub returns-clause-refused : goal.returns-clause-refused
returns-clause-refused c = λ p table fault none some fits r.
    unless_identified (has SubscriptionIdentifier p.properties) (resolved table p.topic (number_at TopicAlias p.properties)) none
    ∙ resolved_refused table p.topic (number_at TopicAlias p.properties) fault some fits r

pub returns-clause-identified : goal.returns-clause-identified
returns-clause-identified c = λ p table there.
    if_identified (has SubscriptionIdentifier p.properties) (resolved table p.topic (number_at TopicAlias p.properties)) there
