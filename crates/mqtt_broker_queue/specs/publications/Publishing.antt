-- What became of a PUBLISH (MQTT 5.0, 3.3, 4.3).
use Rattle.std.specs.Prelude.{◌≡◌, ℕ, List}
use Rattle.mqtt_packet.specs.declared.codec.publish.Publish.{Publish}
use Rattle.mqtt_props.specs.declared.table.PropName.TheVariants.{TopicAlias}
use Rattle.mqtt_topic.specs.names.Names.{is_empty}
use Rattle.mqtt_flow.specs.declared.inbound.inflow.Published.TheVariants as standings
use Rattle.mqtt_records.specs.messages.PassedOn.{number_at}
use Rattle.mqtt_records.specs.declared.state.session.Session.{Session}
use Rattle.mqtt_rules.specs.step.State.{Line}
use Rattle.mqtt_rules.specs.step.Deeds.{Act, always}
use Rattle.mqtt_rules.specs.step.Inbound.{Means, Wrong, meaning, message_of, on_publish, publish_by, sets_alias, standing}
use Rattle.mqtt_broker_step.specs.Stepping.{Stepping, Did}
use Rattle.mqtt_broker_queue.specs.publications.Choosing.{DoesSome}
use Rattle.mqtt_broker_queue.specs.declared.publications.client_publish.Handled.{Handled}
use Rattle.mqtt_broker_queue.specs.declared.publications.client_publish.Handled.TheVariants as handled

-- its Topic Alias was set, if it came with a topic
abbrev pub alias_set : ℕ → Publish → List ℕ → Act
alias_set line p topic = always (sets_alias (is_empty p.topic) (number_at TopicAlias p.properties) line topic)

-- it means a topic, its identifier is above the Receive Maximum, and no more was done than that its alias was set
pub record IsOver (l : Line) (s : Session) (p : Publish) (old new : Stepping) : Type 0 where
  pub topic : List ℕ
  pub means : meaning p l.aliases ≡ Means topic
  pub over : standing p.delivery s.inbound ≡ standings.Over
  pub did : Did (alias_set l.number p topic) old new

-- it means none, and nothing was done
pub record IsWrong (code : ℕ) (l : Line) (p : Publish) (old new : Stepping) : Type 0 where
  pub wrong : meaning p l.aliases ≡ Wrong code
  pub same : new ≡ old

abbrev pub HasPublished : Line → Session → Publish → Stepping → Stepping → Handled → Type 0
HasPublished l s p old new handled.Done = DoesSome (λ env. on_publish env l s p) old new
HasPublished l s p old new (handled.Wrong code) = IsWrong code.0 l p old new
HasPublished l s p old new handled.Over = IsOver l s p old new

-- what became of it by its identifier, if its topic is known
abbrev pub HasAnswered : Line → Session → Publish → List ℕ → Stepping → Stepping → Handled → Type 0
HasAnswered l s p topic old new handled.Done =
    DoesSome (λ env. publish_by (standing p.delivery s.inbound) env l s p (message_of s.client topic p)) old new
HasAnswered l s p topic old new (handled.Wrong code) = ⊥
HasAnswered l s p topic old new handled.Over = (standing p.delivery s.inbound ≡ standings.Over) × (new ≡ old)
