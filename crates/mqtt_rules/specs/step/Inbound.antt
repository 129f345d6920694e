-- What a connected client sends, SUBSCRIBE and UNSUBSCRIBE aside (MQTT 5.0, 3.3 to 3.7, 3.14, 4.3, 4.4).
use Rattle.std.specs.Prelude.{ℕ, Bool, true, false, cond, not, ◌&&◌, List, [], ◌∷◌, nat_eq, nat_lt, nat_le, Option, Some, None, Ok, Err}
use Rattle.mqtt_props.specs.declared.table.PropName.TheVariants.{SubscriptionIdentifier, TopicAlias}
use Rattle.mqtt_props.specs.Laws.{has}
use Rattle.mqtt_packet.specs.declared.codec.publish.Delivery.{Delivery}
use Rattle.mqtt_packet.specs.declared.codec.publish.Delivery.TheVariants as delivery
use Rattle.mqtt_packet.specs.declared.codec.publish.Publish.{Publish}
use Rattle.mqtt_packet.specs.codec.Publish.{delivery_qos}
use Rattle.mqtt_topic.specs.names.Names.{is_topic_name, is_empty}
use Rattle.mqtt_topic.specs.declared.names.fault.TopicFault.{TopicFault}
use Rattle.mqtt_topic.specs.declared.names.fault.TopicFault.TheVariants.{Empty, WildcardInName, WildcardPlace, Share, AliasRange, AliasUnknown, Memory, NotText}
use Rattle.mqtt_topic.specs.names.Aliases.{AliasTable, topic_of}
use Rattle.mqtt_flow.specs.declared.outbound.entry.Turn.{Turn}
use Rattle.mqtt_flow.specs.declared.inbound.inflow.Published.{Published}
use Rattle.mqtt_flow.specs.declared.inbound.inflow.Published.TheVariants.{New, Again, Over}
use Rattle.mqtt_flow.specs.declared.inbound.inflow.ReleaseAnswer.{ReleaseAnswer}
use Rattle.mqtt_flow.specs.declared.inbound.inflow.ReleaseAnswer.TheVariants.{Known, Unknown}
use Rattle.mqtt_base.specs.Codes.{success, normal_disconnection, no_matching_subscribers, unspecified_error, protocol_error, topic_name_invalid, identifier_in_use, identifier_not_found, receive_maximum_exceeded, topic_alias_invalid, quota_exceeded}
use Rattle.mqtt_flow.specs.inbound.Inbound.{answer_to, answer_to_release}
use Rattle.mqtt_flow.specs.outbound.Outbound.{Answer, pump}
use Rattle.mqtt_flow.specs.outbound.Outbound as rules
use Rattle.mqtt_records.specs.declared.state.session.Session.{Session}
use Rattle.mqtt_rules.specs.step.Packets.{puback, pubrec, pubcomp}
use Rattle.mqtt_records.specs.messages.PassedOn.{number_at, passed_on}
use Rattle.mqtt_rules.specs.step.State.{Line, Broker, Env, queue_on}
use Rattle.mqtt_rules.specs.step.Deeds.{whose, Message, FromClient, SetExpiry, Open, Release, SetAlias, Deed, At, On, Send, Act, always, series}
use Rattle.mqtt_rules.specs.step.Fitting.{pump_turns}
use Rattle.mqtt_rules.specs.step.Outbound.{turn_deeds, all_turn_deeds}
use Rattle.mqtt_rules.specs.step.Routing.{CopyTo, accepted_copies, publish, is_wanted}
use Rattle.mqtt_rules.specs.step.Closing.{close, drop_line}

-- ---- the topic that a PUBLISH means, or the code for one that means none (3.3.2.1, 3.3.2.3.4), case by case as
-- `Resolves` and `RefusesAlias` of mqtt_topic have it

pub data Meaning : Type 0 where
  Means : (topic : List ℕ) → Meaning
  Wrong : (code : ℕ) → Meaning

-- a topic of its own
abbrev pub named : List ℕ → Meaning
named [] = Wrong protocol_error
named (c ∷ cs) = cond (is_topic_name (c ∷ cs)) (Means (c ∷ cs)) (Wrong topic_name_invalid)

abbrev pub known : Option (List ℕ) → Meaning
known None = Wrong protocol_error
known (Some topic) = Means topic

-- with an alias it may be empty: then it is what the alias stands for
abbrev pub named_by : AliasTable → List ℕ → ℕ → Meaning
named_by table [] alias = known (topic_of alias table.topics)
named_by table (c ∷ cs) alias = named (c ∷ cs)

abbrev pub is_in_range : ℕ → ℕ → Bool
is_in_range max alias = nat_lt 0 alias && nat_le alias max

abbrev pub resolved : AliasTable → List ℕ → Option ℕ → Meaning
resolved table topic None = named topic
resolved table topic (Some alias) =
    cond (is_in_range table.max alias) (named_by table topic alias) (Wrong topic_alias_invalid)

abbrev pub meaning : Publish → AliasTable → Meaning
meaning p table =
    cond (has SubscriptionIdentifier p.properties) (Wrong protocol_error)
    (resolved table p.topic (number_at TopicAlias p.properties))

-- the code that tells why a topic is none; a PUBLISH meets no other of these faults
abbrev pub topic_code : TopicFault → ℕ
topic_code Empty = protocol_error
topic_code WildcardInName = topic_name_invalid
topic_code WildcardPlace = topic_name_invalid
topic_code Share = topic_name_invalid
topic_code AliasRange = topic_alias_invalid
topic_code AliasUnknown = protocol_error
topic_code Memory = unspecified_error
topic_code NotText = topic_name_invalid

-- an alias that comes with a topic is set
abbrev pub sets_alias : Bool → Option ℕ → ℕ → List ℕ → List Deed
sets_alias true alias line topic = []
sets_alias false None line topic = []
sets_alias false (Some n) line topic = On line (SetAlias n topic) ∷ []

-- ---- PUBLISH (3.3.4, 4.3)

-- what its identifier is: at QoS 0 it has none
abbrev pub standing : Delivery → List ℕ → Published
standing delivery.AtMostOnce ids = New
standing (delivery.AtLeastOnce dup id) ids = answer_to id ids
standing (delivery.ExactlyOnce dup id) ids = answer_to id ids

abbrev pub answer : ℕ → Delivery → ℕ → List Deed
answer line delivery.AtMostOnce code = []
answer line (delivery.AtLeastOnce dup id) code = Send line (puback id code) ∷ []
answer line (delivery.ExactlyOnce dup id) code = Send line (pubrec id code) ∷ []

-- QoS 2 opens its identifier
abbrev pub opens : Session → Delivery → List Deed
opens s delivery.AtMostOnce = []
opens s (delivery.AtLeastOnce dup id) = []
opens s (delivery.ExactlyOnce dup id) = At (whose s) (Open id) ∷ []

-- of an open identifier: QoS 2 is answered as before, QoS 1 isn't taken
abbrev pub code_again : Delivery → ℕ
code_again delivery.AtMostOnce = success
code_again (delivery.AtLeastOnce dup id) = identifier_in_use
code_again (delivery.ExactlyOnce dup id) = success

abbrev pub code_accepted : Bool → ℕ
code_accepted true = success
code_accepted false = no_matching_subscribers

abbrev pub publish_new : Env → Line → Session → Publish → Message → Option (List CopyTo) → Act
publish_new env l s p m None b = answer l.number p.delivery quota_exceeded
publish_new env l s p m (Some ds) b = series (
    publish env FromClient m ds
    ∷ always (opens s p.delivery)
    ∷ always (answer l.number p.delivery (code_accepted (is_wanted env m b.records)))
    ∷ []) b

abbrev pub publish_by : Published → Env → Line → Session → Publish → Message → Act
publish_by Again env l s p m b = answer l.number p.delivery (code_again p.delivery)
publish_by Over env l s p m b = drop_line env receive_maximum_exceeded l b
publish_by New env l s p m b = publish_new env l s p m (accepted_copies env m b) b

abbrev pub message_of : List ℕ → List ℕ → Publish → Message
message_of client topic p = record {
  sender = client;
  topic = topic;
  qos = delivery_qos p.delivery;
  retain = p.retain;
  properties = passed_on p.properties;
  payload = p.payload;
}

abbrev pub publish_meant : Meaning → Env → Line → Session → Publish → Act
publish_meant (Wrong code) env l s p b = drop_line env code l b
publish_meant (Means topic) env l s p b = series (
    always (sets_alias (is_empty p.topic) (number_at TopicAlias p.properties) l.number topic)
    ∷ publish_by (standing p.delivery s.inbound) env l s p (message_of s.client topic p)
    ∷ []) b

abbrev pub on_publish : Env → Line → Session → Publish → Act
on_publish env l s p b = publish_meant (meaning p l.aliases) env l s p b

-- ---- PUBREL (4.3.3)

abbrev pub release_by : ReleaseAnswer → Line → Session → ℕ → List Deed
release_by Known l s id = At (whose s) (Release id) ∷ Send l.number (pubcomp id success) ∷ []
release_by Unknown l s id = Send l.number (pubcomp id identifier_not_found) ∷ []

abbrev pub on_pubrel : Line → Session → ℕ → List Deed
on_pubrel l s id = release_by (answer_to_release id s.inbound) l s id

-- ---- a receiver's answers; one in a wrong phase breaks the protocol (4.3, ours)

abbrev pub turned : Line → Session → ℕ → Option Turn → List Deed
turned l s now None = []
turned l s now (Some t) = turn_deeds now l.number s t

abbrev pub on_answer : Answer → Env → Line → Session → Act
on_answer (Ok t) env l s b = turned l s b.now t
on_answer (Err fault) env l s b = drop_line env protocol_error l b

abbrev pub on_puback : Env → Line → Session → ℕ → ℕ → Act
on_puback env l s id code b = on_answer (rules.puback id code (queue_on l.went s)) env l s b

abbrev pub on_pubrec : Env → Line → Session → ℕ → ℕ → Act
on_pubrec env l s id code b = on_answer (rules.pubrec id code (queue_on l.went s)) env l s b

abbrev pub on_pubcomp : Env → Line → Session → ℕ → Act
on_pubcomp env l s id b = on_answer (rules.pubcomp id (queue_on l.went s)) env l s b

-- ---- pump (4.6, 4.9)

abbrev pub pump_deeds : Line → Broker → Session → List Deed
pump_deeds l b s = all_turn_deeds b.now l.number s (pump_turns l b s)

-- ---- DISCONNECT (3.14)

-- a Session Expiry Interval above 0 if CONNECT had 0 (3.14.2.2.2)
abbrev pub is_late_expiry : Option ℕ → ℕ → Bool
is_late_expiry None expiry = false
is_late_expiry (Some n) expiry = nat_lt 0 n && nat_eq expiry 0

abbrev pub new_expiry : Option ℕ → Session → List Deed
new_expiry None s = []
new_expiry (Some n) s = At (whose s) (SetExpiry n) ∷ []

abbrev pub leave_by : Bool → Env → Line → Session → ℕ → Option ℕ → Act
leave_by true env l s code expiry b = drop_line env protocol_error l b
leave_by false env l s code expiry b =
    series (always (new_expiry expiry s) ∷ close env (not (nat_eq code normal_disconnection)) l ∷ []) b

abbrev pub on_disconnect : Env → Line → Session → ℕ → Option ℕ → Act
on_disconnect env l s code expiry b = leave_by (is_late_expiry expiry s.expiry) env l s code expiry b
