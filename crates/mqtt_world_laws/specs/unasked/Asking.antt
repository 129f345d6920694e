-- What a session asks for by its subscriptions, and which copies they call for (MQTT 5.0, 3.3.1.3, 3.3.4, 3.8.3.1, 3.8.4, 4.7, 4.8.2).
use Rattle.std.specs.Prelude.{◌≡◌, ◌⊎◌, ◌≤◌, ℕ, ⊤, true, false, List, bytes_eq, Some}
use Rattle.std.specs.List.{AllByRecursion}
use Rattle.mqtt_base.specs.Service.{qos_number}
use Rattle.mqtt_base.specs.declared.session.Cause.{Cause}
use Rattle.mqtt_base.specs.declared.session.Cause.TheVariants.{Direct, Share, Retained}
use Rattle.mqtt_base.specs.declared.session.Qos.{Qos}
use Rattle.mqtt_base.specs.declared.session.RetainHandling.{RetainHandling}
use Rattle.mqtt_base.specs.declared.session.RetainHandling.TheVariants.{SendAlways, SendIfNew, DoNotSend}
use Rattle.mqtt_topic.specs.names.Filters.{begins_share, group_of, matching_part_of}
use Rattle.mqtt_topic.specs.names.Matching.{is_match}
use Rattle.mqtt_records.specs.declared.messages.message.MessageCopy.{MessageCopy}
use Rattle.mqtt_records.specs.declared.messages.message.RetainedMessage.{RetainedMessage}
use Rattle.mqtt_records.specs.declared.state.records.Records.{Records}
use Rattle.mqtt_records.specs.declared.state.session.Session.{Session}
use Rattle.mqtt_records.specs.declared.state.subscription.Subscription.{Subscription}
use Rattle.mqtt_rules.specs.step.Deeds.{Message, Origin, Accept, At, Subscribe, Whose}
use Rattle.mqtt_rules.specs.step.Laws.{IsAmong}
use Rattle.mqtt_rules.specs.step.State.{session_at}
use Rattle.mqtt_world_laws.specs.acceptance.Entries.{Moment}

-- ---- one subscription, and one message

-- A client's subscription covers a message at a QoS: its filter matches the topic, of a shared one the part behind the group's name
-- (4.7, 4.8.2); No Local doesn't bar the message, as it does the client's own (3.8.3.1; a shared one has no No Local); and the QoS is
-- at most the message's, and at most the one that was granted (3.8.4)
pub record CoversMessage (client : List ℕ) (m : Message) (qos : Qos) (x : Subscription) : Type 0 where
  pub matches : is_match (matching_part_of x.filter) m.topic ≡ true
  pub foreign : begins_share x.filter ≡ false → x.options.no_local ≡ true → bytes_eq client m.sender ≡ false
  pub published : qos_number qos ≤ qos_number m.qos
  pub granted : qos_number qos ≤ qos_number x.options.qos

-- the copy carries the message
pub record CopiesMessage (m : Message) (copy : MessageCopy) : Type 0 where
  pub topic : copy.content.topic ≡ m.topic
  pub payload : copy.content.payload ≡ m.payload

-- ---- a publication: of whom it is accepted, its subscribers get a copy (3.3.4)

-- by the cause of the copy the subscription is the client's own, or one to the group (4.8.2)
abbrev pub IsCauseFor : Cause → List ℕ → Type 0
IsCauseFor Direct filter = begins_share filter ≡ false
IsCauseFor (Share group) filter = (begins_share filter ≡ true) × (group_of filter ≡ group)
IsCauseFor (Retained subscribe) filter = ⊥

-- the session of a birth stands, and has a subscription for the copy that covers the message
pub record HeldSubscription (birth : ℕ) (m : Message) (copy : MessageCopy) (r : Records) : Type 0 where
  pub session : Session
  pub stands : session_at birth r ≡ Some session
  pub subscription : Subscription
  pub subscribed : IsAmong subscription session.subscriptions
  pub cause : IsCauseFor copy.id.cause subscription.filter
  pub covers : CoversMessage session.client m copy.qos subscription

-- among these deeds is one that accepts a publication; the copy is of it, and its session held a subscription for it at that moment
pub record OfPublication (ms : List Moment) (birth : ℕ) (copy : MessageCopy) : Type 0 where
  pub moment : Moment
  pub among : IsAmong moment ms
  pub number : ℕ
  pub origin : Origin
  pub message : Message
  pub accepts : moment.deed ≡ Accept number origin message
  pub numbered : copy.id.publication ≡ number
  pub carries : CopiesMessage message copy
  pub held : HeldSubscription birth message copy moment.broker.records

-- ---- a retained message: a SUBSCRIBE brings it, as Retain Handling says (3.3.1.3)

-- a retained message, as it was published
abbrev pub message_retained : RetainedMessage → Message
message_retained k = record {
  sender = k.sender;
  topic = k.content.topic;
  qos = k.qos;
  retain = true;
  properties = k.content.properties;
  payload = k.content.payload;
}

-- Retain Handling 0 asks for retained messages; 1 does if the session has no subscription to the filter; 2 doesn't (3.8.3.1)
abbrev pub WantsRetained : RetainHandling → List ℕ → Session → Type 0
WantsRetained SendAlways filter s = ⊤
WantsRetained SendIfNew filter s = AllByRecursion (λ (y : Subscription). bytes_eq y.filter filter ≡ false) s.subscriptions
WantsRetained DoNotSend filter s = ⊥

-- among these deeds is one that grants the session a subscription of its own; the copy is of a message that was retained at that
-- moment, which the subscription covers and wants
pub record OfSubscribe (ms : List Moment) (birth : ℕ) (copy : MessageCopy) : Type 0 where
  pub moment : Moment
  pub among : IsAmong moment ms
  pub who : Whose
  pub its : who.birth ≡ birth
  pub subscription : Subscription
  pub grants : moment.deed ≡ At who (Subscribe subscription)
  pub own : begins_share subscription.filter ≡ false
  pub session : Session
  pub stands : session_at birth moment.broker.records ≡ Some session
  pub wants : WantsRetained subscription.options.retain_handling subscription.filter session
  pub kept : RetainedMessage
  pub retained : IsAmong kept moment.broker.records.retained
  pub numbered : copy.id.publication ≡ kept.publication
  pub carries : CopiesMessage (message_retained kept) copy
  pub covers : CoversMessage session.client (message_retained kept) copy.qos subscription

-- the copy was called for in these deeds, by its session: by what it held, or by what it was granted
abbrev pub WasCalledFor : List Moment → ℕ → MessageCopy → Type 0
WasCalledFor ms birth copy = OfPublication ms birth copy ⊎ OfSubscribe ms birth copy
