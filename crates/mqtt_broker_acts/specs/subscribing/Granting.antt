-- One filter of a SUBSCRIBE: the messages that it brings, the room for their copies, and its answer (MQTT 5.0, 3.3.1.3, 3.8.4, 3.9.3).
use Rattle.std.specs.Prelude.{◌≡◌, ◌≤◌, ℕ, Bool, true, false, not, cond, ◌&&◌, ◌||◌, List, [], length, filter, map, nat_lt, nat_le, Option, Some}
use Rattle.mqtt_base.specs.declared.limits.TheConstants.{SUBSCRIPTION_LIMIT}
use Rattle.mqtt_base.specs.declared.session.SubscriptionOptions.{SubscriptionOptions}
use Rattle.mqtt_records.specs.declared.messages.message.MessageCopy.{MessageCopy}
use Rattle.mqtt_records.specs.declared.messages.message.RetainedMessage.{RetainedMessage}
use Rattle.mqtt_records.specs.declared.state.session.Session.{Session}
use Rattle.mqtt_routes.specs.routing.Retained.{kept_for}
use Rattle.mqtt_topic.specs.names.Filters.{begins_share}
use Rattle.mqtt_rules.specs.step.State.{Broker, Env, MemberChoice, session_at}
use Rattle.mqtt_rules.specs.step.Deeds.{Act}
use Rattle.mqtt_rules.specs.step.Outbound.{room}
use Rattle.mqtt_rules.specs.step.Routing.{is_queued_at}
use Rattle.mqtt_rules.specs.step.Subscribe.{Wish, FilterAnswer, has_filter, is_brought, kept_of, message_in, wants_retained, retained_copy, retained_copy_to, next_number, granted_filter, filter_answer_of}
use Rattle.mqtt_broker_step.specs.Stepping.{Stepping, env_in}

-- a filter with its options and its Subscription Identifier
abbrev pub asked_for : List ℕ → SubscriptionOptions → Option ℕ → Wish
asked_for text options identifier = record { filter = text; options = options; identifier = identifier }

-- a shared filter brings none, nor one that doesn't ask for them
abbrev pub asks_retained : Session → Wish → Bool
asks_retained s w = not (begins_share w.filter) && wants_retained w.options.retain_handling (has_filter w.filter s)

-- the messages of which copies are made
abbrev pub messages : ℕ → Session → Wish → List RetainedMessage → List RetainedMessage
messages now s w ks = cond (asks_retained s w) (filter (is_brought now s w) (map message_in (kept_for w.filter (map kept_of ks)))) []

-- those copies that enter the queue, or those that go out after the SUBACK
abbrev pub is_chosen : Bool → MessageCopy → Bool
is_chosen true copy = is_queued_at copy.qos
is_chosen false copy = not (is_queued_at copy.qos)

abbrev pub chosen : Bool → ℕ → ℕ → Wish → List RetainedMessage → List MessageCopy
chosen queued birth number w ks = filter (is_chosen queued) (map (retained_copy birth number w) ks)

-- the session has the filter or may have one more
abbrev pub has_place : Session → Wish → Bool
has_place s w = has_filter w.filter s || nat_lt (length s.subscriptions) SUBSCRIPTION_LIMIT

-- and its queue, which has room for so many copies, takes those that enter it
abbrev pub has_room : ℕ → Session → Wish → List MessageCopy → Bool
has_room left s w copies = has_place s w && nat_le (length copies) left

-- the session stands, and its queue takes those copies that enter it
pub record FindsRoom (birth : ℕ) (w : Wish) (ks : List RetainedMessage) (s : Stepping) : Type 0 where
  pub session : Session
  pub found : session_at birth s.broker.records ≡ Some session
  pub fits : (choice : MemberChoice) → length (chosen true birth (next_number s.broker.records) w ks) ≤ room (env_in choice s) session

-- the deeds of a filter that is granted
abbrev pub grants : Session → Wish → List RetainedMessage → Env → Act
grants s w ks env b =
    let number = next_number b.records in
    (granted_filter env number s w (map (retained_copy_to s.birth number w) ks) b).deeds

-- what becomes of a filter
abbrev pub answer_at : ℕ → Wish → Env → Broker → FilterAnswer
answer_at birth w env b = filter_answer_of env (Some w) b (session_at birth b.records)

abbrev pub answers : ℕ → Wish → Env → Act
answers birth w env b = (answer_at birth w env b).deeds
