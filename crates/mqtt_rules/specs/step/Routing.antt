-- What becomes of a publication: its copies, whether it is accepted, and what it does (MQTT 5.0, 3.3.1.3, 3.3.4, 4.8).
use Rattle.std.specs.Prelude.{ℕ, suc, Bool, true, false, not, ◌&&◌, ◌||◌, List, [], ◌∷◌, ◌++◌, length, map, flat_map, find, nat_lt, bytes_eq, Option, Some, None, option_map, is_some}
use Rattle.mqtt_base.specs.declared.session.Qos.{Qos}
use Rattle.mqtt_base.specs.declared.session.Qos.TheVariants as qos
use Rattle.mqtt_base.specs.declared.session.Cause.{Cause}
use Rattle.mqtt_base.specs.declared.session.Cause.TheVariants.{Direct, Share}
use Rattle.mqtt_base.specs.Service.{qos_number}
use Rattle.mqtt_topic.specs.names.Names.{is_empty}
use Rattle.mqtt_routes.specs.declared.routing.subscription.Subscription.{Subscription as RoutedSubscription}
use Rattle.mqtt_routes.specs.routing.Subscriptions.{Subscriber}
use Rattle.mqtt_routes.specs.routing.Intended.{Publication, Answers, Copy, published}
use Rattle.mqtt_routes.specs.routing.Intended as intended
use Rattle.mqtt_routes.specs.routing.Acceptance.{Served, Routed, copies_in}
use Rattle.mqtt_routes.specs.routing.Acceptance as acceptance
use Rattle.mqtt_records.specs.declared.messages.message.MessageCopy.{MessageCopy}
use Rattle.mqtt_records.specs.declared.messages.message.RetainedMessage.{RetainedMessage}
use Rattle.mqtt_records.specs.declared.state.subscription.Subscription.{Subscription}
use Rattle.mqtt_records.specs.declared.state.session.Session.{Session}
use Rattle.mqtt_records.specs.declared.state.records.Records.{Records}
use Rattle.mqtt_records.specs.state.Records.{kept_place}
use Rattle.mqtt_rules.specs.step.Packets.{quality}
use Rattle.mqtt_rules.specs.step.State.{Broker, Env, session_at, is_connected, line_of, next_of}
use Rattle.mqtt_rules.specs.step.Deeds.{Message, Origin, Deed, Accept, Keep, Forget, Act, always, series, of_session}
use Rattle.mqtt_rules.specs.step.Fitting.{offer_copy}
use Rattle.mqtt_rules.specs.step.Outbound.{room_at, enter_deeds}

-- ---- the state as routing sees it

abbrev pub routed_subscription : Subscription → RoutedSubscription
routed_subscription s = record {
  filter = s.filter;
  place = s.place;
  options = s.options;
  identifier = s.identifier;
}

abbrev pub subscriber_of : Session → Subscriber
subscriber_of s = record { birth = s.birth; subs = map routed_subscription s.subscriptions }

abbrev pub subscribers : Records → List Subscriber
subscribers r = map subscriber_of r.sessions

abbrev pub publication_of : Message → Publication
publication_of m = published m.sender m.topic (qos_number m.qos) m.retain

abbrev pub is_there : Option Session → (Session → Bool) → Bool
is_there None test = false
is_there (Some s) test = test s

abbrev pub answers : Env → Records → Answers
answers env r = record {
  room = λ birth. room_at env (session_at birth r);
  is_connected = λ birth. is_there (session_at birth r) is_connected;
  is_named = λ birth client. is_there (session_at birth r) (λ s. bytes_eq s.client client);
}

-- ---- acceptance

abbrev pub is_topic : List ℕ → RetainedMessage → Bool
is_topic topic k = bytes_eq k.content.topic topic

abbrev pub retained_of : List ℕ → Records → Option RetainedMessage
retained_of topic r = find (is_topic topic) r.retained

-- a message that is to be retained finds a place (ours)
abbrev pub finds_place : Env → Message → Records → Bool
finds_place env m r =
    not (m.retain && not (is_empty m.payload))
    || (is_some (retained_of m.topic r) || nat_lt (length r.retained) env.limits.retained)

-- a copy and the session that it is for
pub record CopyTo : Type 0 where
  pub birth : ℕ
  pub copy : MessageCopy

abbrev pub copy_to : ℕ → ℕ → Message → Cause → Copy → CopyTo
copy_to number now m cause c = record {
  birth = c.birth;
  copy = record {
    id = record { publication = number; birth = c.birth; cause = cause };
    qos = quality c.qos;
    retain = c.retain;
    identifiers = c.identifiers;
    content = record { topic = m.topic; properties = m.properties; payload = m.payload; arrived = now };
  };
}

abbrev pub served_copies_to : ℕ → ℕ → Message → Served → List CopyTo
served_copies_to number now m s = map (copy_to number now m (Share s.group)) (copies_in s.copy)

abbrev pub copies_to : ℕ → ℕ → Message → Routed → List CopyTo
copies_to number now m r =
    map (copy_to number now m Direct) r.direct ++ flat_map (served_copies_to number now m) r.served

abbrev pub next_publication : Records → ℕ
next_publication r = suc r.publications

abbrev pub routing_of : Env → Message → Records → Option Routed
routing_of env m r =
    acceptance.routed (answers env r) (publication_of m) (env.choice (next_publication r) m.sender) (subscribers r)

abbrev pub accepted_if : Bool → Option (List CopyTo) → Option (List CopyTo)
accepted_if true ds = ds
accepted_if false ds = None

-- the copies of a publication, if it is accepted
abbrev pub accepted_copies : Env → Message → Broker → Option (List CopyTo)
accepted_copies env m b =
    accepted_if (finds_place env m b.records)
    (option_map (copies_to (next_publication b.records) b.now m) (routing_of env m b.records))

-- somebody is there for it
abbrev pub is_wanted : Env → Message → Records → Bool
is_wanted env m r = intended.is_wanted (answers env r) (publication_of m) (subscribers r)

-- ---- what an accepted publication does

abbrev pub is_queued_at : Qos → Bool
is_queued_at qos.AtMostOnce = false
is_queued_at qos.AtLeastOnce = true
is_queued_at qos.ExactlyOnce = true

abbrev pub is_queued : CopyTo → Bool
is_queued d = is_queued_at d.copy.qos

-- a copy of QoS 1 or 2 enters the queue, one of QoS 0 goes out at once, if its session is connected
abbrev pub deliver_by : Bool → Env → CopyTo → Act
deliver_by true env d b = of_session d.birth (λ s. always (enter_deeds env d.copy s)) b
deliver_by false env d b = offer_copy (line_of d.birth b) d.copy b

abbrev pub deliver : Env → CopyTo → Act
deliver env d b = deliver_by (is_queued d) env d b

-- the message retained for a topic, in the place of the one before it (3.3.1.3)
abbrev pub place_of_kept : Option RetainedMessage → List RetainedMessage → ℕ
place_of_kept None ks = next_of kept_place ks
place_of_kept (Some k) ks = k.place

abbrev pub kept_message : ℕ → ℕ → Message → ℕ → RetainedMessage
kept_message number now m place = record {
  place = place;
  sender = m.sender;
  publication = number;
  qos = m.qos;
  content = record { topic = m.topic; properties = m.properties; payload = m.payload; arrived = now };
}

abbrev pub forgets : Option RetainedMessage → List Deed
forgets None = []
forgets (Some k) = Forget k.place ∷ []

-- what RETAIN 1 does: an empty message removes the topic's, any other replaces it (3.3.1.3)
abbrev pub retain_by : Bool → Bool → ℕ → Message → Act
retain_by false empty number m b = []
retain_by true true number m b = forgets (retained_of m.topic b.records)
retain_by true false number m b =
    Keep (kept_message number b.now m (place_of_kept (retained_of m.topic b.records) b.records.retained)) ∷ []

abbrev pub publish : Env → Origin → Message → List CopyTo → Act
publish env origin m ds b =
    let number = next_publication b.records in
    series (
    always (Accept number origin m ∷ [])
    ∷ retain_by m.retain (is_empty m.payload) number m
    ∷ map (deliver env) ds) b
