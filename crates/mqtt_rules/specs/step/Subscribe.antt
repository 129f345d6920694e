-- SUBSCRIBE and UNSUBSCRIBE, filter by filter (MQTT 5.0, 3.8 to 3.11).
use Rattle.std.specs.Prelude.{ℕ, suc, min, Bool, true, false, not, ◌&&◌, ◌||◌, List, [], ◌∷◌, ◌++◌, length, filter, find, map, flat_map, nat_lt, nat_le, bytes_eq, Option, Some, None}
use Rattle.std.specs.List.{list_any}
use Rattle.mqtt_base.specs.declared.session.Cause.TheVariants.{Retained as RetainedBy}
use Rattle.mqtt_base.specs.declared.session.RetainHandling.{RetainHandling}
use Rattle.mqtt_base.specs.declared.session.RetainHandling.TheVariants.{SendAlways, SendIfNew, DoNotSend}
use Rattle.mqtt_base.specs.declared.session.SubscriptionOptions.{SubscriptionOptions}
use Rattle.mqtt_props.specs.declared.table.PropName.TheVariants.{SubscriptionIdentifier}
use Rattle.mqtt_packet.specs.declared.subscribe.subscribe.Subscribe.{Subscribe}
use Rattle.mqtt_packet.specs.declared.subscribe.unsubscribe.Unsubscribe.{Unsubscribe}
use Rattle.mqtt_packet.specs.subscribe.Subscriptions.{Subscription as Asked}
use Rattle.mqtt_packet.specs.subscribe.Options.{options_of}
use Rattle.mqtt_base.specs.Service.{qos_number}
use Rattle.mqtt_topic.specs.names.Filters.{is_filter, begins_share}
use Rattle.mqtt_routes.specs.declared.routing.retained.Kept.{Kept}
use Rattle.mqtt_routes.specs.routing.Retained.{kept_for}
use Rattle.mqtt_base.specs.Codes.{success, no_subscription_existed, topic_filter_invalid, identifier_in_use, quota_exceeded}
use Rattle.mqtt_flow.specs.inbound.Identifiers.{is_among}
use Rattle.mqtt_records.specs.declared.messages.message.MessageCopy.{MessageCopy}
use Rattle.mqtt_records.specs.declared.messages.message.RetainedMessage.{RetainedMessage}
use Rattle.mqtt_records.specs.declared.state.subscription.Subscription.{Subscription}
use Rattle.mqtt_base.specs.declared.limits.TheConstants.{SUBSCRIPTION_LIMIT}
use Rattle.mqtt_records.specs.declared.state.session.Session.{Session}
use Rattle.mqtt_records.specs.declared.state.records.Records.{Records}
use Rattle.mqtt_records.specs.messages.PassedOn.{number_at}
use Rattle.mqtt_rules.specs.step.Packets.{quality, is_expired, suback, unsuback}
use Rattle.mqtt_rules.specs.step.State.{Broker, Env, session_at, line_at}
use Rattle.mqtt_rules.specs.step.Fitting.{offer_copy}
use Rattle.mqtt_rules.specs.step.Deeds.{whose, Deed, Count, At, Act, after_all, always, series, offer}
use Rattle.mqtt_rules.specs.step.Deeds as deeds
use Rattle.mqtt_rules.specs.step.Outbound.{room}
use Rattle.mqtt_rules.specs.step.Routing.{CopyTo, is_queued, deliver}

-- ---- what the session has

abbrev pub is_to : List ℕ → Subscription → Bool
is_to text x = bytes_eq x.filter text

abbrev pub has_filter : List ℕ → Session → Bool
has_filter text s = list_any (is_to text) s.subscriptions

-- a filter that the session has keeps its place, a new one takes its number (3.8.4)
abbrev pub place_of : ℕ → Option Subscription → ℕ
place_of number None = number
place_of number (Some x) = x.place

abbrev pub place_among : ℕ → List ℕ → List Subscription → ℕ
place_among number text subs = place_of number (find (is_to text) subs)

-- ---- the retained messages that a filter brings (3.3.1.3, 3.8.3.1)

-- one filter of a SUBSCRIBE, with its options and the packet's Subscription Identifier
pub record Wish : Type 0 where
  pub filter : List ℕ
  pub options : SubscriptionOptions
  pub identifier : Option ℕ

abbrev pub wants_retained : RetainHandling → Bool → Bool
wants_retained SendAlways is_old = true
wants_retained SendIfNew is_old = not is_old
wants_retained DoNotSend is_old = false

-- as the table of retained messages sees it
abbrev pub kept_of : RetainedMessage → Kept RetainedMessage
kept_of k = record { topic = k.content.topic; message = k }

abbrev pub message_in : Kept RetainedMessage → RetainedMessage
message_in k = k.message

-- No Local bars one's own; an expired one isn't sent
abbrev pub is_brought : ℕ → Session → Wish → RetainedMessage → Bool
is_brought now s w k =
    not (w.options.no_local && bytes_eq s.client k.sender) && not (is_expired now k.content)

abbrev pub identifiers_of : Option ℕ → List ℕ
identifiers_of None = []
identifiers_of (Some n) = n ∷ []

abbrev pub retained_copy : ℕ → ℕ → Wish → RetainedMessage → MessageCopy
retained_copy birth number w k = record {
  id = record { publication = k.publication; birth = birth; cause = RetainedBy number };
  qos = quality (min (qos_number k.qos) (qos_number w.options.qos));
  retain = true;
  identifiers = identifiers_of w.identifier;
  content = k.content;
}

abbrev pub retained_copy_to : ℕ → ℕ → Wish → RetainedMessage → CopyTo
retained_copy_to birth number w k = record { birth = birth; copy = retained_copy birth number w k }

-- in the order in which their topics were first retained
abbrev pub brought_if : Bool → ℕ → ℕ → Session → Wish → List RetainedMessage → List CopyTo
brought_if false now number s w ks = []
brought_if true now number s w ks =
    map (retained_copy_to s.birth number w)
    (filter (is_brought now s w) (map message_in (kept_for w.filter (map kept_of ks))))

abbrev pub brought : ℕ → ℕ → Session → Wish → List RetainedMessage → List CopyTo
brought now number s w ks =
    brought_if (not (begins_share w.filter) && wants_retained w.options.retain_handling (has_filter w.filter s))
    now number s w ks

-- ---- one filter: its code, its deeds, and the copies that go out after the SUBACK

pub record FilterAnswer : Type 0 where
  pub code : ℕ
  pub deeds : List Deed
  pub late : List CopyTo

abbrev pub refused_filter : ℕ → FilterAnswer
refused_filter code = record { code = code; deeds = []; late = [] }

abbrev pub subscription : ℕ → Session → Wish → Subscription
subscription number s w = record {
  filter = w.filter;
  place = place_among number w.filter s.subscriptions;
  options = w.options;
  identifier = w.identifier;
}

abbrev pub granted_filter : Env → ℕ → Session → Wish → List CopyTo → Broker → FilterAnswer
granted_filter env number s w ds b = record {
  code = qos_number w.options.qos;
  deeds = series (
      always (Count number ∷ At (whose s) (deeds.Subscribe (subscription number s w)) ∷ [])
      ∷ map (deliver env) (filter is_queued ds)) b;
  late = filter (λ d. not (is_queued d)) ds;
}

-- a valid filter, and room for it and for its copies
abbrev pub answer_by : Bool → Bool → Env → ℕ → Session → Wish → List CopyTo → Broker → FilterAnswer
answer_by false has_room env number s w ds b = refused_filter topic_filter_invalid
answer_by true false env number s w ds b = refused_filter quota_exceeded
answer_by true true env number s w ds b = granted_filter env number s w ds b

abbrev pub next_number : Records → ℕ
next_number r = suc r.subscribes

abbrev pub filter_answer : Env → Wish → Broker → Session → FilterAnswer
filter_answer env w b s =
    let number = next_number b.records in
    let ds = brought b.now number s w b.records.retained in
    answer_by (is_filter w.filter)
    ((has_filter w.filter s || nat_lt (length s.subscriptions) SUBSCRIPTION_LIMIT)
    && nat_le (length (filter is_queued ds)) (room env s))
    env number s w ds b

abbrev pub filter_answer_of : Env → Option Wish → Broker → Option Session → FilterAnswer
filter_answer_of env w b None = refused_filter topic_filter_invalid
filter_answer_of env None b (Some s) = refused_filter topic_filter_invalid
filter_answer_of env (Some w) b (Some s) = filter_answer env w b s

-- options that no subscription has are no wish; the codec lets none through
abbrev pub wish_by : List ℕ → Option ℕ → Option SubscriptionOptions → Option Wish
wish_by filter identifier None = None
wish_by filter identifier (Some options) = Some (record { filter = filter; options = options; identifier = identifier })

abbrev pub wish_of : Option ℕ → Asked → Option Wish
wish_of identifier a = wish_by a.filter identifier (options_of a.options)

-- ---- all filters, each on what the ones before it left

pub record FilterAnswers : Type 0 where
  pub codes : List ℕ
  pub deeds : List Deed
  pub late : List CopyTo

abbrev pub before : FilterAnswer → FilterAnswers → FilterAnswers
before g a = record { codes = g.code ∷ a.codes; deeds = g.deeds ++ a.deeds; late = g.late ++ a.late }

abbrev pub filter_answers : Env → ℕ → Option ℕ → List Asked → Broker → FilterAnswers
filter_answers env birth identifier [] b = record { codes = []; deeds = []; late = [] }
filter_answers env birth identifier (a ∷ rest) b =
    let g = filter_answer_of env (wish_of identifier a) b (session_at birth b.records) in
    before g (filter_answers env birth identifier rest (after_all g.deeds b))

-- a copy of QoS 0 of a retained message, on what the ones before it left
abbrev pub late_send : ℕ → CopyTo → Act
late_send line d b = offer_copy (line_at line b) d.copy b

abbrev pub subscribe_by : Bool → Env → ℕ → Session → Subscribe → Act
subscribe_by true env line s p b =
    offer (line_at line b) (suback p.identifier (map (λ a. identifier_in_use) p.subscriptions))
subscribe_by false env line s p b =
    let a = filter_answers env s.birth (number_at SubscriptionIdentifier p.properties) p.subscriptions b in
    let told = a.deeds ++ offer (line_at line b) (suback p.identifier a.codes) in
    told ++ series (map (late_send line) a.late) (after_all told b)

-- an identifier that is open for a QoS 2 PUBLISH is in use (2.2.1)
abbrev pub on_subscribe : Env → ℕ → Session → Subscribe → Act
on_subscribe env line s p b = subscribe_by (is_among p.identifier s.inbound) env line s p b

-- ---- UNSUBSCRIBE (3.10, 3.11)

abbrev pub unsubscribes : Session → List ℕ → List Deed
unsubscribes s text = At (whose s) (deeds.Unsubscribe text) ∷ []

abbrev pub drop_code : Bool → Bool → ℕ
drop_code false there = topic_filter_invalid
drop_code true false = no_subscription_existed
drop_code true true = success

-- a filter that stands twice is gone at the second time
abbrev pub drop_codes : Session → List (List ℕ) → List (List ℕ) → List ℕ
drop_codes s seen [] = []
drop_codes s seen (f ∷ fs) =
    drop_code (is_filter f) (has_filter f s && not (list_any (bytes_eq f) seen)) ∷ drop_codes s (f ∷ seen) fs

abbrev pub unsubscribe_by : Bool → ℕ → Session → Unsubscribe → Act
unsubscribe_by true line s p b = offer (line_at line b) (unsuback p.identifier (map (λ f. identifier_in_use) p.filters))
unsubscribe_by false line s p b =
    flat_map (unsubscribes s) (filter (λ f. has_filter f s) p.filters)
    ++ offer (line_at line b) (unsuback p.identifier (drop_codes s [] p.filters))

abbrev pub on_unsubscribe : ℕ → Session → Unsubscribe → Act
on_unsubscribe line s p b = unsubscribe_by (is_among p.identifier s.inbound) line s p b
