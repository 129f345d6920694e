-- What is retained for a topic, and what a subscription brings of it: the last publication with RETAIN 1 (MQTT 5.0, 3.3.1.3, 3.3.2.3.3,
-- 3.8.3.1, 4.7, 4.8.2).
use Rattle.std.specs.Prelude.{◌≡◌, ⊤, ℕ, Bool, true, cond, not, ◌&&◌, List, [], ◌∷◌, bytes_eq, filter, flat_map, Option, Some, None, option_to_list}
use Rattle.std.specs.List.{last_or}
use Rattle.mqtt_topic.specs.names.Filters.{begins_share}
use Rattle.mqtt_topic.specs.names.Matching.{is_match}
use Rattle.mqtt_topic.specs.names.Names.{is_empty}
use Rattle.mqtt_records.specs.declared.messages.message.RetainedMessage.{RetainedMessage}
use Rattle.mqtt_records.specs.declared.state.records.Records.{Records}
use Rattle.mqtt_records.specs.declared.state.session.Session.{Session}
use Rattle.mqtt_records.specs.declared.state.subscription.Subscription.{Subscription}
use Rattle.mqtt_rules.specs.step.Deeds.{At, Deed, Subscribe}
use Rattle.mqtt_rules.specs.step.Packets.{is_expired}
use Rattle.mqtt_rules.specs.step.Routing.{CopyTo, is_topic, kept_message, retained_of}
use Rattle.mqtt_rules.specs.step.State.{Broker, session_at}
use Rattle.mqtt_rules.specs.step.Subscribe.{brought, has_filter, is_brought, retained_copy_to, wants_retained}
use Rattle.mqtt_world_model.specs.model.Run.{Acceptance, accepted_by}
use Rattle.mqtt_world_laws.specs.acceptance.Entries.{Moment, brought_in, wish_in}
use Rattle.mqtt_world_laws.specs.headline_in_forms.Reading.{Course, entered}
use Rattle.mqtt_world_laws.specs.unasked.Unasked.{moments_in}

-- ---- what was published last

-- a publication with RETAIN 1 to this topic
abbrev pub is_retained_for : List ℕ → Acceptance → Bool
is_retained_for topic a = a.message.retain && bytes_eq a.message.topic topic

-- the last of them, among those that were accepted
abbrev pub last_for : List ℕ → List Acceptance → Option Acceptance
last_for topic accepted = last_or None (filter (is_retained_for topic) accepted)

-- as a retained message, with the moment at which it was accepted; its place in the table isn't said here
abbrev pub as_retained : Acceptance → RetainedMessage
as_retained a = kept_message a.number a.broker.now a.message 0

-- an empty one leaves nothing to be retained, any other is (3.3.1.3); without one it is what was retained before
abbrev pub left_by : Option RetainedMessage → Option Acceptance → Option RetainedMessage
left_by before None = before
left_by before (Some a) = cond (is_empty a.message.payload) None (Some (as_retained a))

-- ---- what is retained

-- all that is retained for a topic
abbrev pub retained_for : List ℕ → Records → List RetainedMessage
retained_for topic r = filter (is_topic topic) r.retained

-- these are this message alone, in whatever place; or nothing, and it has expired by now (3.3.2.3.3)
abbrev pub IsAlone : RetainedMessage → ℕ → List RetainedMessage → Type 0
IsAlone last now [] = is_expired now last.content ≡ true
IsAlone last now (k ∷ []) = k ≡ record last { place = k.place }
IsAlone last now (k ∷ j ∷ ks) = ⊥

-- so they are what is to be retained
abbrev pub IsWhatIsLeft : Option RetainedMessage → ℕ → List RetainedMessage → Type 0
IsWhatIsLeft None now ks = ks ≡ []
IsWhatIsLeft (Some last) now ks = IsAlone last now ks

-- ---- what a subscription brings

-- A subscription asks for a retained message if it is no shared one, its Retain Handling says so, its filter matches the topic, No Local
-- doesn't bar the message, and it hasn't expired (3.3.1.3, 3.8.3.1, 4.7, 4.8.2)
abbrev pub asks_for : ℕ → Session → Subscription → RetainedMessage → Bool
asks_for now s x last =
    (not (begins_share x.filter) && wants_retained x.options.retain_handling (has_filter x.filter s))
    && (is_match x.filter last.content.topic && is_brought now s (wish_in x) last)

-- then one copy of it is due
abbrev pub due : ℕ → ℕ → Session → Subscription → Option RetainedMessage → List CopyTo
due now number s x None = []
due now number s x (Some last) = cond (asks_for now s x last) (retained_copy_to s.birth number (wish_in x) last ∷ []) []

-- the copies with this topic
abbrev pub copies_of : List ℕ → List CopyTo → List CopyTo
copies_of topic ds = filter (λ d. bytes_eq d.copy.content.topic topic) ds

-- a subscription that is granted brings of this topic what is due of it, and no more
abbrev pub BringsIts : List ℕ → Option RetainedMessage → Deed → Broker → Type 0
BringsIts topic last (At who (Subscribe x)) b = (s : Session) → session_at who.birth b.records ≡ Some s
    → copies_of topic (brought b.now b.records.subscribes s (wish_in x) b.records.retained) ≡ due b.now b.records.subscribes s x last
BringsIts topic last d b = ⊤

-- what is accepted at a moment
abbrev pub accepted_at : Moment → List Acceptance
accepted_at m = option_to_list (accepted_by m.env m.deed m.broker)

-- so it is at each of these moments, by the last that was accepted before it
abbrev pub EachBringsIts : List ℕ → Option RetainedMessage → Option Acceptance → List Moment → Type 0
EachBringsIts topic before last [] = ⊤
EachBringsIts topic before last (m ∷ ms) =
    BringsIts topic (left_by before last) m.deed m.broker
    × EachBringsIts topic before (last_or last (filter (is_retained_for topic) (accepted_at m))) ms

-- ---- over a run

-- each deed, on the state on which it comes
abbrev pub moments_over : Course → List Moment
moments_over c = flat_map moments_in c.asked

-- For each topic: what is retained at the end is what was published last, or what was retained at the beginning; and each subscription
-- brought what was published last by then. Of QoS 1 and 2 exactly these copies, and those of publications, entered queues, each once
pub record RetainsTheLast (c : Course) : Type 0 where
  pub retained : (topic : List ℕ)
      → IsWhatIsLeft (left_by (retained_of topic c.begin.records) (last_for topic c.acceptances)) c.end.now (retained_for topic c.end.records)
  pub brought : (topic : List ℕ) → EachBringsIts topic (retained_of topic c.begin.records) None (moments_over c)
  pub entering : entered c ≡ flat_map brought_in c.steps
