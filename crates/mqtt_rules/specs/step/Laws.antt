-- What the laws of a step speak of: tables in order and within their limits, and runs of calls.
use Rattle.std.specs.Prelude.{◌≡◌, ℕ, suc, ◌≤◌, ◌⊎◌, Bool, true, false, ◌&&◌, nat_eq, Option, Some, option_map, decimal, List, [], ◌∷◌, ◌++◌, length}
use Rattle.mqtt_topic.specs.names.Filters.{group_of}
use Rattle.mqtt_routes.specs.routing.Intended.{Publication, Member}
use Rattle.mqtt_routes.specs.routing.Acceptance.{Served, shared_copy}
use Rattle.std.specs.List.{AllByRecursion, starts_with}
use Rattle.mqtt_base.specs.declared.limits.TheConstants.{LINES_UNASKED, SUBSCRIPTION_LIMIT, OPEN_LIMIT, QUEUE_LIMIT, SESSION_LIMIT, RETAINED_LIMIT}
use Rattle.mqtt_records.specs.declared.state.session.Session.{Session}
use Rattle.mqtt_records.specs.declared.state.records.Records.{Records}
use Rattle.mqtt_records.specs.declared.messages.message.RetainedMessage.{RetainedMessage}
use Rattle.mqtt_records.specs.lists.Order.{IsTable, row_at}
use Rattle.mqtt_records.specs.state.Session.{birth_of, place_of, number_of, copy_place, auto}
use Rattle.mqtt_records.specs.state.Records.{kept_place, nothing, IsNumber, IsMoment}
use Rattle.mqtt_rules.specs.declared.step.Capacity.{Capacity}
use Rattle.mqtt_rules.specs.declared.step.Limits.{Limits}
use Rattle.mqtt_rules.specs.step.State.{Broker, Env, stored, session_at, MemberChoice}
use Rattle.mqtt_rules.specs.step.Numbers.{HasGivenBirths}
use Rattle.mqtt_rules.specs.step.Outbound.{room}
use Rattle.mqtt_rules.specs.step.Routing.{CopyTo, is_queued}
use Rattle.mqtt_rules.specs.step.Step.{Call, stepped, unopened, opened}

-- ---- tables in order

-- what a session has: its open identifiers, its subscriptions by place, and its queue by place
pub record HasTables (s : Session) : Type 0 where
  pub inbound : IsTable number_of OPEN_LIMIT s.inbound
  pub subscriptions : IsTable place_of SUBSCRIPTION_LIMIT s.subscriptions
  pub queue : IsTable copy_place QUEUE_LIMIT s.queue

-- the sessions by birth, what each has, and the retained messages by place
pub record IsOrdered (r : Records) : Type 0 where
  pub sessions : IsTable birth_of SESSION_LIMIT r.sessions
  pub each : AllByRecursion HasTables r.sessions
  pub retained : IsTable kept_place RETAINED_LIMIT r.retained

-- ---- open identifiers

-- at most so many as CONNACK's Receive Maximum tells (4.9)
abbrev pub HasFewOpen : Session → Type 0
HasFewOpen s = length s.inbound ≤ OPEN_LIMIT

abbrev pub FewOpen : Records → Type 0
FewOpen r = AllByRecursion HasFewOpen r.sessions

-- ---- queues

-- each queue has at most so many copies
abbrev pub QueuesWithin : ℕ → Records → Type 0
QueuesWithin limit r = AllByRecursion (λ s. length s.queue ≤ limit) r.sessions

-- ---- runs

-- a call, or that a broker opens what was stored, each with its moment and with any limits and choice of members
pub data Event : Type 0 where
  Asked : (limits : Capacity) (choice : MemberChoice) (now : ℕ) (call : Call) → Event
  Reopened : (limits : Capacity) (choice : MemberChoice) (now : ℕ) → Event

abbrev pub after_event : Event → Broker → Broker
after_event (Asked limits choice now call) b = stepped limits choice now call b
after_event (Reopened limits choice now) b = opened limits choice now (stored b)

abbrev pub after_events : List Event → Broker → Broker
after_events [] b = b
after_events (e ∷ es) b = after_events es (after_event e b)

-- before the first event
abbrev pub blank : Broker
blank = unopened 0 nothing

-- ---- groups

-- the element stands in the list
abbrev pub IsAmong : {X : Type 0} → X → List X → Type 0
IsAmong x [] = ⊥
IsAmong x (y ∷ ys) = (y ≡ x) ⊎ IsAmong x ys

-- the group is served by a copy for this member
abbrev pub served_by : Publication → List ℕ → Member → Served
served_by p text m = record { group = group_of text; copy = Some (shared_copy p m) }

-- ---- room for copies

-- a copy that enters this session's queue
abbrev pub is_entering : ℕ → CopyTo → Bool
is_entering birth c = is_queued c && nat_eq c.birth birth

-- what a copy's entering makes: its session's queue is within the limit, and has room for at most one copy less; no other
-- session is changed
pub record HasEntered (env : Env) (s : Session) (old new : Records) : Type 0 where
  pub session : Session
  pub stands : session_at s.birth new ≡ Some session
  pub within : length session.queue ≤ env.limits.queue
  pub room : room env s ≤ suc (room env session)
  pub others : (birth : ℕ) → nat_eq s.birth birth ≡ false → session_at birth new ≡ session_at birth old

-- ---- what stands together

-- nothing is found at two numbers
abbrev pub IsUnique : {X : Type 0} → (ℕ → Option X) → Type 0
IsUnique {X} found = (j k : ℕ) (x : X) → found j ≡ Some x → found k ≡ Some x → j ≡ k

-- the client identifier of the session with a birth, and the topic retained at a place
abbrev pub client_at : ℕ → Records → Option (List ℕ)
client_at birth r = option_map (λ s. s.client) (session_at birth r)

abbrev pub topic_at : ℕ → Records → Option (List ℕ)
topic_at place r = option_map (λ k. k.content.topic) (row_at kept_place place r.retained)

-- a client identifier with the front of those that the broker assigns is one that it assigned, with a number up to n
abbrev pub IsAssignedUpTo : ℕ → List ℕ → Type 0
IsAssignedUpTo n client = starts_with nat_eq client auto ≡ true → (k : ℕ) × (k ≤ n) × (client ≡ auto ++ decimal k)

-- no subscription has a place above the last number granted, and the moment of a close is one that is kept
abbrev pub IsCoherentSession : ℕ → ℕ → Session → Type 0
IsCoherentSession autos subscribes s =
    IsAssignedUpTo autos s.client × AllByRecursion (λ x. x.place ≤ subscribes) s.subscriptions × IsMoment s.closed

-- a retained message is of a publication up to the last, and its arrival is a moment that is kept
abbrev pub IsCoherentMessage : ℕ → RetainedMessage → Type 0
IsCoherentMessage publications k = (k.publication ≤ publications) × IsNumber k.content.arrived

pub record HasKeptCounters (r : Records) : Type 0 where
  pub moment : IsNumber r.moment
  pub births : IsNumber r.births
  pub publications : IsNumber r.publications
  pub subscribes : IsNumber r.subscribes
  pub autos : IsNumber r.autos

-- tables in order, client identifiers of sessions and topics of retained messages that differ, and numbers that were given
pub record IsCoherent (r : Records) : Type 0 where
  pub ordered : IsOrdered r
  pub clients : IsUnique (λ birth. client_at birth r)
  pub topics : IsUnique (λ place. topic_at place r)
  pub births : HasGivenBirths r
  pub sessions : AllByRecursion (IsCoherentSession r.autos r.subscribes) r.sessions
  pub retained : AllByRecursion (IsCoherentMessage r.publications) r.retained
  pub counters : HasKeptCounters r

-- what a broker holds that is asked for these limits and so many lines
abbrev pub sized : ℕ → Limits → Capacity
sized lines asked = record {
  full = asked.full;
  queue = asked.queue;
  sessions = asked.sessions;
  retained = asked.retained;
  lines = lines;
}

-- and where no number of lines is asked for
abbrev pub unasked : Limits → Capacity
unasked asked = sized LINES_UNASKED asked

-- the limits that a broker is given are within those of the tables
pub record AreWithin (limits : Capacity) : Type 0 where
  pub queue : limits.queue ≤ QUEUE_LIMIT
  pub sessions : limits.sessions ≤ SESSION_LIMIT
  pub retained : limits.retained ≤ RETAINED_LIMIT
