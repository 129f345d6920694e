-- How an index of subscriptions goes along with the rows of a step (MQTT 5.0, 3.1.2.11.2, 3.8.4, 3.10.4).
use Rattle.std.specs.Prelude.{◌≡◌, ⊤, ℕ, ◌<◌, true, false, IsTrue, List, [], ◌∷◌, length}
use Rattle.std.specs.List.{AllByRecursion}
use Rattle.mqtt_base.specs.declared.limits.TheConstants.{SUBSCRIPTION_LIMIT}
use Rattle.mqtt_records.specs.state.Records.{HasSession, changed}
use Rattle.mqtt_records.specs.state.Session.{place_of, without_filter}
use Rattle.mqtt_records.specs.declared.state.change.Change.{Change}
use Rattle.mqtt_records.specs.declared.state.change.Change.TheVariants.{PutSubscription, RemoveSubscription, RemoveSession}
use Rattle.mqtt_records.specs.declared.state.records.Records.{Records}
use Rattle.mqtt_records.specs.declared.state.session.Session.{Session}
use Rattle.mqtt_records.specs.declared.state.subscription.Subscription.{Subscription}
use Rattle.mqtt_topic.specs.names.Filters.{is_filter}
use Rattle.mqtt_routes.specs.routing.Subscriptions.{Subscriber, subs_of, subscribed, takes_filter, unsubscribed, without_session}
use Rattle.mqtt_records.specs.lists.Order.{IsBelow}
use Rattle.mqtt_rules.specs.step.Contents.{IsAskedFor}
use Rattle.mqtt_rules.specs.step.Laws.{IsOrdered}
use Rattle.mqtt_rules.specs.step.Routing.{routed_subscription}
use Rattle.mqtt_rules.specs.step.Subscribe.{has_filter, place_among}
use Rattle.mqtt_broker_step.specs.Subscribing.{HaveFiltersOnce}

-- ---- what is asked of records

-- its subscriptions are such as a SUBSCRIBE asks for: to filters, and Subscription Identifiers have a spelling (3.8.2.1.2)
abbrev pub HasAsked : Session → Type 0
HasAsked s = AllByRecursion IsAskedFor s.subscriptions

-- tables in order and within their limits, each filter once in a session, and such subscriptions
pub record CanBeIndexed (r : Records) : Type 0 where
  pub ordered : IsOrdered r
  pub filters : HaveFiltersOnce r
  pub asked : AllByRecursion HasAsked r.sessions

-- ---- what is asked of a row

-- a subscription for which there is room: one to a filter that the session has keeps its place, another comes last (3.8.4)
pub record IsGranted (x : Subscription) (s : Session) : Type 0 where
  pub place : place_among x.place x.filter s.subscriptions ≡ x.place
  pub last : has_filter x.filter s ≡ false → IsBelow place_of x.place s.subscriptions
  pub room : length (without_filter x.filter s.subscriptions) < SUBSCRIPTION_LIMIT

-- a row that an index can follow: only a subscription that is put has to be such as a grant makes it
abbrev pub CanBeFollowed : Change → Records → Type 0
CanBeFollowed (PutSubscription birth x) r = HasSession birth (IsGranted x) r × IsAskedFor x
CanBeFollowed change r = ⊤

-- each row on what the ones before it leave
abbrev pub CanAllBeFollowed : List Change → Records → Type 0
CanAllBeFollowed [] r = ⊤
CanAllBeFollowed (change ∷ changes) r = CanBeFollowed change r × CanAllBeFollowed changes (changed change r)

-- ---- what becomes of the index

-- by a row: subscriptions come and go, and a session that ends loses its own
abbrev pub followed : Change → List Subscriber → List Subscriber
followed (PutSubscription birth x) table = subscribed birth (routed_subscription x) table
followed (RemoveSubscription birth text) table = unsubscribed birth text table
followed (RemoveSession birth) table = without_session birth table
followed change table = table

abbrev pub followed_all : List Change → List Subscriber → List Subscriber
followed_all [] table = table
followed_all (change ∷ changes) table = followed_all changes (followed change table)

-- by subscriptions of a session, one after another
abbrev pub given : ℕ → List Subscription → List Subscriber → List Subscriber
given birth [] table = table
given birth (x ∷ xs) table = given birth xs (subscribed birth (routed_subscription x) table)

-- by those of sessions
abbrev pub given_all : List Session → List Subscriber → List Subscriber
given_all [] table = table
given_all (s ∷ ss) table = given_all ss (given s.birth s.subscriptions table)

-- ---- what is asked of the index

-- a subscription that is put is to a filter, and there is room for it
pub record CanBePut (birth : ℕ) (x : Subscription) (table : List Subscriber) : Type 0 where
  pub filter : IsTrue (is_filter x.filter)
  pub room : takes_filter x.filter (subs_of birth table) ≡ true

-- by a row
abbrev pub CanGoAlong : Change → List Subscriber → Type 0
CanGoAlong (PutSubscription birth x) table = CanBePut birth x table
CanGoAlong change table = ⊤

-- by rows, one after another
abbrev pub CanGoAlongAll : List Change → List Subscriber → Type 0
CanGoAlongAll [] table = ⊤
CanGoAlongAll (change ∷ changes) table = CanGoAlong change table × CanGoAlongAll changes (followed change table)

-- of a session, one after another
abbrev pub CanBeGiven : ℕ → List Subscription → List Subscriber → Type 0
CanBeGiven birth [] table = ⊤
CanBeGiven birth (x ∷ xs) table = CanBePut birth x table × CanBeGiven birth xs (subscribed birth (routed_subscription x) table)

-- of sessions
abbrev pub CanAllBeGiven : List Session → List Subscriber → Type 0
CanAllBeGiven [] table = ⊤
CanAllBeGiven (s ∷ ss) table = CanBeGiven s.birth s.subscriptions table × CanAllBeGiven ss (given s.birth s.subscriptions table)
