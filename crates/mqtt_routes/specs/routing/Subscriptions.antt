-- The subscriptions of sessions (MQTT 5.0, 3.8).
use Rattle.std.specs.Prelude.{◌≡◌, ⊤, ℕ, suc, ◌<◌, Bool, false, cond, ◌||◌, List, [], ◌∷◌, length, map, nat_eq, nat_lt, nat_le, bytes_eq}
use Rattle.std.specs.List.{list_any}
use Rattle.mqtt_routes.specs.declared.routing.fault.RoutesFault.{RoutesFault}
use Rattle.mqtt_routes.specs.declared.routing.fault.RoutesFault.TheVariants.{Full, Memory}
use Rattle.mqtt_base.specs.declared.limits.TheConstants.{SUBSCRIPTION_LIMIT}
use Rattle.mqtt_routes.specs.declared.routing.subscription.Subscription.{Subscription}

-- a session with its subscriptions, in the order subscribed
pub record Subscriber : Type 0 where
  pub birth : ℕ
  pub subs : List Subscription

-- the subscription is to this filter
abbrev pub is_to : List ℕ → Subscription → Bool
is_to text s = bytes_eq s.filter text

-- a session has a subscription to this filter
abbrev pub has_filter : List ℕ → List Subscription → Bool
has_filter text subs = list_any (is_to text) subs

-- a subscription replaces the one to the same filter and takes its place, or comes last (3.8.4)
abbrev pub put : Subscription → List Subscription → List Subscription
put new [] = new ∷ []
put new (s ∷ ss) = cond (is_to new.filter s) (record new { place = s.place } ∷ ss) (s ∷ put new ss)

-- no subscription to this filter (3.10.4)
abbrev pub without : List ℕ → List Subscription → List Subscription
without text [] = []
without text (s ∷ ss) = cond (is_to text s) ss (s ∷ without text ss)

-- a subscription to this filter finds a place: it replaces one, or fewer than the limit stand
abbrev pub takes_filter : List ℕ → List Subscription → Bool
takes_filter text subs = has_filter text subs || nat_lt (length subs) SUBSCRIPTION_LIMIT

-- why a subscription isn't put: only a new one is refused
abbrev pub RefusesPut : Subscription → List Subscription → RoutesFault → Type 0
RefusesPut new subs Full = (has_filter new.filter subs ≡ false) × (length subs ≡ SUBSCRIPTION_LIMIT)
RefusesPut new subs Memory = (has_filter new.filter subs ≡ false) × (length subs < SUBSCRIPTION_LIMIT)

-- ---- sessions, in the order of their births

abbrev pub subscriber : ℕ → List Subscription → Subscriber
subscriber birth subs = record { birth = birth; subs = subs }

-- subscriptions of a session as they are held, and how many further ones take no memory
pub record Held : Type 0 where
  pub subs : List Subscription
  pub room : ℕ

-- sessions as a map from births has them
abbrev pub subscribers : List (ℕ × Held) → List Subscriber
subscribers [] = []
subscribers (e ∷ es) = subscriber e.0 e.1.subs ∷ subscribers es

-- each was born before those after it
abbrev pub AreAfter : ℕ → List Subscriber → Type 0
AreAfter birth [] = ⊤
AreAfter birth (x ∷ xs) = (birth < x.birth) × AreAfter birth xs

abbrev pub AreInOrder : List Subscriber → Type 0
AreInOrder [] = ⊤
AreInOrder (x ∷ xs) = AreAfter x.birth xs × AreInOrder xs

-- where a session of this birth stands, or would stand
abbrev pub spot_of : ℕ → List Subscriber → ℕ
spot_of birth [] = 0
spot_of birth (x ∷ xs) = cond (nat_lt x.birth birth) (suc (spot_of birth xs)) 0

-- the subscriptions of a session
abbrev pub subs_of : ℕ → List Subscriber → List Subscription
subs_of birth [] = []
subs_of birth (x ∷ xs) = cond (nat_lt x.birth birth) (subs_of birth xs) (cond (nat_eq x.birth birth) x.subs [])

-- a session's subscriptions are these
abbrev pub with_subs : ℕ → List Subscription → List Subscriber → List Subscriber
with_subs birth subs [] = record { birth = birth; subs = subs } ∷ []
with_subs birth subs (x ∷ xs) =
    cond (nat_lt x.birth birth)
    (x ∷ with_subs birth subs xs)
    (cond (nat_eq x.birth birth) (record { birth = birth; subs = subs } ∷ xs) (record { birth = birth; subs = subs } ∷ x ∷ xs))

-- a session gets a subscription (3.8.4)
abbrev pub subscribed : ℕ → Subscription → List Subscriber → List Subscriber
subscribed birth new xs = with_subs birth (put new (subs_of birth xs)) xs

-- a session loses the subscription to a filter, if it has one (3.10.4)
abbrev pub unsubscribed : ℕ → List ℕ → List Subscriber → List Subscriber
unsubscribed birth text [] = []
unsubscribed birth text (x ∷ xs) =
    cond (nat_lt x.birth birth)
    (x ∷ unsubscribed birth text xs)
    (cond (nat_eq x.birth birth) (record { birth = birth; subs = without text x.subs } ∷ xs) (x ∷ xs))

-- a session that ended has none (3.1.2.11.2)
abbrev pub without_session : ℕ → List Subscriber → List Subscriber
without_session birth [] = []
without_session birth (x ∷ xs) =
    cond (nat_lt x.birth birth) (x ∷ without_session birth xs) (cond (nat_eq x.birth birth) xs (x ∷ xs))

-- ---- sessions without subscriptions

-- a session is beside others, if it has subscriptions
abbrev pub beside : List Subscription → Subscriber → List Subscriber → List Subscriber
beside [] x rest = rest
beside (s ∷ ss) x rest = x ∷ rest

-- the sessions that have subscriptions
abbrev pub with_some : List Subscriber → List Subscriber
with_some [] = []
with_some (x ∷ xs) = beside x.subs x (with_some xs)

-- if there are filters to come, their session stands in the list with the subscriptions that it has, be it none
abbrev pub standing : ℕ → List (List ℕ) → List Subscriber → List Subscriber
standing birth [] xs = xs
standing birth (f ∷ fs) xs = with_subs birth (subs_of birth xs) xs

-- ---- room for what will be subscribed

abbrev pub filters_of : List Subscription → List (List ℕ)
filters_of subs = map (λ s. s.filter) subs

-- how many further subscriptions of each session take no memory
abbrev pub rooms : List (ℕ × Held) → List (ℕ × ℕ)
rooms [] = []
rooms (e ∷ es) = (e.0, e.1.room) ∷ rooms es

abbrev pub room_of : ℕ → List (ℕ × ℕ) → ℕ
room_of birth [] = 0
room_of birth (e ∷ es) = cond (nat_eq birth e.0) e.1 (room_of birth es)

-- subscriptions of a session to these filters, one after another, take no memory
abbrev pub have_room : ℕ → List (List ℕ) → List (ℕ × ℕ) → Bool
have_room birth filters room = nat_le (length filters) (room_of birth room)

-- sessions, and the room that each has
pub record HeldSessions : Type 0 where
  pub sessions : List Subscriber
  pub room : List (ℕ × ℕ)
