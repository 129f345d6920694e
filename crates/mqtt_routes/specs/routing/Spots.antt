-- Subscriptions of all sessions in the order of the levels of their filters, as a tree has them (MQTT 5.0, 4.7).
use Rattle.std.specs.Prelude.{◌≡◌, ⊤, ℕ, zero, suc, ◌-◌, Bool, true, cond, ◌&&◌, List, [], ◌∷◌, length, map, min, nat_eq, nat_lt, Option}
use Rattle.std.specs.List.{count_by, position}
use Rattle.mqtt_topic.specs.names.Levels.{levels}
use Rattle.mqtt_topic.specs.names.Filters.{matching_part_of}
use Rattle.mqtt_routes.specs.tree.Tree.{in_order}
use Rattle.mqtt_routes.specs.declared.routing.spot.Spot.{Spot}
use Rattle.mqtt_routes.specs.declared.routing.subscription.Subscription.{Subscription}
use Rattle.mqtt_routes.specs.routing.Subscriptions.{Subscriber, subs_of, is_to}

-- the filter by which the subscription of a number is matched; without one, no text
abbrev pub matched_at : List Subscription → ℕ → List ℕ
matched_at [] n = []
matched_at (s ∷ ss) zero = matching_part_of s.filter
matched_at (s ∷ ss) (suc n) = matched_at ss n

-- the number of the subscription to a filter
abbrev pub number_of : List ℕ → List Subscription → Option ℕ
number_of text subs = position (is_to text) subs

abbrev pub text_of : List Subscriber → Spot → List ℕ
text_of sessions spot = matched_at (subs_of spot.birth sessions) spot.at

abbrev pub texts_of : List Subscriber → List Spot → List (List ℕ)
texts_of sessions spots = map (text_of sessions) spots

abbrev pub is_spot : ℕ → ℕ → Spot → Bool
is_spot birth at spot = nat_eq birth spot.birth && nat_eq at spot.at

-- a text comes after none of others
abbrev pub IsFirst : List ℕ → List (List ℕ) → Type 0
IsFirst text [] = ⊤
IsFirst text (t ∷ ts) = (in_order (levels text) (levels t) ≡ true) × IsFirst text ts

abbrev pub AreRising : List (List ℕ) → Type 0
AreRising [] = ⊤
AreRising (t ∷ ts) = IsFirst t ts × AreRising ts

-- each subscription is there once and nothing else, in the order of their filters
pub record IsIndex (sessions : List Subscriber) (spots : List Spot) : Type 0 where
  pub rising : AreRising (texts_of sessions spots)
  pub each : (birth at : ℕ) → count_by (is_spot birth at) spots ≡ cond (nat_lt at (length (subs_of birth sessions))) 1 0

-- ---- a subscription is removed

-- behind it, those of its session move down
abbrev pub moved_down : ℕ → ℕ → Spot → Spot
moved_down birth at spot = cond (nat_eq birth spot.birth && nat_lt at spot.at) (record { birth = spot.birth; at = spot.at - 1 }) spot

abbrev pub without_spot : ℕ → ℕ → List Spot → List Spot
without_spot birth at [] = []
without_spot birth at (s ∷ ss) = cond (is_spot birth at s) (without_spot birth at ss) (moved_down birth at s ∷ without_spot birth at ss)

abbrev pub without_birth : ℕ → List Spot → List Spot
without_birth birth [] = []
without_birth birth (s ∷ ss) = cond (nat_eq birth s.birth) (without_birth birth ss) (s ∷ without_birth birth ss)

-- ---- room

-- at most so much for each session
abbrev pub rooms_within : ℕ → List (ℕ × ℕ) → List (ℕ × ℕ)
rooms_within most [] = []
rooms_within most (e ∷ es) = (e.0, min e.1 most) ∷ rooms_within most es

-- sessions, the room that each has, and where their subscriptions stand in the order of their filters
pub record SpottedSessions : Type 0 where
  pub sessions : List Subscriber
  pub room : List (ℕ × ℕ)
  pub spots : List Spot
