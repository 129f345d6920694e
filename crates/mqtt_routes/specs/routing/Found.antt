-- The subscriptions to a topic, session by session (MQTT 5.0, 3.3.4, 4.7).
use Rattle.std.specs.Prelude.{ℕ, suc, Bool, cond, not, ◌&&◌, List, [], ◌∷◌, ◌++◌, map, nat_eq}
use Rattle.mqtt_routes.specs.declared.routing.spot.Spot.{Spot}
use Rattle.mqtt_routes.specs.declared.routing.subscription.Subscription.{Subscription}
use Rattle.mqtt_routes.specs.routing.Subscriptions.{Subscriber}
use Rattle.mqtt_routes.specs.routing.Intended.{Publication, Answers, Copy, add_to, empty_copy, is_barred, is_shared, matches_topic}

-- a subscription to the topic, and its session's birth
pub record Found : Type 0 where
  pub birth : ℕ
  pub sub : Subscription

abbrev pub found_sub : ℕ → Subscription → Found
found_sub birth sub = record { birth = birth; sub = sub }

-- those of a session, in the order subscribed
abbrev pub found_of : Publication → ℕ → List Subscription → List Found
found_of p birth [] = []
found_of p birth (s ∷ ss) = cond (matches_topic p s) (found_sub birth s ∷ found_of p birth ss) (found_of p birth ss)

-- those of all sessions, by birth
abbrev pub found_in : Publication → List Subscriber → List Found
found_in p [] = []
found_in p (x ∷ xs) = found_of p x.birth x.subs ++ found_in p xs

-- ---- where they stand

-- further on by one: behind one more subscription of its session
abbrev pub next_spot : Spot → Spot
next_spot spot = record { birth = spot.birth; at = suc spot.at }

abbrev pub spot_at : ℕ → ℕ → Spot
spot_at birth at = record { birth = birth; at = at }

-- where those of a session stand, in the order subscribed
abbrev pub spots_of : Publication → ℕ → List Subscription → List Spot
spots_of p birth [] = []
spots_of p birth (s ∷ ss) =
    cond (matches_topic p s) (spot_at birth 0 ∷ map next_spot (spots_of p birth ss)) (map next_spot (spots_of p birth ss))

-- where those of all sessions stand, by birth
abbrev pub spots_in : Publication → List Subscriber → List Spot
spots_in p [] = []
spots_in p (x ∷ xs) = spots_of p x.birth x.subs ++ spots_in p xs

-- ---- whom they serve

-- a subscription to the topic that isn't shared and that No Local doesn't bar
abbrev pub is_direct : Answers → Publication → Found → Bool
is_direct at p f = not (is_shared f.sub) && not (is_barred at p f.birth f.sub)

-- the last copy serves one more subscription of its session; one of another session has a copy of its own
abbrev pub with_direct : Publication → List Copy → Found → List Copy
with_direct p [] f = add_to p (empty_copy f.birth) f.sub ∷ []
with_direct p (c ∷ []) f = cond (nat_eq c.birth f.birth) (add_to p c f.sub ∷ []) (c ∷ add_to p (empty_copy f.birth) f.sub ∷ [])
with_direct p (c ∷ d ∷ cs) f = c ∷ with_direct p (d ∷ cs) f
