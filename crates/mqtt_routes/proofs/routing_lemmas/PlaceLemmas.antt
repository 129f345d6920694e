-- Lemmas on a set of subscriptions, of which no two have one filter (MQTT 5.0, 3.8.4, 3.10.4).
use Rattle.std.proofs.Common.{◌≡◌, ℕ, Bool, true, false, cond, ◌||◌, if◌then◌else◌, List, [], ◌∷◌, ◌++◌, refl, ap, ◌∙◌, Some}
use Rattle.std.specs.Prelude.{find}
use Rattle.std.specs.Set.{remove_key, swap_key}
use Rattle.indexmap.specs.IndexSet.{replace_key}
use Rattle.mqtt_routes.specs.declared.routing.subscription.Subscription.{Subscription}
use Rattle.mqtt_routes.specs.routing.Keys.{same_filter}
use Rattle.mqtt_routes.specs.routing.Subscriptions.{is_to, has_filter, put, without}

-- what the set leaves of a filter is all but its subscription
pub without-remove_key : (text : List ℕ) (ss : List Subscription) → remove_key (is_to text) ss ≡ without text ss
without-remove_key text [] = refl
without-remove_key text (s ∷ ss) = ap (λ (xs : List Subscription). cond (is_to text s) ss (s ∷ xs)) (without-remove_key text ss)

push_by : (b : Bool) (new s old : Subscription) (ss : List Subscription) → (has_filter new.filter ss ≡ false → put new ss ≡ ss ++ new ∷ []) → (b || has_filter new.filter ss) ≡ false → cond b (old ∷ ss) (s ∷ put new ss) ≡ s ∷ (ss ++ new ∷ [])
push_by true new s old ss more h = cc
push_by false new s old ss more h = ap (λ (xs : List Subscription). s ∷ xs) (more h)

-- a filter that isn't there comes last
pub put-push : (new : Subscription) (ss : List Subscription) → has_filter new.filter ss ≡ false → put new ss ≡ ss ++ new ∷ []
put-push new [] h = refl
put-push new (s ∷ ss) h = push_by (is_to new.filter s) new s (record new { place = s.place }) ss (put-push new ss) h

-- a subscription at the place of the one before
abbrev pub moved : Subscription → ℕ → Subscription
moved new place = record new { place = place }

swap_by : (b : Bool) (new s old : Subscription) (ss : List Subscription) → Some old ≡ cond b (Some s) (find (is_to new.filter) ss) → (Some old ≡ find (is_to new.filter) ss → swap_key (is_to new.filter) ss (moved new old.place) ≡ put new ss)
    → cond b (moved new old.place ∷ ss) (s ∷ swap_key (is_to new.filter) ss (moved new old.place)) ≡ cond b (moved new s.place ∷ ss) (s ∷ put new ss)
swap_by true new s old ss e more = let same : old ≡ s = cc in ap (λ (o : Subscription). moved new o.place ∷ ss) same
swap_by false new s old ss e more = ap (λ (xs : List Subscription). s ∷ xs) (more e)

-- a filter that is there is replaced at its place
put-swap_key : (new old : Subscription) (ss : List Subscription) → Some old ≡ find (is_to new.filter) ss → swap_key (is_to new.filter) ss (moved new old.place) ≡ put new ss
put-swap_key new old [] e = cc
put-swap_key new old (s ∷ ss) e = swap_by (is_to new.filter s) new s old ss e (put-swap_key new old ss)

has_by : (b : Bool) (text : List ℕ) (s old : Subscription) (ss : List Subscription) → Some old ≡ cond b (Some s) (find (is_to text) ss) → (Some old ≡ find (is_to text) ss → has_filter text ss ≡ true) → (b || has_filter text ss) ≡ true
has_by true text s old ss e more = refl
has_by false text s old ss e more = more e

has-found : (text : List ℕ) (old : Subscription) (ss : List Subscription) → Some old ≡ find (is_to text) ss → has_filter text ss ≡ true
has-found text old [] e = cc
has-found text old (s ∷ ss) e = has_by (is_to text s) text s old ss e (has-found text old ss)

-- what the set has after that
pub put-replace_key : (new old : Subscription) (ss : List Subscription) → Some old ≡ find (is_to new.filter) ss → replace_key same_filter ss (moved new old.place) ≡ put new ss
put-replace_key new old ss e =
    let k = moved new old.place in
    ap (λ b. if b then swap_key (is_to new.filter) ss k else ss ++ k ∷ []) (has-found new.filter old ss e) ∙ put-swap_key new old ss e
