-- Who had subscribed is to get a direct copy with QoS 1 or 2 (MQTT 5.0, 3.3.4, 3.8.4).
use Rattle.std.proofs.Common.{◌≡◌, ℕ, ◌≤◌, Bool, true, false, ◌&&◌, ◌||◌, List, [], ◌∷◌, ◌++◌, filter, map, Option, Some, None, nat_eq, refl, sym, ap, subst, ◌∙◌, arith, inl, inr}
use Rattle.std.specs.Prelude.{option_map}
use Rattle.std.specs.List.{list_any, list_all}
use Rattle.std.proofs.lemmas.Bool.{cases_Bool, lt-ltb}
use Rattle.std.proofs.lemmas.Cmp.{nat_eq_equiv}
use Rattle.mqtt_base.specs.declared.session.Cause.TheVariants.{Direct}
use Rattle.mqtt_records.specs.state.Session.{birth_of}
use Rattle.mqtt_routes.specs.declared.routing.subscription.Subscription.{Subscription}
use Rattle.mqtt_routes.specs.routing.Subscriptions.{Subscriber}
use Rattle.mqtt_routes.specs.routing.Intended.{Answers, Copy, Publication, copies_for, copy_for, directs, granted_qos, greatest, groups, hits_of, is_hit, members}
use Rattle.mqtt_routes.specs.routing.Acceptance.{Routed, Served, has_room, routed, routed_beside, serve, with_direct}
use Rattle.mqtt_rules.specs.step.Laws.{IsAmong}
use Rattle.mqtt_rules.specs.step.Routing.{CopyTo, answers, copy_to, is_queued, next_publication, publication_of, routed_subscription, routing_of, subscriber_of, subscribers}
use Rattle.mqtt_rules.specs.step.State.{Broker}
use Rattle.mqtt_rules.proofs.step_lemmas.acts.Leads.{row_among}
use Rattle.mqtt_rules.proofs.step_lemmas.flight.FlightRows.{found_key}
use Rattle.mqtt_world_model.specs.model.Laws.{is_copy}
use Rattle.mqtt_world_model.specs.model.Run.{Acceptance}
use Rattle.mqtt_world_laws.specs.acceptance.Entries.{id_of}
use Rattle.mqtt_world_laws.specs.routing.Intended.{intended_for, is_intended}
use Rattle.mqtt_world_laws.proofs.routing_lemmas.OwnCounts.{queued_quality}
use Rattle.mqtt_world_laws.specs.published.Published.{HadSubscribed, direct_copy}
use Rattle.mqtt_world_laws.proofs.published_lemmas.Publishing.{mapped_among}

-- ---- lists

-- one of a list is one of more
pub among_left : {X : Type 0} (x : X) (xs ys : List X) → IsAmong x xs → IsAmong x (xs ++ ys)
among_left x [] ys h = absurd h
among_left x (y ∷ xs) ys (inl is) = inl is
among_left x (y ∷ xs) ys (inr more) = inr (among_left x xs ys more)

-- also of more before it
pub among_right : {X : Type 0} (x : X) (xs ys : List X) → IsAmong x ys → IsAmong x (xs ++ ys)
among_right x [] ys h = h
among_right x (y ∷ xs) ys h = inr (among_right x xs ys h)

or_right : (a b : Bool) → b ≡ true → (a || b) ≡ true
or_right true b h = refl
or_right false b h = h

any_among : {X : Type 0} (test : X → Bool) (x : X) (xs : List X) → test x ≡ true → IsAmong x xs → list_any test xs ≡ true
any_among test x [] is h = absurd h
any_among test x (y ∷ ys) is (inl same) = let it : test y ≡ true = subst (λ (z : _). test z ≡ true) (sym same) is in rw it refl
any_among test x (y ∷ ys) is (inr more) = or_right (test y) (list_any test ys) (any_among test x ys is more)

passing : {X : Type 0} (test : X → Bool) (x : X) (xs : List X) → test x ≡ true → IsAmong x xs → IsAmong x (filter test xs)
passing test x [] is h = absurd h
passing test x (y ∷ ys) is (inl same) = let it : test y ≡ true = subst (λ (z : _). test z ≡ true) (sym same) is in rw it (inl same)
passing test x (y ∷ ys) is (inr more) = elim (cases_Bool (test y)) [
  | inl it ↦ rw it (inr (passing test x ys is more))
  | inr goes ↦ rw goes (passing test x ys is more)
]

-- ---- the direct copies of a routing

-- a routing has the direct copies
pub routed_direct : (at : Answers) (p : Publication) (choices : List ℕ) (xs : List Subscriber) (r : Routed) → routed at p choices xs ≡ Some r → r.direct ≡ directs at p xs
routed_direct at p choices xs r e = by (list_all (has_room at) (directs at p xs)) e
  where
    served : (o : Option (List Served)) → option_map (with_direct (directs at p xs)) o ≡ Some r → r.direct ≡ directs at p xs
    served None f = absurd cc
    served (Some ss) f = let it : with_direct (directs at p xs) ss ≡ r = cc in sym (ap (λ (x : Routed). x.direct) it)

    by : (t : Bool) → routed_beside t at p (members p xs) (directs at p xs) choices ≡ Some r → r.direct ≡ directs at p xs
    by false f = absurd cc
    by true f = served (serve at p (members p xs) (directs at p xs) choices (groups (members p xs)) []) f

greatest_of : (n : ℕ) (ns : List ℕ) → IsAmong n ns → n ≤ greatest ns
greatest_of n [] h = absurd h
greatest_of n (m ∷ ns) (inl is) = omega (arith, is)
greatest_of n (m ∷ ns) (inr more) = let rest = greatest_of n ns more in omega (arith, rest)

-- a direct copy of this session with QoS 1 or 2
record IsDirect (birth : ℕ) (cs : List Copy) : Type 0 where
  copy : Copy
  among : IsAmong copy cs
  its : copy.birth ≡ birth
  qos : 1 ≤ copy.qos

hits_copy : (p : Publication) (birth : ℕ) (hits : List Subscription) (s : Subscription) → IsAmong s hits → 1 ≤ granted_qos p s → IsDirect birth (copies_for p birth hits)
hits_copy p birth [] s h granted = absurd h
hits_copy p birth (x ∷ xs) s h granted =
    let most = greatest_of (granted_qos p s) (map (granted_qos p) (x ∷ xs)) (mapped_among (granted_qos p) s (x ∷ xs) h) in
    record { copy = copy_for p birth (x ∷ xs); among = inl refl; its = refl; qos = omega (arith, granted, most) }

has_direct : (at : Answers) (p : Publication) (x : Subscriber) (xs : List Subscriber) (s : Subscription) → IsAmong x xs → IsAmong s x.subs → is_hit at p x.birth s ≡ true → 1 ≤ granted_qos p s → IsDirect x.birth (directs at p xs)
has_direct at p x [] s h subscribed hit granted = absurd h
has_direct at p x (y ∷ ys) s (inl is) subscribed hit granted =
    let here = hits_copy p x.birth (hits_of at p x.birth x.subs) s (passing (is_hit at p x.birth) s x.subs hit subscribed) granted in
    let its : copies_for p x.birth (hits_of at p x.birth x.subs) ≡ copies_for p y.birth (hits_of at p y.birth y.subs) = ap (λ (z : Subscriber). copies_for p z.birth (hits_of at p z.birth z.subs)) (sym is) in
    record { copy = here.copy; among = among_left here.copy (copies_for p y.birth (hits_of at p y.birth y.subs)) (directs at p ys) (subst (λ (cs : List Copy). IsAmong here.copy cs) its here.among); its = here.its; qos = here.qos }
has_direct at p x (y ∷ ys) s (inr more) subscribed hit granted =
    let rest = has_direct at p x ys s more subscribed hit granted in
    record { copy = rest.copy; among = among_right rest.copy (copies_for p y.birth (hits_of at p y.birth y.subs)) (directs at p ys) rest.among; its = rest.its; qos = rest.qos }

-- ---- of an acceptance

-- who had subscribed has a direct copy among those that are meant, and it is queued
pub subscriber_intended : (reader : List ℕ) (b : Broker) (a : Acceptance) (s : HadSubscribed reader b a) (r : Routed) → routing_of a.env a.message a.broker.records ≡ Some r → is_intended (direct_copy a s.birth) (intended_for a r) ≡ true
subscriber_intended reader b a s r e =
    let at = answers a.env a.broker.records in
    let p = publication_of a.message in
    let xs = subscribers a.broker.records in
    let key : s.session.birth ≡ s.birth = found_key birth_of s.birth s.session a.broker.records.sessions s.found in
    let there = mapped_among subscriber_of s.session a.broker.records.sessions (row_among birth_of s.birth s.session a.broker.records.sessions s.found) in
    let hit : is_hit at p s.session.birth (routed_subscription s.subscription) ≡ true = subst (λ (n : ℕ). is_hit at p n (routed_subscription s.subscription) ≡ true) (sym key) s.matches in
    let its : IsDirect s.session.birth (directs at p xs) = has_direct at p (subscriber_of s.session) xs (routed_subscription s.subscription) there (mapped_among routed_subscription s.subscription s.session.subscriptions s.subscribed) hit s.granted in
    let are = routed_direct at p (a.env.choice (next_publication a.broker.records) a.message.sender) xs r e in
    let to = copy_to a.number a.broker.now a.message Direct in
    let among : IsAmong (to its.copy) (intended_for a r) = among_left (to its.copy) (map to r.direct) _ (mapped_among to its.copy r.direct (subst (λ (cs : List Copy). IsAmong its.copy cs) (sym are) its.among)) in
    let some = its.qos in
    let queued : is_queued (to its.copy) ≡ true = queued_quality its.copy.qos ∙ lt-ltb 0 its.copy.qos (omega (arith, some)) in
    let birth : nat_eq s.birth its.copy.birth ≡ true = subst (λ (n : ℕ). nat_eq s.birth n ≡ true) (sym (its.its ∙ key)) (nat_eq_equiv.refl s.birth) in
    let number : nat_eq a.number a.number ≡ true = nat_eq_equiv.refl a.number in
    any_among (λ (d : CopyTo). is_queued d && is_copy (direct_copy a s.birth) (id_of d)) (to its.copy) (intended_for a r) (rw (queued, number, birth) refl) among
