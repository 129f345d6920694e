-- Changes of the index, and what it serves after them.
use Rattle.std.proofs.Common.{ℕ, Bool, true, false, cond, List, [], ◌∷◌, nat_lt, nat_eq, ap, sym, ◌∙◌, arith}
use Rattle.std.specs.List.{AllByRecursion}
use Rattle.mqtt_routes.specs.declared.routing.subscription.Subscription.{Subscription}
use Rattle.mqtt_routes.specs.routing.Subscriptions.{Subscriber, subscriber, AreInOrder, subs_of, with_subs, without_session, standing}
use Rattle.mqtt_routes.proofs.routing_lemmas.SomeLemmas.{some_dropped, some_standing}
use Rattle.mqtt_routes.proofs.routing_lemmas.SpotLemmas.{order-with_subs, order-without_session}
use Rattle.mqtt_broker_queue.specs.subscribers.Indexing.{IsLawful, Serves}

-- ---- a session ends

dropped_lawful_by : (lt eq : Bool) (b : ℕ) (x : Subscriber) (xs : List Subscriber) → IsLawful x → AllByRecursion IsLawful xs → AllByRecursion IsLawful (without_session b xs)
    → AllByRecursion IsLawful (cond lt (x ∷ without_session b xs) (cond eq xs (x ∷ xs)))
dropped_lawful_by true eq b x xs h hs more = (h, more)
dropped_lawful_by false true b x xs h hs more = hs
dropped_lawful_by false false b x xs h hs more = (h, hs)

dropped_lawful : (b : ℕ) (xs : List Subscriber) → AllByRecursion IsLawful xs → AllByRecursion IsLawful (without_session b xs)
dropped_lawful b [] h = tt
dropped_lawful b (x ∷ xs) h = dropped_lawful_by (nat_lt x.birth b) (nat_eq x.birth b) b x xs h.0 h.1 (dropped_lawful b xs h.1)

-- it serves the others when a session ends
pub serves_dropped : (b : ℕ) (table sessions : List Subscriber) → AreInOrder sessions → Serves table sessions → Serves (without_session b table) (without_session b sessions)
serves_dropped b table sessions order serves = record {
  same = some_dropped b table serves.order ∙ (ap (without_session b) serves.same ∙ sym (some_dropped b sessions order));
  order = order-without_session b table serves.order;
  lawful = dropped_lawful b table serves.lawful;
}

-- ---- a session stands

subs_lawful_by : (lt eq : Bool) (b : ℕ) (x : Subscriber) (xs : List Subscriber) → IsLawful x → IsLawful (subscriber b (subs_of b xs))
    → IsLawful (subscriber b (cond lt (subs_of b xs) (cond eq x.subs [])))
subs_lawful_by true eq b x xs h more = more
subs_lawful_by false true b x xs h more = record { identifiers = h.identifiers; few = h.few }
subs_lawful_by false false b x xs h more = record { identifiers = tt; few = omega arith }

subs_lawful : (b : ℕ) (xs : List Subscriber) → AllByRecursion IsLawful xs → IsLawful (subscriber b (subs_of b xs))
subs_lawful b [] h = record { identifiers = tt; few = omega arith }
subs_lawful b (x ∷ xs) h = subs_lawful_by (nat_lt x.birth b) (nat_eq x.birth b) b x xs h.0 (subs_lawful b xs h.1)

with_lawful_by : (lt eq : Bool) (b : ℕ) (subs : List Subscription) (x : Subscriber) (xs : List Subscriber) → IsLawful (subscriber b subs) → IsLawful x → AllByRecursion IsLawful xs
    → AllByRecursion IsLawful (with_subs b subs xs)
    → AllByRecursion IsLawful (cond lt (x ∷ with_subs b subs xs) (cond eq (subscriber b subs ∷ xs) (subscriber b subs ∷ x ∷ xs)))
with_lawful_by true eq b subs x xs q h hs more = (h, more)
with_lawful_by false true b subs x xs q h hs more = (q, hs)
with_lawful_by false false b subs x xs q h hs more = (q, (h, hs))

with_lawful : (b : ℕ) (subs : List Subscription) (xs : List Subscriber) → IsLawful (subscriber b subs) → AllByRecursion IsLawful xs → AllByRecursion IsLawful (with_subs b subs xs)
with_lawful b subs [] q h = (q, tt)
with_lawful b subs (x ∷ xs) q h = with_lawful_by (nat_lt x.birth b) (nat_eq x.birth b) b subs x xs q h.0 h.1 (with_lawful b subs xs q h.1)

standing_lawful : (b : ℕ) (filters : List (List ℕ)) (xs : List Subscriber) → AllByRecursion IsLawful xs → AllByRecursion IsLawful (standing b filters xs)
standing_lawful b [] xs h = h
standing_lawful b (f ∷ fs) xs h = with_lawful b (subs_of b xs) xs (subs_lawful b xs h) h

standing_order : (b : ℕ) (filters : List (List ℕ)) (xs : List Subscriber) → AreInOrder xs → AreInOrder (standing b filters xs)
standing_order b [] xs h = h
standing_order b (f ∷ fs) xs h = order-with_subs b (subs_of b xs) xs h

-- and the same sessions when one stands in it without subscriptions
pub serves_standing : (b : ℕ) (filters : List (List ℕ)) (table sessions : List Subscriber) → Serves table sessions → Serves (standing b filters table) sessions
serves_standing b filters table sessions serves = record {
  same = some_standing b filters table ∙ serves.same;
  order = standing_order b filters table serves.order;
  lawful = standing_lawful b filters table serves.lawful;
}
