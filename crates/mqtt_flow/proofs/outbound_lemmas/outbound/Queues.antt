-- Facts on a session's queue of outbound copies.
use Rattle.std.proofs.Common.{◌≡◌, ⊎_elim, ℕ, ◌≤◌, ◌<◌, ◌+◌, max, Bool, true, false, not, List, [], ◌∷◌, ◌++◌, length, map, filter, nat_eq, refl, arith, Option, Some, None}
use Rattle.mqtt_base.specs.Phases.{identifier_of, order_of}
use Rattle.mqtt_base.specs.declared.Phase.TheVariants.{Sent, Released, Oversize}
use Rattle.mqtt_flow.specs.declared.outbound.entry.Entry.{Entry}
use Rattle.mqtt_flow.specs.declared.outbound.entry.QueuedCopy.{QueuedCopy}
use Rattle.mqtt_flow.specs.declared.outbound.entry.Turn.{Turn}
use Rattle.mqtt_flow.specs.declared.outbound.entry.Turn.TheVariants.{Send, Resend, Release, Outgrow, Repeat, Unknown, Leave}
use Rattle.mqtt_base.specs.declared.limits.TheConstants.{LAST_NUMBER, QUEUE_LIMIT}
use Rattle.mqtt_flow.specs.outbound.Queue.{also, identifiers, greatest_place, greatest_order, at_place, marked, after, order_given, Above, Ascends, IsQueue, entering, next_place}
use Rattle.mqtt_flow.specs.outbound.Outbound.{unsent, anew, pushed}
use Rattle.mqtt_flow.proofs.inbound_lemmas.Identifiers.{test_cases}

length-also : (o : Option ℕ) (is : List ℕ) → length (also o is) ≤ length is + 1
length-also None is = omega arith
length-also (Some i) is = omega arith

-- a copy has one identifier at most
pub length-identifiers : (queue : List Entry) → length (identifiers queue) ≤ length queue
length-identifiers [] = omega arith
length-identifiers (e ∷ es) = let one = length-also (identifier_of e.phase) (identifiers es) in let rest = length-identifiers es in omega arith

-- a turn leaves each entry in its place
changed_by : (P : Entry → Type 0) (place : ℕ) (made e : Entry) → P made → P e → P (at_place place made e)
changed_by P place made e new old = ⊎_elim
    (λ (t : nat_eq e.place place ≡ true). rw t new)
    (λ (t : nat_eq e.place place ≡ false). rw t old)
    (test_cases (nat_eq e.place place))

-- a turn leaves each entry its place
pub place-marked : (t : Turn) (e : Entry) → (marked t e).place ≡ e.place
place-marked (Send place i) e = changed_by (λ x. x.place ≡ e.place) place (record e { phase = Sent i; here = true }) e refl refl
place-marked (Resend place i) e = changed_by (λ x. x.place ≡ e.place) place (record e { here = true }) e refl refl
place-marked (Release place i order) e = changed_by (λ x. x.place ≡ e.place) place (record e { phase = Released i order }) e refl refl
place-marked (Outgrow place i order) e = changed_by (λ x. x.place ≡ e.place) place (record e { phase = Oversize i order }) e refl refl
place-marked (Repeat i) e = refl
place-marked (Unknown i) e = refl
place-marked (Leave place ending) e = refl

-- the orders are those that stood, and the one that it gives
order-marked : (t : Turn) (e : Entry) → order_of (marked t e).phase ≤ max (order_given t) (order_of e.phase)
order-marked (Send place i) e = changed_by (λ x. order_of x.phase ≤ max 0 (order_of e.phase)) place (record e { phase = Sent i; here = true }) e (omega arith) (omega arith)
order-marked (Resend place i) e = changed_by (λ x. order_of x.phase ≤ max 0 (order_of e.phase)) place (record e { here = true }) e (omega arith) (omega arith)
order-marked (Release place i order) e = changed_by (λ x. order_of x.phase ≤ max order (order_of e.phase)) place (record e { phase = Released i order }) e (omega arith) (omega arith)
order-marked (Outgrow place i order) e = changed_by (λ x. order_of x.phase ≤ max order (order_of e.phase)) place (record e { phase = Oversize i order }) e (omega arith) (omega arith)
order-marked (Repeat i) e = omega arith
order-marked (Unknown i) e = omega arith
order-marked (Leave place ending) e = omega arith

orders-marked : (t : Turn) (queue : List Entry) → greatest_order (map (marked t) queue) ≤ max (order_given t) (greatest_order queue)
orders-marked t [] = omega arith
orders-marked t (e ∷ es) = let one = order-marked t e in let rest = orders-marked t es in omega arith

-- a turn leaves the greatest place what it was
pub places-marked : (t : Turn) (queue : List Entry) → greatest_place (map (marked t) queue) ≡ greatest_place queue
places-marked t [] = refl
places-marked t (e ∷ es) = rw (place-marked t e, places-marked t es) refl

above-marked : (t : Turn) (place : ℕ) (queue : List Entry) → Above place queue → Above place (map (marked t) queue)
above-marked t place [] h = h
above-marked t place (e ∷ es) h = (rw (place-marked t e) h.0, above-marked t place es h.1)

-- a turn leaves the places ascending
pub ascends-marked : (t : Turn) (queue : List Entry) → Ascends queue → Ascends (map (marked t) queue)
ascends-marked t [] h = h
ascends-marked t (e ∷ es) h = (rw (place-marked t e) (above-marked t e.place es h.0), ascends-marked t es h.1)

-- and of the entries that stay
orders-filter : (p : Entry → Bool) (queue : List Entry) → greatest_order (filter p queue) ≤ greatest_order queue
orders-filter p [] = omega arith
orders-filter p (e ∷ es) = let rest = orders-filter p es in ⊎_elim
    (λ (t : p e ≡ true). rw t (omega arith))
    (λ (t : p e ≡ false). rw t (omega arith))
    (test_cases (p e))

-- fewer entries have no greater place
pub places-filter : (p : Entry → Bool) (queue : List Entry) → greatest_place (filter p queue) ≤ greatest_place queue
places-filter p [] = omega arith
places-filter p (e ∷ es) = let rest = places-filter p es in ⊎_elim
    (λ (t : p e ≡ true). rw t (omega arith))
    (λ (t : p e ≡ false). rw t (omega arith))
    (test_cases (p e))

length-filter_le : (p : Entry → Bool) (queue : List Entry) → length (filter p queue) ≤ length queue
length-filter_le p [] = omega arith
length-filter_le p (e ∷ es) = let rest = length-filter_le p es in ⊎_elim
    (λ (t : p e ≡ true). rw t (omega arith))
    (λ (t : p e ≡ false). rw t (omega arith))
    (test_cases (p e))

above-filter : (p : Entry → Bool) (place : ℕ) (queue : List Entry) → Above place queue → Above place (filter p queue)
above-filter p place [] h = h
above-filter p place (e ∷ es) h = ⊎_elim
    (λ (t : p e ≡ true). rw t (h.0, above-filter p place es h.1))
    (λ (t : p e ≡ false). rw t (above-filter p place es h.1))
    (test_cases (p e))

-- the places ascend without some entries too
pub ascends-filter : (p : Entry → Bool) (queue : List Entry) → Ascends queue → Ascends (filter p queue)
ascends-filter p [] h = h
ascends-filter p (e ∷ es) h = ⊎_elim
    (λ (t : p e ≡ true). rw t (above-filter p e.place es h.0, ascends-filter p es h.1))
    (λ (t : p e ≡ false). rw t (ascends-filter p es h.1))
    (test_cases (p e))

length-map : (f : Entry → Entry) (queue : List Entry) → length (map f queue) ≡ length queue
length-map f [] = refl
length-map f (e ∷ es) = let rest = length-map f es in omega arith

is_queue-marked : (t : Turn) (queue : List Entry) → order_given t ≤ LAST_NUMBER → IsQueue queue → IsQueue (map (marked t) queue)
is_queue-marked t queue h is = let few = is.few in let places = is.places in let orders = is.orders in record {
  few = let e = length-map (marked t) queue in omega arith;
  places = let e = places-marked t queue in omega arith;
  orders = let e = orders-marked t queue in omega arith;
  ascends = ascends-marked t queue is.ascends;
}

-- a queue stays one
pub is_queue-after : (t : Turn) (queue : List Entry) → order_given t ≤ LAST_NUMBER → IsQueue queue → IsQueue (after t queue)
is_queue-after (Send place i) queue h is = is_queue-marked (Send place i) queue h is
is_queue-after (Resend place i) queue h is = is_queue-marked (Resend place i) queue h is
is_queue-after (Release place i order) queue h is = is_queue-marked (Release place i order) queue h is
is_queue-after (Outgrow place i order) queue h is = is_queue-marked (Outgrow place i order) queue h is
is_queue-after (Repeat i) queue h is = is
is_queue-after (Unknown i) queue h is = is
is_queue-after (Leave place ending) queue h is = let few = is.few in let places = is.places in let orders = is.orders in let p : Entry → Bool = λ e. not (nat_eq e.place place) in record {
  few = let e = length-filter_le p queue in omega arith;
  places = let e = places-filter p queue in omega arith;
  orders = let e = orders-filter p queue in omega arith;
  ascends = ascends-filter p queue is.ascends;
}

-- a copy that enters stands last
places-push : (e : Entry) (queue : List Entry) → greatest_place (queue ++ e ∷ []) ≡ max (greatest_place queue) e.place
places-push e [] = omega arith
places-push e (x ∷ xs) = let rest = places-push e xs in omega arith

orders-push : (e : Entry) (queue : List Entry) → greatest_order (queue ++ e ∷ []) ≡ max (greatest_order queue) (order_of e.phase)
orders-push e [] = omega arith
orders-push e (x ∷ xs) = let rest = orders-push e xs in omega arith

length-push : (e : Entry) (queue : List Entry) → length (queue ++ e ∷ []) ≡ length queue + 1
length-push e [] = refl
length-push e (x ∷ xs) = let rest = length-push e xs in omega arith

above-push : (place : ℕ) (e : Entry) (queue : List Entry) → place < e.place → Above place queue → Above place (queue ++ e ∷ [])
above-push place e [] l h = (l, tt)
above-push place e (x ∷ xs) l h = (h.0, above-push place e xs l h.1)

-- an entry above all places goes behind them in order
pub ascends-push : (e : Entry) (queue : List Entry) → greatest_place queue < e.place → Ascends queue → Ascends (queue ++ e ∷ [])
ascends-push e [] l h = (tt, tt)
ascends-push e (x ∷ xs) l h = (above-push x.place e xs (omega arith) h.0, ascends-push e xs (omega arith) h.1)

-- a queue with a copy more is one, if it was below its limit and a number is left for the place
pub is_queue-pushed : (copy : QueuedCopy) (queue : List Entry) → length queue < QUEUE_LIMIT → next_place queue ≤ LAST_NUMBER → IsQueue queue → IsQueue (pushed copy queue)
is_queue-pushed copy queue few place is = let orders = is.orders in let e = entering copy queue in record {
  few = let l = length-push e queue in omega arith;
  places = let l = places-push e queue in omega arith;
  orders = let l = orders-push e queue in omega arith;
  ascends = ascends-push e queue (omega arith) is.ascends;
}

-- a new connection leaves places and orders as they are
places-anew : (queue : List Entry) → greatest_place (anew queue) ≡ greatest_place queue
places-anew [] = refl
places-anew (e ∷ es) = let rest = places-anew es in omega arith

orders-anew : (queue : List Entry) → greatest_order (anew queue) ≡ greatest_order queue
orders-anew [] = refl
orders-anew (e ∷ es) = let rest = orders-anew es in omega arith

above-anew : (place : ℕ) (queue : List Entry) → Above place queue → Above place (anew queue)
above-anew place [] h = h
above-anew place (e ∷ es) h = (h.0, above-anew place es h.1)

-- on a new connection the places ascend as before
pub ascends-anew : (queue : List Entry) → Ascends queue → Ascends (anew queue)
ascends-anew [] h = h
ascends-anew (e ∷ es) h = (above-anew e.place es h.0, ascends-anew es h.1)

-- on a new connection a queue is one still
pub is_queue-anew : (queue : List Entry) → IsQueue queue → IsQueue (anew queue)
is_queue-anew queue is = let few = is.few in let places = is.places in let orders = is.orders in record {
  few = let e = length-map unsent queue in omega arith;
  places = let e = places-anew queue in omega arith;
  orders = let e = orders-anew queue in omega arith;
  ascends = ascends-anew queue is.ascends;
}
