-- What a session gets, loses and has is the same whether or not sessions without subscriptions stand beside it.
use Rattle.std.proofs.Common.{◌≡◌, ℕ, ◌<◌, Bool, true, false, cond, List, [], ◌∷◌, refl, ap, sym, ◌∙◌, nat_lt, nat_eq, arith}
use Rattle.std.proofs.lemmas.Bool.Decides.{nat_tests}
use Rattle.mqtt_routes.specs.declared.routing.subscription.Subscription.{Subscription}
use Rattle.mqtt_routes.proofs.routing_lemmas.SpotLemmas.{after_later, after_same}
use Rattle.mqtt_routes.specs.routing.Subscriptions.{Subscriber, subscriber, AreAfter, AreInOrder, put, without, subs_of, with_subs, subscribed, unsubscribed, beside, with_some}

-- ---- numbers

-- a number above another is not below it
pub lt_above : (k b : ℕ) → b < k → nat_lt k b ≡ false
lt_above k b l = grind (arith, nat_tests)

-- nor is it the same
pub eq_above : (k b : ℕ) → b < k → nat_eq k b ≡ false
eq_above k b l = grind (arith, nat_tests)

above_of : (k b : ℕ) → nat_lt k b ≡ false → nat_eq k b ≡ false → b < k
above_of k b l e = grind (arith, nat_tests)

same_of : (k b : ℕ) → nat_eq k b ≡ true → k ≡ b
same_of k b e = grind (arith, nat_tests)

-- ---- order

after_some_by : (n : ℕ) (subs : List Subscription) (x : Subscriber) (xs : List Subscriber) → n < x.birth → AreAfter n xs → AreAfter n (beside subs x xs)
after_some_by n [] x xs l h = h
after_some_by n (s ∷ ss) x xs l h = (l, h)

after_some : (n : ℕ) (xs : List Subscriber) → AreAfter n xs → AreAfter n (with_some xs)
after_some n [] h = tt
after_some n (x ∷ xs) h = after_some_by n x.subs x (with_some xs) h.0 (after_some n xs h.1)

order_some_by : (subs : List Subscription) (x : Subscriber) (xs : List Subscriber) → AreAfter x.birth xs → AreInOrder xs → AreInOrder (beside subs x xs)
order_some_by [] x xs l h = h
order_some_by (s ∷ ss) x xs l h = (l, h)

-- sessions in order are so without those that have no subscription
pub order_some : (xs : List Subscriber) → AreInOrder xs → AreInOrder (with_some xs)
order_some [] h = tt
order_some (x ∷ xs) h = order_some_by x.subs x (with_some xs) (after_some x.birth xs h.0) (order_some xs h.1)

some_twice_by : (subs : List Subscription) (x : Subscriber) (xs : List Subscriber) → x.subs ≡ subs → with_some xs ≡ xs → with_some (beside subs x xs) ≡ beside subs x xs
some_twice_by [] x xs is more = more
some_twice_by (s ∷ ss) x xs is more = ap (λ subs. beside subs x (with_some xs)) is ∙ ap (λ (ys : List Subscriber). x ∷ ys) more

-- taking those out twice is taking them out once
pub some_twice : (xs : List Subscriber) → with_some (with_some xs) ≡ with_some xs
some_twice [] = refl
some_twice (x ∷ xs) = some_twice_by x.subs x (with_some xs) refl (some_twice xs)

-- ---- behind a later birth there is none

subs_of_after : (b : ℕ) (xs : List Subscriber) → AreAfter b xs → subs_of b xs ≡ []
subs_of_after b [] h = refl
subs_of_after b (x ∷ xs) h = rw (lt_above x.birth b h.0, eq_above x.birth b h.0) refl

with_subs_after : (b : ℕ) (subs : List Subscription) (xs : List Subscriber) → AreAfter b xs → with_subs b subs xs ≡ subscriber b subs ∷ xs
with_subs_after b subs [] h = refl
with_subs_after b subs (x ∷ xs) h = rw (lt_above x.birth b h.0, eq_above x.birth b h.0) refl

unsubscribed_after : (b : ℕ) (text : List ℕ) (xs : List Subscriber) → AreAfter b xs → unsubscribed b text xs ≡ xs
unsubscribed_after b text [] h = refl
unsubscribed_after b text (x ∷ xs) h = rw (lt_above x.birth b h.0, eq_above x.birth b h.0) refl

-- ---- what a session has

subs_some_by : (lt eq : Bool) (b : ℕ) (subs : List Subscription) (x : Subscriber) (xs : List Subscriber) → nat_lt x.birth b ≡ lt → nat_eq x.birth b ≡ eq → x.subs ≡ subs → AreAfter x.birth xs → subs_of b xs ≡ subs_of b (with_some xs)
    → cond lt (subs_of b xs) (cond eq x.subs []) ≡ subs_of b (beside subs x (with_some xs))
subs_some_by true eq b [] x xs l e is h more = more
subs_some_by true eq b (s ∷ ss) x xs l e is h more = more ∙ sym (ap (λ t. cond t (subs_of b (with_some xs)) (cond (nat_eq x.birth b) x.subs [])) l)
subs_some_by false true b [] x xs l e is h more = is ∙ sym (subs_of_after b (with_some xs) (after_some b xs (after_same b x.birth xs (same_of x.birth b e) h)))
subs_some_by false true b (s ∷ ss) x xs l e is h more = rw (l, e) refl
subs_some_by false false b [] x xs l e is h more = sym (subs_of_after b (with_some xs) (after_some b xs (after_later b x.birth xs (above_of x.birth b l e) h)))
subs_some_by false false b (s ∷ ss) x xs l e is h more = rw (l, e) refl

-- a session has the same subscriptions when those are taken out
pub subs_some : (b : ℕ) (xs : List Subscriber) → AreInOrder xs → subs_of b xs ≡ subs_of b (with_some xs)
subs_some b [] h = refl
subs_some b (x ∷ xs) h = subs_some_by (nat_lt x.birth b) (nat_eq x.birth b) b x.subs x xs refl refl refl h.0 (subs_some b xs h.1)

-- ---- what a session gets

put_some_by : (lt eq : Bool) (b : ℕ) (new subs : List Subscription) (x : Subscriber) (xs : List Subscriber) → nat_lt x.birth b ≡ lt → nat_eq x.birth b ≡ eq → x.subs ≡ subs → AreAfter x.birth xs
    → with_some (with_subs b new xs) ≡ with_some (with_subs b new (with_some xs))
    → with_some (cond lt (x ∷ with_subs b new xs) (cond eq (subscriber b new ∷ xs) (subscriber b new ∷ x ∷ xs))) ≡ with_some (with_subs b new (beside subs x (with_some xs)))
put_some_by true eq b new [] x xs l e is h more = ap (λ subs. beside subs x (with_some (with_subs b new xs))) is ∙ more
put_some_by true eq b new (s ∷ ss) x xs l e is h more =
    ap (λ ys. beside x.subs x ys) more
    ∙ sym (ap (λ t. with_some (cond t (x ∷ with_subs b new (with_some xs)) (cond (nat_eq x.birth b) (subscriber b new ∷ with_some xs) (subscriber b new ∷ x ∷ with_some xs)))) l)
put_some_by false true b new [] x xs l e is h more =
    sym (ap with_some (with_subs_after b new (with_some xs) (after_some b xs (after_same b x.birth xs (same_of x.birth b e) h)))
    ∙ ap (λ ys. beside new (subscriber b new) ys) (some_twice xs))
put_some_by false true b new (s ∷ ss) x xs l e is h more = rw (l, e) (ap (λ ys. beside new (subscriber b new) ys) (sym (some_twice xs)))
put_some_by false false b new [] x xs l e is h more =
    ap (λ subs. beside new (subscriber b new) (beside subs x (with_some xs))) is
    ∙ sym (ap with_some (with_subs_after b new (with_some xs) (after_some b xs (after_later b x.birth xs (above_of x.birth b l e) h)))
    ∙ ap (λ ys. beside new (subscriber b new) ys) (some_twice xs))
put_some_by false false b new (s ∷ ss) x xs l e is h more =
    rw (l, e) (ap (λ ys. beside new (subscriber b new) (beside x.subs x ys)) (sym (some_twice xs)))

put_some : (b : ℕ) (new : List Subscription) (xs : List Subscriber) → AreInOrder xs → with_some (with_subs b new xs) ≡ with_some (with_subs b new (with_some xs))
put_some b new [] h = refl
put_some b new (x ∷ xs) h = put_some_by (nat_lt x.birth b) (nat_eq x.birth b) b new x.subs x xs refl refl refl h.0 (put_some b new xs h.1)

-- ---- what a session loses

without_none : (text : List ℕ) (subs : List Subscription) → subs ≡ [] → without text subs ≡ []
without_none text subs is = ap (without text) is

gone_some_by : (lt eq : Bool) (b : ℕ) (text : List ℕ) (subs : List Subscription) (x : Subscriber) (xs : List Subscriber) → nat_lt x.birth b ≡ lt → nat_eq x.birth b ≡ eq → x.subs ≡ subs → AreAfter x.birth xs
    → with_some (unsubscribed b text xs) ≡ with_some (unsubscribed b text (with_some xs))
    → with_some (cond lt (x ∷ unsubscribed b text xs) (cond eq (subscriber b (without text x.subs) ∷ xs) (x ∷ xs))) ≡ with_some (unsubscribed b text (beside subs x (with_some xs)))
gone_some_by true eq b text [] x xs l e is h more = ap (λ subs. beside subs x (with_some (unsubscribed b text xs))) is ∙ more
gone_some_by true eq b text (s ∷ ss) x xs l e is h more =
    ap (λ ys. beside x.subs x ys) more
    ∙ sym (ap (λ t. with_some (cond t (x ∷ unsubscribed b text (with_some xs)) (cond (nat_eq x.birth b) (subscriber b (without text x.subs) ∷ with_some xs) (x ∷ with_some xs)))) l)
gone_some_by false true b text [] x xs l e is h more =
    ap (λ subs. beside subs (subscriber b (without text x.subs)) (with_some xs)) (without_none text x.subs is)
    ∙ sym (ap with_some (unsubscribed_after b text (with_some xs) (after_some b xs (after_same b x.birth xs (same_of x.birth b e) h))) ∙ some_twice xs)
gone_some_by false true b text (s ∷ ss) x xs l e is h more =
    rw (l, e) (ap (λ ys. beside (without text x.subs) (subscriber b (without text x.subs)) ys) (sym (some_twice xs)))
gone_some_by false false b text [] x xs l e is h more =
    ap (λ subs. beside subs x (with_some xs)) is
    ∙ sym (ap with_some (unsubscribed_after b text (with_some xs) (after_some b xs (after_later b x.birth xs (above_of x.birth b l e) h))) ∙ some_twice xs)
gone_some_by false false b text (s ∷ ss) x xs l e is h more = rw (l, e) (ap (λ ys. beside x.subs x ys) (sym (some_twice xs)))

gone_some : (b : ℕ) (text : List ℕ) (xs : List Subscriber) → AreInOrder xs → with_some (unsubscribed b text xs) ≡ with_some (unsubscribed b text (with_some xs))
gone_some b text [] h = refl
gone_some b text (x ∷ xs) h = gone_some_by (nat_lt x.birth b) (nat_eq x.birth b) b text x.subs x xs refl refl refl h.0 (gone_some b text xs h.1)

-- ---- lists that differ in sessions without subscriptions

abbrev some_after_put : ℕ → Subscription → List Subscriber → List Subscriber
some_after_put b new xs = with_some (with_subs b (put new (subs_of b xs)) xs)

subscribed_some : (b : ℕ) (new : Subscription) (xs : List Subscriber) → AreInOrder xs → some_after_put b new xs ≡ some_after_put b new (with_some xs)
subscribed_some b new xs h =
    ap (λ subs. with_some (with_subs b (put new subs) xs)) (subs_some b xs h) ∙ put_some b (put new (subs_of b (with_some xs))) xs h

-- tables with the same subscriptions have the same when one comes
pub same_subscribed : (b : ℕ) (new : Subscription) (xs ys : List Subscriber) → AreInOrder xs → AreInOrder ys → with_some xs ≡ with_some ys → with_some (subscribed b new xs) ≡ with_some (subscribed b new ys)
same_subscribed b new xs ys up order same =
    subscribed_some b new xs up ∙ (ap (some_after_put b new) same ∙ sym (subscribed_some b new ys order))

-- and when one goes
pub same_unsubscribed : (b : ℕ) (text : List ℕ) (xs ys : List Subscriber) → AreInOrder xs → AreInOrder ys → with_some xs ≡ with_some ys → with_some (unsubscribed b text xs) ≡ with_some (unsubscribed b text ys)
same_unsubscribed b text xs ys up order same =
    gone_some b text xs up ∙ (ap (λ zs. with_some (unsubscribed b text zs)) same ∙ sym (gone_some b text ys order))
