-- Lemmas on sessions without subscriptions (MQTT 5.0, 3.1.2.11, 3.3.4).
use Rattle.std.proofs.Common.{◌≡◌, ℕ, ◌<◌, Bool, true, false, cond, not, ◌||◌, List, [], ◌∷◌, ◌++◌, refl, ap, sym, ◌∙◌, nat_lt, nat_eq, arith}
use Rattle.std.proofs.lemmas.Bool.Decides.{nat_tests}
use Rattle.std.specs.List.{list_all}
use Rattle.mqtt_routes.specs.declared.routing.subscription.Subscription.{Subscription}
use Rattle.mqtt_routes.specs.routing.Subscriptions.{Subscriber, subscriber, AreAfter, AreInOrder, subs_of, with_subs, without_session, beside, with_some, standing}
use Rattle.mqtt_routes.specs.routing.Intended.{Publication, Answers, Copy, Member, copies_for, hits_of, directs, members_with, members_after, members, is_none}
use Rattle.mqtt_routes.proofs.routing_lemmas.SpotLemmas.{after_later, after_same}
use Rattle.mqtt_routes.specs.routing.Acceptance.{has_room, routed_beside, RouteAlike}

directs_beside : (at : Answers) (p : Publication) (subs : List Subscription) (x : Subscriber) (rest : List Subscriber) → x.subs ≡ subs → directs at p (x ∷ rest) ≡ directs at p (beside subs x rest)
directs_beside at p [] x rest e = rw e refl
directs_beside at p (s ∷ ss) x rest e = refl

directs_some : (at : Answers) (p : Publication) (xs : List Subscriber) → directs at p xs ≡ directs at p (with_some xs)
directs_some at p [] = refl
directs_some at p (x ∷ xs) =
    ap (λ cs. copies_for p x.birth (hits_of at p x.birth x.subs) ++ cs) (directs_some at p xs) ∙ directs_beside at p x.subs x (with_some xs) refl

members_beside : (p : Publication) (subs : List Subscription) (x : Subscriber) (rest : List Subscriber) (before : List Member) → x.subs ≡ subs → members_after p (x ∷ rest) before ≡ members_after p (beside subs x rest) before
members_beside p [] x rest before e = rw e refl
members_beside p (s ∷ ss) x rest before e = refl

members_some : (p : Publication) (xs : List Subscriber) (before : List Member) → members_after p xs before ≡ members_after p (with_some xs) before
members_some p [] before = refl
members_some p (x ∷ xs) before = members_some p xs (members_with p x.birth x.subs before) ∙ members_beside p x.subs x (with_some xs) before refl

same_directs : (at : Answers) (p : Publication) (xs ys : List Subscriber) → with_some xs ≡ with_some ys → directs at p xs ≡ directs at p ys
same_directs at p xs ys e = directs_some at p xs ∙ ap (directs at p) e ∙ sym (directs_some at p ys)

same_members : (p : Publication) (xs ys : List Subscriber) → with_some xs ≡ with_some ys → members p xs ≡ members p ys
same_members p xs ys e = members_some p xs [] ∙ ap (λ zs. members_after p zs []) e ∙ sym (members_some p ys [])

-- lists that differ in sessions without subscriptions
pub alike : (at : Answers) (p : Publication) (choices : List ℕ) (xs ys : List Subscriber) → with_some xs ≡ with_some ys → RouteAlike at p choices xs ys
alike at p choices xs ys e = record {
  same_routed = ap (λ (direct : List Copy). routed_beside (list_all (has_room at) direct) at p (members p xs) direct choices) (same_directs at p xs ys e)
      ∙ ap (λ (all : List Member). routed_beside (list_all (has_room at) (directs at p ys)) at p all (directs at p ys) choices) (same_members p xs ys e);
  same_wanted = ap (λ cs. not (is_none cs) || not (is_none (members p xs))) (same_directs at p xs ys e)
      ∙ ap (λ ms. not (is_none (directs at p ys)) || not (is_none ms)) (same_members p xs ys e);
}

-- ---- a session is dropped

-- no session before the first one is there
dropped_after : (b : ℕ) (xs : List Subscriber) → AreAfter b xs → without_session b (with_some xs) ≡ with_some xs
dropped_after b [] h = refl
dropped_after b (x ∷ xs) h = by x.subs refl (dropped_after b xs h.1)
  where
    by : (subs : List Subscription) → x.subs ≡ subs → without_session b (with_some xs) ≡ with_some xs → without_session b (beside subs x (with_some xs)) ≡ beside subs x (with_some xs)
    by [] e more = more
    by (s ∷ ss) e more =
        let lt : nat_lt x.birth b ≡ false = let l = h.0 in grind (arith, nat_tests) in
        let eq : nat_eq x.birth b ≡ false = let l = h.0 in grind (arith, nat_tests) in
        rw (lt, eq) refl

dropped_by : (lt eq : Bool) (b : ℕ) (subs : List Subscription) (x : Subscriber) (xs : List Subscriber) → nat_lt x.birth b ≡ lt → nat_eq x.birth b ≡ eq → x.subs ≡ subs → AreAfter x.birth xs → with_some (without_session b xs) ≡ without_session b (with_some xs)
    → with_some (cond lt (x ∷ without_session b xs) (cond eq xs (x ∷ xs))) ≡ without_session b (beside subs x (with_some xs))
dropped_by true eq b [] x xs l e is h more = ap (λ subs. beside subs x (with_some (without_session b xs))) is ∙ more
dropped_by true eq b (s ∷ ss) x xs l e is h more =
    let rest = without_session b (with_some xs) in
    ap (λ subs. beside subs x (with_some (without_session b xs))) is ∙ ap (λ (ys : List Subscriber). x ∷ ys) more
    ∙ sym (ap (λ t. cond t (x ∷ rest) (cond (nat_eq x.birth b) (with_some xs) (x ∷ with_some xs))) l)
dropped_by false true b [] x xs l e is h more =
    let same : x.birth ≡ b = grind (arith, nat_tests) in sym (dropped_after b xs (after_same b x.birth xs same h))
dropped_by false true b (s ∷ ss) x xs l e is h more = rw (l, e) refl
dropped_by false false b [] x xs l e is h more =
    let above : b < x.birth = grind (arith, nat_tests) in
    ap (λ subs. beside subs x (with_some xs)) is ∙ sym (dropped_after b xs (after_later b x.birth xs above h))
dropped_by false false b (s ∷ ss) x xs l e is h more =
    let rest = without_session b (with_some xs) in
    ap (λ subs. beside subs x (with_some xs)) is ∙ sym (ap (λ t. cond t (x ∷ rest) (cond (nat_eq x.birth b) (with_some xs) (x ∷ with_some xs))) l
    ∙ ap (λ t. cond t (with_some xs) (x ∷ with_some xs)) e)

-- to remove a session is the same before and after those without subscriptions are left out
pub some_dropped : (b : ℕ) (xs : List Subscriber) → AreInOrder xs → with_some (without_session b xs) ≡ without_session b (with_some xs)
some_dropped b [] o = refl
some_dropped b (x ∷ xs) o = dropped_by (nat_lt x.birth b) (nat_eq x.birth b) b x.subs x xs refl refl refl o.0 (some_dropped b xs o.1)

-- ---- a session is made to stand

-- its subscriptions are those that it has
stands_by : (lt eq : Bool) (b : ℕ) (x : Subscriber) (xs : List Subscriber) → nat_eq x.birth b ≡ eq → with_some (with_subs b (subs_of b xs) xs) ≡ with_some xs
    → with_some (cond lt (x ∷ with_subs b (cond lt (subs_of b xs) (cond eq x.subs [])) xs)
    (cond eq (subscriber b (cond lt (subs_of b xs) (cond eq x.subs [])) ∷ xs) (subscriber b (cond lt (subs_of b xs) (cond eq x.subs [])) ∷ x ∷ xs)))
    ≡ with_some (x ∷ xs)
stands_by true eq b x xs e more = ap (λ (ys : List Subscriber). beside x.subs x ys) more
stands_by false true b x xs e more =
    let same : x.birth ≡ b = grind (arith, nat_tests) in ap (λ n. beside x.subs (subscriber n x.subs) (with_some xs)) (sym same)
stands_by false false b x xs e more = refl

stands : (b : ℕ) (xs : List Subscriber) → with_some (with_subs b (subs_of b xs) xs) ≡ with_some xs
stands b [] = refl
stands b (x ∷ xs) = stands_by (nat_lt x.birth b) (nat_eq x.birth b) b x xs refl (stands b xs)

-- a session that stands only for what is to come has no subscriptions yet, and so changes nothing
pub some_standing : (b : ℕ) (filters : List (List ℕ)) (xs : List Subscriber) → with_some (standing b filters xs) ≡ with_some xs
some_standing b [] xs = refl
some_standing b (f ∷ fs) xs = stands b xs
