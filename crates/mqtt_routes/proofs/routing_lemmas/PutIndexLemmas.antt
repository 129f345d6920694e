-- Lemmas on the order of filters once a subscription is put, or a session stands (MQTT 5.0, 3.8, 4.7).
use Rattle.std.proofs.Common.{◌≡◌, ℕ, suc, ◌<◌, Bool, true, false, cond, List, [], ◌∷◌, ◌++◌, length, insert, refl, sym, ap, ◌∙◌, nat_eq, eqb-true, arith}
use Rattle.std.proofs.lemmas.Bool.Decides.{nat_tests}
use Rattle.mqtt_topic.specs.names.Filters.{matching_part_of}
use Rattle.mqtt_routes.specs.tree.Tree.{IsPlace}
use Rattle.mqtt_routes.specs.declared.routing.spot.Spot.{Spot}
use Rattle.mqtt_routes.specs.declared.routing.subscription.Subscription.{Subscription}
use Rattle.mqtt_routes.specs.routing.Subscriptions.{Subscriber, AreInOrder, subs_of, put, has_filter, subscribed, standing}
use Rattle.mqtt_routes.specs.routing.Spots.{matched_at, texts_of, IsIndex}
use Rattle.mqtt_routes.proofs.routing_lemmas.PlaceLemmas.{put-push}
use Rattle.mqtt_routes.proofs.routing_lemmas.SubsLemmas.{subs_of-with_subs, put_length, put_matched, push_matched, push_matched_last, length_push}
use Rattle.mqtt_routes.proofs.routing_lemmas.IndexLemmas.{same_index, added_index}

-- ---- a session stands

stood_by : (e : Bool) (b c : ℕ) (xs : List Subscriber) → nat_eq c b ≡ e → cond e (subs_of b xs) (subs_of c xs) ≡ subs_of c xs
stood_by true b c xs h = ap (λ n. subs_of n xs) (sym (eqb-true c b h))
stood_by false b c xs h = refl

-- that a session stands in the list changes nobody's subscriptions
pub subs_of-standing : (b c : ℕ) (filters : List (List ℕ)) (xs : List Subscriber) → AreInOrder xs → subs_of c (standing b filters xs) ≡ subs_of c xs
subs_of-standing b c [] xs o = refl
subs_of-standing b c (f ∷ fs) xs o = subs_of-with_subs b c (subs_of b xs) xs o ∙ stood_by (nat_eq c b) b c xs refl

-- that a session stands in the list leaves the order of filters what it has to be
pub stood_index : (b : ℕ) (filters : List (List ℕ)) (old : List Subscriber) (spots : List Spot) → AreInOrder old → IsIndex old spots → IsIndex (standing b filters old) spots
stood_index b filters old spots o index =
    same_index old (standing b filters old) spots index
    (λ c. ap length (subs_of-standing b c filters old o))
    (λ c n. ap (λ (ss : List Subscription). matched_at ss n) (subs_of-standing b c filters old o))

-- ---- a subscription is put

module _ (b : ℕ) (s : Subscription) (old : List Subscriber) (spots : List Spot) (o : AreInOrder old) (index : IsIndex old spots) where
  subs_after : (c : ℕ) → subs_of c (subscribed b s old) ≡ cond (nat_eq c b) (put s (subs_of b old)) (subs_of c old)
  subs_after c = subs_of-with_subs b c (put s (subs_of b old)) old o

  -- in place of another
  module _ (has : has_filter s.filter (subs_of b old) ≡ true) where
    long_by : (e : Bool) (c : ℕ) → nat_eq c b ≡ e → length (cond e (put s (subs_of b old)) (subs_of c old)) ≡ length (subs_of c old)
    long_by true c h = put_length s (subs_of b old) has ∙ ap (λ n. length (subs_of n old)) (sym (eqb-true c b h))
    long_by false c h = refl

    matched_by : (e : Bool) (c n : ℕ) → nat_eq c b ≡ e → matched_at (cond e (put s (subs_of b old)) (subs_of c old)) n ≡ matched_at (subs_of c old) n
    matched_by true c n h = put_matched s (subs_of b old) n has ∙ ap (λ m. matched_at (subs_of m old) n) (sym (eqb-true c b h))
    matched_by false c n h = refl

    -- a subscription in place of another leaves the order of filters as it is
    pub replaced_index : IsIndex (subscribed b s old) spots
    replaced_index = same_index old (subscribed b s old) spots index
        (λ c. ap length (subs_after c) ∙ long_by (nat_eq c b) c refl)
        (λ c n. ap (λ (ss : List Subscription). matched_at ss n) (subs_after c) ∙ matched_by (nat_eq c b) c n refl)

  -- as the last
  module _ (none : has_filter s.filter (subs_of b old) ≡ false) (place : ℕ) (is : IsPlace (texts_of old spots) (matching_part_of s.filter) place) where
    more_by : (e : Bool) (c : ℕ) → nat_eq c b ≡ e → length (cond e (put s (subs_of b old)) (subs_of c old)) ≡ cond e (suc (length (subs_of b old))) (length (subs_of c old))
    more_by true c h = ap length (put-push s (subs_of b old) none) ∙ length_push s (subs_of b old)
    more_by false c h = refl

    kept_by : (e : Bool) (c n : ℕ) → nat_eq c b ≡ e → n < length (subs_of c old) → matched_at (cond e (put s (subs_of b old)) (subs_of c old)) n ≡ matched_at (subs_of c old) n
    kept_by true c n h l =
        let same : c ≡ b = eqb-true c b h in
        ap (λ (ss : List Subscription). matched_at ss n) (put-push s (subs_of b old) none)
        ∙ ap (λ m. matched_at (subs_of m old ++ s ∷ []) n) (sym same)
        ∙ push_matched s (subs_of c old) n l
    kept_by false c n h l = refl

    itself : nat_eq b b ≡ true
    itself = grind (arith, nat_tests)

    last : matched_at (subs_of b (subscribed b s old)) (length (subs_of b old)) ≡ matching_part_of s.filter
    last =
        ap (λ (ss : List Subscription). matched_at ss (length (subs_of b old))) (subs_after b ∙ ap (λ t. cond t (put s (subs_of b old)) (subs_of b old)) itself ∙ put-push s (subs_of b old) none)
        ∙ push_matched_last s (subs_of b old)

    -- a new subscription stands at the place that was found for its filter
    pub put_index : IsIndex (subscribed b s old) (insert spots place (record { birth = b; at = length (subs_of b old) }))
    put_index = added_index old (subscribed b s old) spots index b (matching_part_of s.filter) place
        (λ c. ap length (subs_after c) ∙ more_by (nat_eq c b) c refl)
        (λ c n l. ap (λ (ss : List Subscription). matched_at ss n) (subs_after c) ∙ kept_by (nat_eq c b) c n refl l)
        last is
