-- Lemmas on subscriptions that are taken out of the order of filters (MQTT 5.0, 3.10, 4.7).
use Rattle.std.proofs.Common.{◌≡◌, ℕ, Bool, true, false, cond, not, ◌&&◌, List, [], ◌∷◌, length, filter, refl, sym, ap, subst, ◌∙◌, nat_lt, nat_eq, arith, eqb-true}
use Rattle.std.specs.List.{count_by}
use Rattle.std.proofs.lemmas.Bool.Decides.{nat_tests}
use Rattle.mqtt_topic.specs.names.Levels.{levels}
use Rattle.mqtt_routes.specs.tree.Tree.{in_order, once}
use Rattle.mqtt_routes.specs.declared.routing.spot.Spot.{Spot}
use Rattle.mqtt_routes.specs.declared.routing.subscription.Subscription.{Subscription}
use Rattle.mqtt_routes.specs.routing.Subscriptions.{Subscriber, subs_of}
use Rattle.mqtt_routes.specs.routing.Spots.{matched_at, text_of, texts_of, is_spot, IsFirst, AreRising, IsIndex, without_birth}
use Rattle.mqtt_routes.proofs.routing_lemmas.IndexLemmas.{one_more}

-- ---- all of a session

module _ (b : ℕ) (old new : List Subscriber) (others : (c : ℕ) → nat_eq b c ≡ false → subs_of c new ≡ subs_of c old) where
  text_kept : (s : Spot) → nat_eq b s.birth ≡ false → text_of new s ≡ text_of old s
  text_kept s h = ap (λ (ss : List Subscription). matched_at ss s.at) (others s.birth h)

  first_by : (e : Bool) (t : List ℕ) (s : Spot) (ss : List Spot) → nat_eq b s.birth ≡ e → IsFirst t (texts_of old (s ∷ ss)) → IsFirst t (texts_of new (without_birth b ss)) → IsFirst t (texts_of new (cond e (without_birth b ss) (s ∷ without_birth b ss)))
  first_by true t s ss e h more = more
  first_by false t s ss e h more = (ap (λ (u : List ℕ). in_order (levels t) (levels u)) (text_kept s e) ∙ h.0, more)

  first_left : (t : List ℕ) (ss : List Spot) → IsFirst t (texts_of old ss) → IsFirst t (texts_of new (without_birth b ss))
  first_left t [] h = tt
  first_left t (s ∷ ss) h = first_by (nat_eq b s.birth) t s ss refl h (first_left t ss h.1)

  rising_by : (e : Bool) (s : Spot) (ss : List Spot) → nat_eq b s.birth ≡ e → IsFirst (text_of old s) (texts_of new (without_birth b ss)) → AreRising (texts_of new (without_birth b ss)) → AreRising (texts_of new (cond e (without_birth b ss) (s ∷ without_birth b ss)))
  rising_by true s ss e first more = more
  rising_by false s ss e first more = (subst (λ (t : List ℕ). IsFirst t (texts_of new (without_birth b ss))) (sym (text_kept s e)) first, more)

  rising_left : (ss : List Spot) → AreRising (texts_of old ss) → AreRising (texts_of new (without_birth b ss))
  rising_left [] h = tt
  rising_left (s ∷ ss) h = rising_by (nat_eq b s.birth) s ss refl (first_left (text_of old s) ss h.0) (rising_left ss h.1)

  is_other : (c n : ℕ) (s : Spot) → nat_eq b c ≡ true → nat_eq b s.birth ≡ false → is_spot c n s ≡ false
  is_other c n s h e = let no : nat_eq c s.birth ≡ false = grind (arith, nat_tests) in ap (λ t. t && nat_eq n s.at) no

  is_none : (c n : ℕ) (s : Spot) → nat_eq b c ≡ false → nat_eq b s.birth ≡ true → is_spot c n s ≡ false
  is_none c n s h e = let no : nat_eq c s.birth ≡ false = grind (arith, nat_tests) in ap (λ t. t && nat_eq n s.at) no

  count_by_case : (e d : Bool) (c n : ℕ) (s : Spot) (ss : List Spot) → nat_eq b s.birth ≡ e → nat_eq b c ≡ d → count_by (is_spot c n) (without_birth b ss) ≡ cond d 0 (count_by (is_spot c n) ss) →
      count_by (is_spot c n) (cond e (without_birth b ss) (s ∷ without_birth b ss)) ≡ cond d 0 (count_by (is_spot c n) (s ∷ ss))
  count_by_case true true c n s ss e d more = more
  count_by_case true false c n s ss e d more =
      let all = one_more (is_spot c n) s ss in let none : once (is_spot c n s) ≡ 0 = ap once (is_none c n s d e) in omega (arith, more, all, none)
  count_by_case false true c n s ss e d more =
      let all = one_more (is_spot c n) s (without_birth b ss) in let none : once (is_spot c n s) ≡ 0 = ap once (is_other c n s d e) in omega (arith, more, all, none)
  count_by_case false false c n s ss e d more =
      let all = one_more (is_spot c n) s (without_birth b ss) in let before = one_more (is_spot c n) s ss in omega (arith, more, all, before)

  count_left : (c n : ℕ) (ss : List Spot) → count_by (is_spot c n) (without_birth b ss) ≡ cond (nat_eq b c) 0 (count_by (is_spot c n) ss)
  count_left c n [] = none (nat_eq b c)
    where
      none : (d : Bool) → count_by (is_spot c n) [] ≡ cond d 0 (count_by (is_spot c n) [])
      none true = refl
      none false = refl
  count_left c n (s ∷ ss) = count_by_case (nat_eq b s.birth) (nat_eq b c) c n s ss refl refl (count_left c n ss)

  -- a session's subscriptions leave
  pub dropped_index : (spots : List Spot) → subs_of b new ≡ [] → IsIndex old spots → IsIndex new (without_birth b spots)
  dropped_index spots gone index = record {
    rising = rising_left spots index.rising;
    each = λ c n. each_by (nat_eq b c) c n refl;
  }
    where
      none_at : (n : ℕ) → once (nat_lt n 0) ≡ 0
      none_at n = let no : nat_lt n 0 ≡ false = grind (arith, nat_tests) in ap once no

      each_by : (d : Bool) (c n : ℕ) → nat_eq b c ≡ d → count_by (is_spot c n) (without_birth b spots) ≡ once (nat_lt n (length (subs_of c new)))
      each_by true c n d =
          let same : b ≡ c = eqb-true b c d in
          count_left c n spots ∙ ap (λ t. cond t 0 (count_by (is_spot c n) spots)) d ∙ sym (ap (λ (m : ℕ). once (nat_lt n (length (subs_of m new)))) (sym same) ∙ ap (λ (ss : List Subscription). once (nat_lt n (length ss))) gone ∙ none_at n)
      each_by false c n d =
          count_left c n spots ∙ ap (λ t. cond t 0 (count_by (is_spot c n) spots)) d ∙ index.each c n ∙ ap (λ (ss : List Subscription). once (nat_lt n (length ss))) (sym (others c d))

-- what `retain` leaves
left_by : (e : Bool) (b : ℕ) (s : Spot) (ss rest : List Spot) → nat_eq s.birth b ≡ e → cond (not e) (s ∷ rest) rest ≡ cond (nat_eq b s.birth) rest (s ∷ rest)
left_by true b s ss rest e = let is : nat_eq b s.birth ≡ true = grind (arith, nat_tests) in sym (ap (λ t. cond t rest (s ∷ rest)) is)
left_by false b s ss rest e = let is : nat_eq b s.birth ≡ false = grind (arith, nat_tests) in sym (ap (λ t. cond t rest (s ∷ rest)) is)

-- to keep the spots of other births is to take out a session's subscriptions
pub filter_birth : (b : ℕ) (ss : List Spot) → filter (λ s. not (nat_eq s.birth b)) ss ≡ without_birth b ss
filter_birth b [] = refl
filter_birth b (s ∷ ss) = ap (λ (rest : List Spot). cond (not (nat_eq s.birth b)) (s ∷ rest) rest) (filter_birth b ss) ∙ left_by (nat_eq s.birth b) b s ss (without_birth b ss) refl
