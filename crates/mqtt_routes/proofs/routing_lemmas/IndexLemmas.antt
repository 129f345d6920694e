-- Lemmas on all subscriptions in the order of their filters (MQTT 5.0, 4.7).
use Rattle.std.proofs.Common.{◌≡◌, ℕ, zero, suc, ◌+◌, ◌<◌, ◌≤◌, Bool, true, false, cond, ◌&&◌, ◌||◌, List, [], ◌∷◌, length, map, get_or, insert, refl, sym, ap, subst, ◌∙◌, nat_lt, nat_eq, arith, eqb-true}
use Rattle.std.specs.List.{count_by, list_any}
use Rattle.std.proofs.lemmas.Bool.Decides.{nat_tests}
use Rattle.std.proofs.lemmas.List.Sums.{sum_by-cons, sum_by-insert}
use Rattle.mqtt_topic.specs.names.Levels.{levels}
use Rattle.mqtt_routes.specs.tree.Tree.{AreOrdered, IsPlace, in_order, once}
use Rattle.mqtt_routes.proofs.tree_lemmas.PlaceLemmas.{order_itself, put_ordered, map_insert}
use Rattle.mqtt_routes.specs.declared.routing.spot.Spot.{Spot}
use Rattle.mqtt_routes.specs.routing.Subscriptions.{Subscriber, subs_of}
use Rattle.mqtt_routes.proofs.routing_lemmas.SpotLemmas.{split, lt-yes, lt-no, eq-yes, eq-below, eq-above}
use Rattle.mqtt_routes.specs.routing.Spots.{matched_at, text_of, texts_of, is_spot, IsFirst, AreRising, IsIndex}

-- ---- the order, by pairs and one after another

first_at : (t : List ℕ) (ts : List (List ℕ)) (j : ℕ) → IsFirst t ts → j < length ts → in_order (levels t) (levels (get_or ts j [])) ≡ true
first_at t [] j h l = absurd (omega (arith, l))
first_at t (u ∷ ts) zero h l = h.0
first_at t (u ∷ ts) (suc j) h l = first_at t ts j h.1 (omega (arith, l))

-- texts none of which comes after one behind it are in the order of their levels
pub ordered_from : (ts : List (List ℕ)) → AreRising ts → AreOrdered ts
ordered_from [] h i j l lt = absurd (omega (arith, lt))
ordered_from (t ∷ ts) h zero zero l lt = order_itself (levels t)
ordered_from (t ∷ ts) h zero (suc j) l lt = first_at t ts j h.0 (omega (arith, lt))
ordered_from (t ∷ ts) h (suc i) zero l lt = absurd (omega (arith, l))
ordered_from (t ∷ ts) h (suc i) (suc j) l lt = ordered_from ts h.1 i j (omega (arith, l)) (omega (arith, lt))

first_from : (t : List ℕ) (ts : List (List ℕ)) → ((j : ℕ) → j < length ts → in_order (levels t) (levels (get_or ts j [])) ≡ true) → IsFirst t ts
first_from t [] h = tt
first_from t (u ∷ ts) h = (h 0 (omega arith), first_from t ts (λ j l. h (suc j) (omega (arith, l))))

-- of texts in the order of their levels none comes after one behind it
pub rising_from : (ts : List (List ℕ)) → AreOrdered ts → AreRising ts
rising_from [] o = tt
rising_from (t ∷ ts) o = (first_from t ts (λ j l. o 0 (suc j) (omega arith) (omega (arith, l))), rising_from ts (λ i j l lt. o (suc i) (suc j) (omega (arith, l)) (omega (arith, lt))))

-- ---- each is there once

abbrev pub nowhere : Spot
nowhere = record { birth = 0; at = 0 }

-- how many spots pass a test: the first, if it does, and those of the others
pub one_more : (test : Spot → Bool) (x : Spot) (xs : List Spot) → count_by test (x ∷ xs) ≡ once (test x) + count_by test xs
one_more test x xs = sum_by-cons (λ y. once (test y)) x xs

-- if the spot at a place passes a test, at least one does
pub count_at : (test : Spot → Bool) (xs : List Spot) (k : ℕ) → k < length xs → test (get_or xs k nowhere) ≡ true → 1 ≤ count_by test xs
count_at test [] k l h = absurd (omega (arith, l))
count_at test (x ∷ xs) zero l h = let all = one_more test x xs in let one : once (test x) ≡ 1 = ap once h in omega (arith, all, one)
count_at test (x ∷ xs) (suc k) l h = let all = one_more test x xs in let more = count_at test xs k (omega (arith, l)) h in omega (arith, all, more)

some_by : (t : Bool) (n : ℕ) (rest : Bool) → 1 ≤ once t + n → (1 ≤ n → rest ≡ true) → (t || rest) ≡ true
some_by true n rest l more = refl
some_by false n rest l more = more (omega (arith, l))

-- if at least one spot passes a test, some spot passes it
pub count_some : (test : Spot → Bool) (xs : List Spot) → 1 ≤ count_by test xs → list_any test xs ≡ true
count_some test [] l = absurd (omega (arith, l))
count_some test (x ∷ xs) l = some_by (test x) (count_by test xs) (list_any test xs) (let all = one_more test x xs in omega (arith, all, l)) (count_some test xs)

itself : (s : Spot) → is_spot s.birth s.at s ≡ true
itself s = let a : nat_eq s.birth s.birth ≡ true = grind (arith, nat_tests) in let b : nat_eq s.at s.at ≡ true = grind (arith, nat_tests) in rw (a, b) refl

once_some : (n m : ℕ) → 1 ≤ once (nat_lt n m) → n < m
once_some n m l = by (nat_lt n m) refl l
  where
    by : (t : Bool) → nat_lt n m ≡ t → 1 ≤ once t → n < m
    by true e h = grind (arith, nat_tests)
    by false e h = absurd (omega (arith, h))

-- what is there is a subscription's
pub valid : (sessions : List Subscriber) (spots : List Spot) → IsIndex sessions spots → (k : ℕ) → k < length spots → (get_or spots k nowhere).at < length (subs_of (get_or spots k nowhere).birth sessions)
valid sessions spots index k l =
    let s = get_or spots k nowhere in
    let some = count_at (is_spot s.birth s.at) spots k l (itself s) in
    let is = index.each s.birth s.at in
    once_some s.at (length (subs_of s.birth sessions)) (omega (arith, some, is))

lt_more : (n m : ℕ) → once (nat_lt n m) + once (nat_eq n m) ≡ once (nat_lt n (suc m))
lt_more n m = split n m
    (λ l. rw (lt-yes n m l, eq-below n m l, lt-yes n (suc m) (omega (arith, l))) (omega arith))
    (λ s. rw (lt-no n m (omega (arith, s)), eq-yes n m s, lt-yes n (suc m) (omega (arith, s))) (omega arith))
    (λ l. rw (lt-no n m (omega (arith, l)), eq-above n m l, lt-no n (suc m) (omega (arith, l))) (omega arith))

-- ---- texts that stay

map_same : (f g : Spot → List ℕ) (xs : List Spot) → ((k : ℕ) → k < length xs → f (get_or xs k nowhere) ≡ g (get_or xs k nowhere)) → map f xs ≡ map g xs
map_same f g [] h = refl
map_same f g (x ∷ xs) h = ap (λ (t : List ℕ). t ∷ map f xs) (h 0 (omega arith)) ∙ ap (λ (ts : List (List ℕ)). g x ∷ ts) (map_same f g xs (λ k l. h (suc k) (omega (arith, l))))

module _ (old new : List Subscriber) (spots : List Spot) (index : IsIndex old spots) where
  -- the subscriptions of each session have the filters that they had
  pub same_index : ((c : ℕ) → length (subs_of c new) ≡ length (subs_of c old)) → ((c n : ℕ) → matched_at (subs_of c new) n ≡ matched_at (subs_of c old) n) → IsIndex new spots
  same_index long same = record {
    rising = subst AreRising (sym (map_same (text_of new) (text_of old) spots (λ k l. same (get_or spots k nowhere).birth (get_or spots k nowhere).at))) index.rising;
    each = λ c n. index.each c n ∙ ap (λ m. once (nat_lt n m)) (sym (long c));
  }

  module _ (b : ℕ) (filter : List ℕ) (place : ℕ)
      (long : (c : ℕ) → length (subs_of c new) ≡ cond (nat_eq c b) (suc (length (subs_of b old))) (length (subs_of c old)))
      (same : (c n : ℕ) → n < length (subs_of c old) → matched_at (subs_of c new) n ≡ matched_at (subs_of c old) n)
      (last : matched_at (subs_of b new) (length (subs_of b old)) ≡ filter)
      (is : IsPlace (texts_of old spots) filter place) where
    abbrev added : Spot
    added = record { birth = b; at = length (subs_of b old) }

    kept : map (text_of new) spots ≡ map (text_of old) spots
    kept = map_same (text_of new) (text_of old) spots (λ k l. same (get_or spots k nowhere).birth (get_or spots k nowhere).at (valid old spots index k l))

    texts : texts_of new (insert spots place added) ≡ insert (texts_of old spots) place filter
    texts =
        map_insert (text_of new) spots place added
        ∙ ap (λ (ts : List (List ℕ)). insert ts place (matched_at (subs_of b new) (length (subs_of b old)))) kept
        ∙ ap (λ (t : List ℕ). insert (texts_of old spots) place t) last

    counted : (test : Spot → Bool) → count_by test (insert spots place added) ≡ count_by test spots + once (test added)
    counted test = sum_by-insert (λ y. once (test y)) spots place added

    count_by_case : (e : Bool) (c n : ℕ) → nat_eq c b ≡ e → once (nat_lt n (length (subs_of c old))) + once (nat_eq c b && nat_eq n (length (subs_of b old))) ≡ once (nat_lt n (cond e (suc (length (subs_of b old))) (length (subs_of c old))))
    count_by_case true c n h =
        let same : c ≡ b = eqb-true c b h in
        ap (λ m. once (nat_lt n (length (subs_of m old))) + once (nat_eq c b && nat_eq n (length (subs_of b old)))) same
        ∙ ap (λ t. once (nat_lt n (length (subs_of b old))) + once (t && nat_eq n (length (subs_of b old)))) h
        ∙ lt_more n (length (subs_of b old))
    count_by_case false c n h = rw h (omega arith)

    -- one is added at its place
    pub added_index : IsIndex new (insert spots place added)
    added_index = record {
      rising = rising_from (texts_of new (insert spots place added)) (subst AreOrdered (sym texts) (put_ordered (texts_of old spots) filter place (ordered_from (texts_of old spots) index.rising) is));
      each = λ c n.
          let all = counted (is_spot c n) in
          let before = index.each c n in
          let sum = count_by_case (nat_eq c b) c n refl in
          let is_long = ap (λ m. once (nat_lt n m)) (long c) in
          omega (arith, all, before, sum, is_long);
    }
