-- Lemmas on one subscription that leaves the order of filters: those of its session behind it move down (MQTT 5.0, 3.10.4, 4.7).
use Rattle.std.proofs.Common.{◌≡◌, ℕ, suc, ◌-◌, ◌<◌, ◌≤◌, Bool, true, false, cond, not, ◌&&◌, List, [], ◌∷◌, length, map, filter, refl, sym, ap, subst, ◌∙◌, nat_lt, nat_eq, arith, eqb-true}
use Rattle.std.specs.List.{count_by}
use Rattle.std.proofs.lemmas.Bool.{and_parts}
use Rattle.std.proofs.lemmas.Bool.Decides.{nat_tests}
use Rattle.mqtt_topic.specs.names.Levels.{levels}
use Rattle.mqtt_routes.specs.tree.Tree.{in_order, once}
use Rattle.mqtt_routes.specs.declared.routing.spot.Spot.{Spot}
use Rattle.mqtt_routes.specs.declared.routing.subscription.Subscription.{Subscription}
use Rattle.mqtt_routes.specs.routing.Subscriptions.{Subscriber, subs_of}
use Rattle.mqtt_routes.specs.routing.Spots.{matched_at, text_of, texts_of, is_spot, IsFirst, AreRising, IsIndex, moved_down, without_spot}
use Rattle.mqtt_routes.proofs.routing_lemmas.IndexLemmas.{one_more}

-- the spot of a number once that of another is gone, in the numbers of before
abbrev before : ℕ → ℕ → ℕ
before a n = cond (nat_lt n a) n (suc n)

none_second : (x y : Bool) → y ≡ false → (x && y) ≡ false
none_second true y h = h
none_second false y h = refl

neither : (n m k : ℕ) → n < m → n < k → nat_eq n m ≡ nat_eq n k
neither n m k l h = let x : nat_eq n m ≡ false = grind (arith, nat_tests) in let y : nat_eq n k ≡ false = grind (arith, nat_tests) in x ∙ sym y

one_down : (n k : ℕ) → 0 < k → nat_eq n (k - 1) ≡ nat_eq (suc n) k
one_down n k l = by (nat_eq (suc n) k) refl
  where
    by : (t : Bool) → nat_eq (suc n) k ≡ t → nat_eq n (k - 1) ≡ t
    by true e = grind (arith, nat_tests)
    by false e = grind (arith, nat_tests)

neither_above : (n k : ℕ) → k < n → nat_eq n k ≡ nat_eq (suc n) k
neither_above n k l = let x : nat_eq n k ≡ false = grind (arith, nat_tests) in let y : nat_eq (suc n) k ≡ false = grind (arith, nat_tests) in x ∙ sym y

module _ (b a : ℕ) (old new : List Subscriber)
    (others : (c : ℕ) → nat_eq b c ≡ false → subs_of c new ≡ subs_of c old)
    (below : (n : ℕ) → n < a → matched_at (subs_of b new) n ≡ matched_at (subs_of b old) n)
    (above : (n : ℕ) → a < n → matched_at (subs_of b new) (n - 1) ≡ matched_at (subs_of b old) n)
    (long : suc (length (subs_of b new)) ≡ length (subs_of b old))
    (within : a < length (subs_of b old)) where
  moved_by : (d e : Bool) (s : Spot) → nat_eq b s.birth ≡ d → nat_lt a s.at ≡ e → (d && nat_eq a s.at) ≡ false →
      text_of new (cond (d && e) (record { birth = s.birth; at = s.at - 1 }) s) ≡ text_of old s
  moved_by true true s d e h =
      let same : b ≡ s.birth = eqb-true b s.birth d in
      let less : a < s.at = grind (arith, nat_tests) in
      ap (λ c. matched_at (subs_of c new) (s.at - 1)) (sym same) ∙ above s.at less ∙ ap (λ c. matched_at (subs_of c old) s.at) same
  moved_by true false s d e h =
      let same : b ≡ s.birth = eqb-true b s.birth d in
      let less : s.at < a = grind (arith, nat_tests) in
      ap (λ c. matched_at (subs_of c new) s.at) (sym same) ∙ below s.at less ∙ ap (λ c. matched_at (subs_of c old) s.at) same
  moved_by false e s d k h = ap (λ (ss : List Subscription). matched_at ss s.at) (others s.birth d)

  text_moved : (s : Spot) → is_spot b a s ≡ false → text_of new (moved_down b a s) ≡ text_of old s
  text_moved s h = moved_by (nat_eq b s.birth) (nat_lt a s.at) s refl refl h

  first_by : (e : Bool) (t : List ℕ) (s : Spot) (ss : List Spot) → is_spot b a s ≡ e → IsFirst t (texts_of old (s ∷ ss)) → IsFirst t (texts_of new (without_spot b a ss)) → IsFirst t (texts_of new (cond e (without_spot b a ss) (moved_down b a s ∷ without_spot b a ss)))
  first_by true t s ss e h more = more
  first_by false t s ss e h more = (ap (λ (u : List ℕ). in_order (levels t) (levels u)) (text_moved s e) ∙ h.0, more)

  first_left : (t : List ℕ) (ss : List Spot) → IsFirst t (texts_of old ss) → IsFirst t (texts_of new (without_spot b a ss))
  first_left t [] h = tt
  first_left t (s ∷ ss) h = first_by (is_spot b a s) t s ss refl h (first_left t ss h.1)

  rising_by : (e : Bool) (s : Spot) (ss : List Spot) → is_spot b a s ≡ e → IsFirst (text_of old s) (texts_of new (without_spot b a ss)) → AreRising (texts_of new (without_spot b a ss)) → AreRising (texts_of new (cond e (without_spot b a ss) (moved_down b a s ∷ without_spot b a ss)))
  rising_by true s ss e first more = more
  rising_by false s ss e first more = (subst (λ (t : List ℕ). IsFirst t (texts_of new (without_spot b a ss))) (sym (text_moved s e)) first, more)

  rising_left : (ss : List Spot) → AreRising (texts_of old ss) → AreRising (texts_of new (without_spot b a ss))
  rising_left [] h = tt
  rising_left (s ∷ ss) h = rising_by (is_spot b a s) s ss refl (first_left (text_of old s) ss h.0) (rising_left ss h.1)

  -- ---- how often each is there: in the numbers of before

  -- the number to look for
  abbrev number : ℕ → ℕ → ℕ
  number c n = cond (nat_eq b c) (before a n) n

  gone_by : (d l : Bool) (c n : ℕ) (s : Spot) → is_spot b a s ≡ true → nat_eq b c ≡ d → nat_lt n a ≡ l → is_spot c (cond d (cond l n (suc n)) n) s ≡ false
  gone_by true true c n s h e k = let parts = and_parts (nat_eq b s.birth) (nat_eq a s.at) h in let x = parts.1 in let no : nat_eq n s.at ≡ false = grind (arith, nat_tests) in none_second (nat_eq c s.birth) (nat_eq n s.at) no
  gone_by true false c n s h e k = let parts = and_parts (nat_eq b s.birth) (nat_eq a s.at) h in let x = parts.1 in let no : nat_eq (suc n) s.at ≡ false = grind (arith, nat_tests) in none_second (nat_eq c s.birth) (nat_eq (suc n) s.at) no
  gone_by false l c n s h e k = let parts = and_parts (nat_eq b s.birth) (nat_eq a s.at) h in let x = parts.0 in let no : nat_eq c s.birth ≡ false = grind (arith, nat_tests) in ap (λ t. t && nat_eq n s.at) no

  stays_by : (d l m u : Bool) (c n : ℕ) (s : Spot) → is_spot b a s ≡ false → nat_eq b c ≡ d → nat_lt n a ≡ l → nat_eq b s.birth ≡ m → nat_lt a s.at ≡ u →
      is_spot c n (cond (m && u) (record { birth = s.birth; at = s.at - 1 }) s) ≡ is_spot c (cond d (cond l n (suc n)) n) s
  stays_by false l false u c n s h e k f g = refl
  stays_by true l false u c n s h e k f g = let no : nat_eq c s.birth ≡ false = grind (arith, nat_tests) in ap (λ t. t && nat_eq n s.at) no ∙ sym (ap (λ t. t && nat_eq (cond l n (suc n)) s.at) no)
  stays_by false l true true c n s h e k f g = let no : nat_eq c s.birth ≡ false = grind (arith, nat_tests) in ap (λ t. t && nat_eq n (s.at - 1)) no ∙ sym (ap (λ t. t && nat_eq n s.at) no)
  stays_by true true true true c n s h e k f g = let same : nat_eq n (s.at - 1) ≡ nat_eq n s.at = neither n (s.at - 1) s.at (let less : n < a = grind (arith, nat_tests) in let more : a < s.at = grind (arith, nat_tests) in omega (arith, less, more)) (let less : n < a = grind (arith, nat_tests) in let more : a < s.at = grind (arith, nat_tests) in omega (arith, less, more)) in ap (λ t. nat_eq c s.birth && t) same
  stays_by true false true true c n s h e k f g = let more : a < s.at = grind (arith, nat_tests) in ap (λ t. nat_eq c s.birth && t) (one_down n s.at (omega (arith, more)))
  stays_by false l true false c n s h e k f g = refl
  stays_by true true true false c n s h e k f g = refl
  stays_by true false true false c n s h e k f g =
      let apart : nat_eq a s.at ≡ false = ap (λ t. t && nat_eq a s.at) (sym f) ∙ h in
      let most : s.at < a = grind (arith, nat_tests) in
      let from : a ≤ n = grind (arith, nat_tests) in
      ap (λ t. nat_eq c s.birth && t) (neither_above n s.at (omega (arith, most, from)))

  count_by_case : (e : Bool) (c n : ℕ) (s : Spot) (ss : List Spot) → is_spot b a s ≡ e → count_by (is_spot c n) (without_spot b a ss) ≡ count_by (is_spot c (number c n)) ss →
      count_by (is_spot c n) (cond e (without_spot b a ss) (moved_down b a s ∷ without_spot b a ss)) ≡ count_by (is_spot c (number c n)) (s ∷ ss)
  count_by_case true c n s ss e more =
      let all = one_more (is_spot c (number c n)) s ss in
      let none : once (is_spot c (number c n) s) ≡ 0 = ap once (gone_by (nat_eq b c) (nat_lt n a) c n s e refl refl) in
      omega (arith, more, all, none)
  count_by_case false c n s ss e more =
      let all = one_more (is_spot c n) (moved_down b a s) (without_spot b a ss) in
      let same = one_more (is_spot c (number c n)) s ss in
      let one = ap once (stays_by (nat_eq b c) (nat_lt n a) (nat_eq b s.birth) (nat_lt a s.at) c n s e refl refl refl refl) in
      omega (arith, more, all, same, one)

  count_left : (c n : ℕ) (ss : List Spot) → count_by (is_spot c n) (without_spot b a ss) ≡ count_by (is_spot c (number c n)) ss
  count_left c n [] = refl
  count_left c n (s ∷ ss) = count_by_case (is_spot b a s) c n s ss refl (count_left c n ss)

  long_by : (d l : Bool) (c n : ℕ) → nat_eq b c ≡ d → nat_lt n a ≡ l → once (nat_lt (cond d (cond l n (suc n)) n) (length (subs_of c old))) ≡ once (nat_lt n (length (subs_of c new)))
  long_by true true c n d l =
      let same : b ≡ c = eqb-true b c d in
      ap (λ m. once (nat_lt n (length (subs_of m old)))) (sym same)
      ∙ (let yes : nat_lt n (length (subs_of b old)) ≡ true = grind (arith, nat_tests) in let nor : nat_lt n (length (subs_of b new)) ≡ true = grind (arith, nat_tests) in ap once (yes ∙ sym nor))
      ∙ ap (λ m. once (nat_lt n (length (subs_of m new)))) same
  long_by true false c n d l =
      let same : b ≡ c = eqb-true b c d in
      ap (λ m. once (nat_lt (suc n) (length (subs_of m old)))) (sym same)
      ∙ ap (λ m. once (nat_lt (suc n) m)) (sym long)
      ∙ ap once (shift n (length (subs_of b new)))
      ∙ ap (λ m. once (nat_lt n (length (subs_of m new)))) same
    where
      shift : (n m : ℕ) → nat_lt (suc n) (suc m) ≡ nat_lt n m
      shift n m = grind (arith, nat_tests)
  long_by false l c n d k = ap (λ (ss : List Subscription). once (nat_lt n (length ss))) (sym (others c d))

  -- without the spot of a subscription that left, the order of filters is that of what is left
  pub left_index : (spots : List Spot) → IsIndex old spots → IsIndex new (without_spot b a spots)
  left_index spots index = record {
    rising = rising_left spots index.rising;
    each = λ c n. count_left c n spots ∙ index.each c (number c n) ∙ long_by (nat_eq b c) (nat_lt n a) c n refl refl;
  }

-- what `retain` leaves, once the others have moved
left_by : (d e : Bool) (b a : ℕ) (s : Spot) (rest : List Spot) → nat_eq b s.birth ≡ d → nat_eq a s.at ≡ e → map (moved_down b a) (cond (not (d && e)) (s ∷ rest) rest) ≡ cond (d && e) (map (moved_down b a) rest) (moved_down b a s ∷ map (moved_down b a) rest)
left_by true true b a s rest d e = refl
left_by true false b a s rest d e = refl
left_by false e b a s rest d k = refl

-- to take out a spot and then move down those behind it is to remove the subscription from the order
pub left_and_moved : (b a : ℕ) (ss : List Spot) → map (moved_down b a) (filter (λ s. not (is_spot b a s)) ss) ≡ without_spot b a ss
left_and_moved b a [] = refl
left_and_moved b a (s ∷ ss) =
    left_by (nat_eq b s.birth) (nat_eq a s.at) b a s (filter (λ t. not (is_spot b a t)) ss) refl refl
    ∙ ap (λ (rest : List Spot). cond (is_spot b a s) rest (moved_down b a s ∷ rest)) (left_and_moved b a ss)
