-- Lemmas on the spots that are found by the filters that match a topic (MQTT 5.0, 4.7).
use Rattle.std.proofs.Common.{◌≡◌, ℕ, zero, suc, ◌+◌, ◌<◌, ◌≤◌, Bool, true, false, ◌&&◌, ◌||◌, List, [], ◌∷◌, ◌++◌, length, map, take, get_or, refl, sym, ap, ◌∙◌, nat_lt, nat_eq, arith, eqb-true}
use Rattle.std.specs.Prelude.{⊤}
use Rattle.std.specs.List.{count_by, list_any}
use Rattle.std.specs.List.Sorted.{IsPermutation}
use Rattle.std.proofs.lemmas.Bool.{and_parts}
use Rattle.std.proofs.lemmas.Bool.Decides.{nat_tests}
use Rattle.std.proofs.lemmas.List.{length-map}
use Rattle.std.proofs.lemmas.List.Sorted.{sum_by-IsPermutation}
use Rattle.std.proofs.lemmas.List.Sums.{sum_by-cons}
use Rattle.mqtt_topic.specs.names.Matching.{is_match}
use Rattle.mqtt_routes.specs.tree.Tree.{AreMatching, once}
use Rattle.mqtt_routes.specs.declared.routing.spot.Spot.{Spot}
use Rattle.mqtt_routes.specs.routing.Subscriptions.{Subscriber, AreInOrder, subs_of}
use Rattle.mqtt_routes.specs.routing.Intended.{Publication}
use Rattle.mqtt_routes.specs.routing.Spots.{matched_at, text_of, texts_of, is_spot, IsIndex}
use Rattle.mqtt_routes.specs.routing.Found.{spots_in}
use Rattle.mqtt_routes.proofs.routing_lemmas.SpotLemmas.{lt-yes}
use Rattle.mqtt_routes.proofs.routing_lemmas.IndexLemmas.{nowhere, one_more, count_at, count_some}
use Rattle.mqtt_routes.proofs.routing_lemmas.RisingLemmas.{AreRisingSpots, same_spots, rising_in, count_in, wanted_is}

-- ---- one spot, by its number

spot_by : (t : Bool) (test : Spot → Bool) (s : Spot) (ss : List Spot) → test s ≡ t → (t || list_any test ss) ≡ true →
    (list_any test ss ≡ true → (k : ℕ) × (k < length ss) × (test (get_or ss k nowhere) ≡ true)) → (k : ℕ) × (k < length (s ∷ ss)) × (test (get_or (s ∷ ss) k nowhere) ≡ true)
spot_by true test s ss e h more = (zero, omega arith, e)
spot_by false test s ss e h more = let r = more h in (suc r.0, omega (arith, r.1), r.2)

spot_at : (test : Spot → Bool) (ss : List Spot) → list_any test ss ≡ true → (k : ℕ) × (k < length ss) × (test (get_or ss k nowhere) ≡ true)
spot_at test [] h = cc
spot_at test (s ∷ ss) h = spot_by (test s) test s ss refl h (spot_at test ss)

text_at : (f : Spot → List ℕ) (ss : List Spot) (k : ℕ) → k < length ss → get_or (map f ss) k [] ≡ f (get_or ss k nowhere)
text_at f [] k l = absurd (omega (arith, l))
text_at f (s ∷ ss) zero l = refl
text_at f (s ∷ ss) (suc k) l = text_at f ss k (omega (arith, l))

-- what passes a test once stands at one number
alone : (test : Spot → Bool) (ss : List Spot) (j k : ℕ) → count_by test ss ≤ 1 → j < length ss → k < length ss → test (get_or ss j nowhere) ≡ true → test (get_or ss k nowhere) ≡ true → j ≡ k
alone test [] j k one l m a b = absurd (omega (arith, l))
alone test (s ∷ ss) zero zero one l m a b = refl
alone test (s ∷ ss) zero (suc k) one l m a b =
    let all = one_more test s ss in
    let head : once (test s) ≡ 1 = ap once a in
    let more = count_at test ss k (omega (arith, m)) b in
    absurd (omega (arith, all, head, more, one))
alone test (s ∷ ss) (suc j) zero one l m a b =
    let all = one_more test s ss in
    let head : once (test s) ≡ 1 = ap once b in
    let more = count_at test ss j (omega (arith, l)) a in
    absurd (omega (arith, all, head, more, one))
alone test (s ∷ ss) (suc j) (suc k) one l m a b =
    let all = one_more test s ss in
    ap suc (alone test ss j k (omega (arith, all, one)) (omega (arith, l)) (omega (arith, m)) a b)

false_by : (b : Bool) → (b ≡ true → ⊥) → b ≡ false
false_by true h = absurd (h refl)
false_by false h = refl

same_by : (a b : Bool) → (a ≡ true → b ≡ true) → (b ≡ true → a ≡ true) → a ≡ b
same_by true b f g = sym (f refl)
same_by false b f g = sym (false_by b (λ e. let h = g e in cc))

-- ---- numbers that were found

number_more : (test : ℕ → Bool) (n : ℕ) (ns : List ℕ) → count_by test (n ∷ ns) ≡ once (test n) + count_by test ns
number_more test n ns = sum_by-cons (λ m. once (test m)) n ns

found_once : (ns : List ℕ) (i d : ℕ) → i < length ns → 1 ≤ count_by (nat_eq (get_or ns i d)) ns
found_once [] i d l = absurd (omega (arith, l))
found_once (n ∷ ns) zero d l =
    let all = number_more (nat_eq n) n ns in
    let itself : nat_eq n n ≡ true = grind (arith, nat_tests) in
    let one : once (nat_eq n n) ≡ 1 = ap once itself in
    omega (arith, all, one)
found_once (n ∷ ns) (suc i) d l =
    let all = number_more (nat_eq (get_or ns i d)) n ns in
    let more = found_once ns i d (omega (arith, l)) in
    omega (arith, all, more)

and_some : (a b : Bool) → 1 ≤ once (a && b) → a ≡ true
and_some true b l = refl
and_some false b l = absurd (omega (arith, l))

-- numbers below one
abbrev AreBelow : ℕ → List ℕ → Type 0
AreBelow n [] = ⊤
AreBelow n (k ∷ ks) = (k < n) × AreBelow n ks

below_from : (n : ℕ) (ks : List ℕ) → ((i : ℕ) → i < length ks → get_or ks i 0 < n) → AreBelow n ks
below_from n [] h = tt
below_from n (k ∷ ks) h = (h 0 (omega arith), below_from n ks (λ i l. h (suc i) (omega (arith, l))))

none_passes : (ks : List ℕ) → count_by (λ k. false) ks ≡ 0
none_passes [] = refl
none_passes (k ∷ ks) = let all = number_more (λ m. false) k ks in let more = none_passes ks in omega (arith, all, more)

module _ (spots : List Spot) where
  -- the spots of numbers
  abbrev pub spots_at : List ℕ → List Spot
  spots_at ks = map (λ k. get_or spots k nowhere) ks

  count_numbers : (test : Spot → Bool) (one : ℕ → Bool) (ks : List ℕ) → AreBelow (length spots) ks → ((k : ℕ) → k < length spots → test (get_or spots k nowhere) ≡ one k) → count_by test (spots_at ks) ≡ count_by one ks
  count_numbers test one [] below same = refl
  count_numbers test one (k ∷ ks) below same =
      let all = one_more test (get_or spots k nowhere) (spots_at ks) in
      let others = number_more one k ks in
      let head : once (test (get_or spots k nowhere)) ≡ once (one k) = ap once (same k below.0) in
      let more = count_numbers test one ks below.1 same in
      omega (arith, all, others, head, more)

  pushed : (ks : List ℕ) (i d : ℕ) (z : Spot) → i < length ks → z ≡ get_or spots (get_or ks i d) nowhere → spots_at (take i ks) ++ z ∷ [] ≡ spots_at (take (i + 1) ks)
  pushed [] i d z l e = absurd (omega (arith, l))
  pushed (k ∷ ks) zero d z l e = ap (λ (x : Spot). x ∷ []) e
  pushed (k ∷ ks) (suc i) d z l e =
      let next : suc i + 1 ≡ suc (i + 1) = omega arith in
      ap (λ (xs : List Spot). get_or spots k nowhere ∷ xs) (pushed ks i d z (omega (arith, l)) e) ∙ sym (ap (λ n. spots_at (take n (k ∷ ks))) next)

  -- one number more has been looked at
  pub numbers_next : (ks : List ℕ) (i d : ℕ) (before after : List Spot) (z : Spot) → i < length ks → z ≡ get_or spots (get_or ks i d) nowhere → after ≡ before ++ z ∷ [] →
      before ≡ spots_at (take i ks) → after ≡ spots_at (take (i + 1) ks)
  numbers_next ks i d before after z within is made h = made ∙ ap (λ (xs : List Spot). xs ++ z ∷ []) h ∙ pushed ks i d z within is

-- the numbers of what matches, in another order
pub are_moved : (texts : List (List ℕ)) (name : List ℕ) (found moved : List ℕ) → IsPermutation found moved → AreMatching texts name found → AreMatching texts name moved
are_moved texts name found moved same are = λ i. sum_by-IsPermutation (λ m. once (nat_eq i m)) found moved same ∙ are i

module _ (p : Publication) (sessions : List Subscriber) (spots : List Spot) (found : List ℕ) (index : IsIndex sessions spots) (are : AreMatching (texts_of sessions spots) p.topic found) where
  -- each number that was found is a spot's
  pub found_within : (i d : ℕ) → i < length found → get_or found i d < length spots
  found_within i d l =
      let k = get_or found i d in
      let some = found_once found i d l in
      let is = are k in
      let low = and_some (nat_lt k (length (texts_of sessions spots))) (is_match (get_or (texts_of sessions spots) k []) p.topic) (omega (arith, some, is)) in
      let less : k < length (texts_of sessions spots) = grind (arith, nat_tests) in
      let long = length-map spots (text_of sessions) in
      omega (arith, less, long)

  below : AreBelow (length spots) found
  below = below_from (length spots) found (λ i l. found_within i 0 l)

  module _ (b n : ℕ) where
    abbrev wanted : ℕ
    wanted = once (nat_lt n (length (subs_of b sessions)) && is_match (matched_at (subs_of b sessions) n) p.topic)

    -- no subscription has this number
    count_none : nat_lt n (length (subs_of b sessions)) ≡ false → count_by (is_spot b n) (spots_at spots found) ≡ wanted
    count_none e =
        let none : count_by (is_spot b n) spots ≡ 0 = index.each b n ∙ ap once e in
        count_numbers spots (is_spot b n) (λ k. false) found below
        (λ k l. false_by (is_spot b n (get_or spots k nowhere)) (λ h. let some = count_at (is_spot b n) spots k l h in omega (arith, some, none)))
        ∙ none_passes found
        ∙ sym (ap (λ t. once (t && is_match (matched_at (subs_of b sessions) n) p.topic)) e)

    count_one : nat_lt n (length (subs_of b sessions)) ≡ true → count_by (is_spot b n) (spots_at spots found) ≡ wanted
    count_one e =
        let one : count_by (is_spot b n) spots ≡ 1 = index.each b n ∙ ap once e in
        let at = spot_at (is_spot b n) spots (count_some (is_spot b n) spots (omega (arith, one))) in
        let k = at.0 in
        let s = get_or spots k nowhere in
        let parts = and_parts (nat_eq b s.birth) (nat_eq n s.at) at.2 in
        let same_birth : b ≡ s.birth = eqb-true b s.birth parts.0 in
        let same_at : n ≡ s.at = eqb-true n s.at parts.1 in
        let text : get_or (texts_of sessions spots) k [] ≡ matched_at (subs_of b sessions) n =
        text_at (text_of sessions) spots k at.1 ∙ sym (ap (λ c. matched_at (subs_of c sessions) n) same_birth ∙ ap (λ i. matched_at (subs_of s.birth sessions) i) same_at) in
        let within : nat_lt k (length (texts_of sessions spots)) ≡ true = let l = at.1 in let long = length-map spots (text_of sessions) in lt-yes k (length (texts_of sessions spots)) (omega (arith, l, long)) in
        let yes : (j : ℕ) → nat_eq k j ≡ true → is_spot b n (get_or spots j nowhere) ≡ true =
        λ j h. sym (ap (λ i. is_spot b n (get_or spots i nowhere)) (eqb-true k j h)) ∙ at.2 in
        let only : (j : ℕ) → j < length spots → is_spot b n (get_or spots j nowhere) ≡ true → nat_eq k j ≡ true =
        λ j l h. let same : k ≡ j = alone (is_spot b n) spots k j (omega (arith, one)) at.1 l at.2 h in grind (arith, nat_tests) in
        count_numbers spots (is_spot b n) (nat_eq k) found below (λ j l. same_by (is_spot b n (get_or spots j nowhere)) (nat_eq k j) (only j l) (yes j))
        ∙ are k
        ∙ ap (λ t. once (t && is_match (get_or (texts_of sessions spots) k []) p.topic)) (within ∙ sym e)
        ∙ ap (λ t. once (nat_lt n (length (subs_of b sessions)) && is_match t p.topic)) text

    count_by_case : (t : Bool) → nat_lt n (length (subs_of b sessions)) ≡ t → count_by (is_spot b n) (spots_at spots found) ≡ wanted
    count_by_case true e = count_one e
    count_by_case false e = count_none e

    count_found : count_by (is_spot b n) (spots_at spots found) ≡ wanted
    count_found = count_by_case (nat_lt n (length (subs_of b sessions))) refl

  -- in order, they are where the subscriptions to the topic stand
  pub found_spots : (sorted : List Spot) → AreInOrder sessions → IsPermutation (spots_at spots found) sorted → AreRisingSpots sorted → sorted ≡ spots_in p sessions
  found_spots sorted o moved rises =
      same_spots sorted (spots_in p sessions) rises (rising_in p sessions o)
      (λ b n. sum_by-IsPermutation (λ s. once (is_spot b n s)) (spots_at spots found) sorted moved ∙ count_found b n ∙ wanted_is p (subs_of b sessions) n ∙ sym (count_in p b n sessions o))
