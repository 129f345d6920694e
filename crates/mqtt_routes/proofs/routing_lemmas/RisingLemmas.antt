-- Lemmas on spots in order: if the same ones stand, the lists are the same (MQTT 5.0, 4.7).
use Rattle.std.proofs.Common.{◌≡◌, ℕ, zero, suc, ◌+◌, ◌<◌, ◌≤◌, Bool, true, false, cond, ◌&&◌, List, [], ◌∷◌, ◌++◌, length, map, get_or, refl, sym, ap, subst, ◌∙◌, nat_eq, nat_lt, arith, eqb-true}
use Rattle.std.specs.Prelude.{⊤}
use Rattle.std.specs.List.{count_by}
use Rattle.std.specs.List.Sorted.{IsSorted}
use Rattle.std.specs.declared.cmp.Ordering.{Ordering}
use Rattle.std.specs.declared.cmp.Ordering.TheVariants.{Less, Equal, Greater}
use Rattle.std.specs.Ordering.{nat_cmp, is_lt, ordering_then}
use Rattle.std.proofs.lemmas.Bool.{and_parts}
use Rattle.std.proofs.lemmas.Bool.Decides.{nat_tests}
use Rattle.std.proofs.lemmas.List.Sums.{sum_by-append}
use Rattle.mqtt_topic.specs.names.Matching.{is_match}
use Rattle.mqtt_routes.specs.tree.Tree.{once}
use Rattle.mqtt_routes.specs.declared.routing.spot.Spot.{Spot}
use Rattle.mqtt_routes.specs.declared.routing.subscription.Subscription.{Subscription}
use Rattle.mqtt_routes.specs.routing.Subscriptions.{Subscriber, AreInOrder, subs_of}
use Rattle.mqtt_routes.specs.routing.Intended.{Publication, matches_topic}
use Rattle.mqtt_routes.specs.routing.Spots.{matched_at, is_spot}
use Rattle.mqtt_routes.specs.routing.Found.{next_spot, spot_at, spots_of, spots_in}
use Rattle.mqtt_routes.proofs.routing_lemmas.SpotLemmas.{split, lt-yes, lt-no, eq-yes, eq-below, eq-above}
use Rattle.mqtt_routes.proofs.routing_lemmas.IndexLemmas.{one_more}
use Rattle.mqtt_routes.proofs.routing_lemmas.SubsLemmas.{none_before}
use Rattle.mqtt_routes.proofs.routing_lemmas.FoundLemmas.{AreOf, AreBeyond, spots_are_of, spots_are_beyond}

-- ---- the order

-- a spot doesn't come after another: by births, and in one session by numbers
pub record NoLater (s t : Spot) : Type 0 where
  pub births : s.birth ≤ t.birth
  pub numbers : s.birth ≡ t.birth → s.at ≤ t.at

later_trans : (s t u : Spot) → NoLater s t → NoLater t u → NoLater s u
later_trans s t u a b = record {
  births = let x = a.births in let y = b.births in omega (arith, x, y);
  numbers = λ e.
      let x = a.births in
      let y = b.births in
      let m = a.numbers (omega (arith, x, y, e)) in
      let n = b.numbers (omega (arith, x, y, e)) in
      omega (arith, m, n);
}

later_self : (s : Spot) → NoLater s s
later_self s = record { births = omega arith; numbers = λ e. omega arith }

-- a spot comes after none of others
abbrev pub AreFrom : Spot → List Spot → Type 0
AreFrom s [] = ⊤
AreFrom s (t ∷ ts) = NoLater s t × AreFrom s ts

abbrev pub AreRisingSpots : List Spot → Type 0
AreRisingSpots [] = ⊤
AreRisingSpots (s ∷ ss) = AreFrom s ss × AreRisingSpots ss

from_earlier : (s t : Spot) (us : List Spot) → NoLater s t → AreFrom t us → AreFrom s us
from_earlier s t [] l h = tt
from_earlier s t (u ∷ us) l h = (later_trans s t u l h.0, from_earlier s t us l h.1)

-- ---- what a sort leaves

abbrev spot_cmp : Spot → Spot → Ordering
spot_cmp x y = ordering_then (nat_cmp x.birth y.birth) (nat_cmp x.at y.at)

number_by : (t : Bool) (x y : ℕ) → nat_lt x y ≡ t → is_lt (cond t Less (cond (nat_eq x y) Equal Greater)) ≡ false → y ≤ x
number_by true x y e h = cc
number_by false x y e h = grind (arith, nat_tests)

later_by : (lt eq : Bool) (x y : Spot) → nat_lt x.birth y.birth ≡ lt → nat_eq x.birth y.birth ≡ eq →
    is_lt (ordering_then (cond lt Less (cond eq Equal Greater)) (nat_cmp x.at y.at)) ≡ false → NoLater y x
later_by true eq x y l e h = cc
later_by false true x y l e h = let same = eqb-true x.birth y.birth e in record { births = omega (arith, same); numbers = λ _. number_by (nat_lt x.at y.at) x.at y.at refl h }
later_by false false x y l e h = let more : y.birth < x.birth = grind (arith, nat_tests) in record { births = omega (arith, more); numbers = λ s. absurd (omega (arith, more, s)) }

later_from : (x y : Spot) → is_lt (spot_cmp x y) ≡ false → NoLater y x
later_from x y h = later_by (nat_lt x.birth y.birth) (nat_eq x.birth y.birth) x y refl refl h

rises : (s : Spot) (ss : List Spot) → IsSorted spot_cmp (s ∷ ss) → AreFrom s ss × AreRisingSpots ss
rises s [] h = (tt, tt)
rises s (t ∷ ts) h =
    let first : NoLater s t = later_from t s (h 0 s (omega arith) (omega arith)) in
    let more = rises t ts (λ k d low l.
    let next : suc k + 1 ≡ suc (k + 1) = omega arith in
    sym (ap (λ n. is_lt (spot_cmp (get_or (s ∷ t ∷ ts) n d) (get_or (t ∷ ts) k d))) next) ∙ h (suc k) d (omega arith) (omega (arith, l))) in
    ((first, from_earlier s t ts first more.0), more)

-- sorted spots rise by births, and in one session by numbers
pub sorted_rises : (ss : List Spot) → IsSorted spot_cmp ss → AreRisingSpots ss
sorted_rises [] h = tt
sorted_rises (s ∷ ss) h = rises s ss h

-- ---- lists with the same spots

-- what is in a list that rises comes after none before its first
first_by : (t : Bool) (b n : ℕ) (s : Spot) → is_spot b n s ≡ t → 1 ≤ once t → NoLater s (spot_at b n)
first_by true b n s e l =
    let parts = and_parts (nat_eq b s.birth) (nat_eq n s.at) e in
    let births = eqb-true b s.birth parts.0 in
    let numbers = eqb-true n s.at parts.1 in
    record { births = omega (arith, births); numbers = λ _. omega (arith, numbers) }
first_by false b n s e l = absurd (omega (arith, l))

found_by_head : (u : Bool) (s : Spot) (b n : ℕ) (t : Spot) (ts : List Spot) → is_spot b n t ≡ u → NoLater s t → 1 ≤ count_by (is_spot b n) (t ∷ ts) →
    (1 ≤ count_by (is_spot b n) ts → NoLater s (spot_at b n)) → NoLater s (spot_at b n)
found_by_head true s b n t ts e first l more = later_trans s t (spot_at b n) first (first_by true b n t e (omega arith))
found_by_head false s b n t ts e first l more = more (let all = one_more (is_spot b n) t ts in let none : once (is_spot b n t) ≡ 0 = ap once e in omega (arith, all, none, l))

from_found : (s : Spot) (b n : ℕ) (ss : List Spot) → AreFrom s ss → 1 ≤ count_by (is_spot b n) ss → NoLater s (spot_at b n)
from_found s b n [] h l = absurd (omega (arith, l))
from_found s b n (t ∷ ts) h l = found_by_head (is_spot b n t) s b n t ts refl h.0 l (from_found s b n ts h.1)

-- what is in a list that rises doesn't come before its first
head_least : (s : Spot) (ss : List Spot) (b n : ℕ) → AreFrom s ss → 1 ≤ count_by (is_spot b n) (s ∷ ss) → NoLater s (spot_at b n)
head_least s ss b n h l = from_found s b n (s ∷ ss) (later_self s, h) l

itself : (s : Spot) (ss : List Spot) → 1 ≤ count_by (is_spot s.birth s.at) (s ∷ ss)
itself s ss =
    let a : nat_eq s.birth s.birth ≡ true = eq-yes s.birth s.birth refl in
    let b : nat_eq s.at s.at ≡ true = eq-yes s.at s.at refl in
    let one : once (is_spot s.birth s.at s) ≡ 1 = ap (λ t. once (t && nat_eq s.at s.at)) a ∙ ap once b in
    let all = one_more (is_spot s.birth s.at) s ss in
    omega (arith, all, one)

same_spot : (s t : Spot) → s.birth ≡ t.birth → s.at ≡ t.at → s ≡ t
same_spot s t a b = λ i. record { birth = a i; at = b i }

-- lists that rise and have each spot as often are the same
pub same_spots : (ss ts : List Spot) → AreRisingSpots ss → AreRisingSpots ts → ((b n : ℕ) → count_by (is_spot b n) ss ≡ count_by (is_spot b n) ts) → ss ≡ ts
same_spots [] [] h k same = refl
same_spots [] (t ∷ ts) h k same = let e = same t.birth t.at in let l = itself t ts in absurd (omega (arith, e, l))
same_spots (s ∷ ss) [] h k same = let e = same s.birth s.at in let l = itself s ss in absurd (omega (arith, e, l))
same_spots (s ∷ ss) (t ∷ ts) h k same =
    let there = same s.birth s.at in
    let here = same t.birth t.at in
    let l = itself s ss in
    let m = itself t ts in
    let down : NoLater t s = head_least t ts s.birth s.at k.0 (omega (arith, there, l)) in
    let up : NoLater s t = head_least s ss t.birth t.at h.0 (omega (arith, here, m)) in
    let births : s.birth ≡ t.birth = let x = down.births in let y = up.births in omega (arith, x, y) in
    let numbers : s.at ≡ t.at = let x = down.numbers (sym births) in let y = up.numbers births in omega (arith, x, y) in
    let first : s ≡ t = same_spot s t births numbers in
    let more : (b n : ℕ) → count_by (is_spot b n) ss ≡ count_by (is_spot b n) ts =
    λ b n.
    let all = same b n in
    let one = one_more (is_spot b n) s ss in
    let other = one_more (is_spot b n) t ts in
    let heads : once (is_spot b n s) ≡ once (is_spot b n t) = ap (λ x. once (is_spot b n x)) first in
    omega (arith, all, one, other, heads) in
    ap (λ (x : Spot). x ∷ ss) first ∙ ap (λ (xs : List Spot). t ∷ xs) (same_spots ss ts h.1 k.1 more)

-- ---- where the subscriptions to a topic stand is in order

from_next : (s : Spot) (ss : List Spot) → AreFrom s ss → AreFrom (next_spot s) (map next_spot ss)
from_next s [] h = tt
from_next s (t ∷ ts) h =
    let l = h.0 in
    (record { births = l.births; numbers = λ e. let m = l.numbers e in omega (arith, m) }, from_next s ts h.1)

rising_next : (ss : List Spot) → AreRisingSpots ss → AreRisingSpots (map next_spot ss)
rising_next [] h = tt
rising_next (s ∷ ss) h = (from_next s ss h.0, rising_next ss h.1)

from_zero : (b : ℕ) (ss : List Spot) → AreOf b ss → AreFrom (spot_at b 0) (map next_spot ss)
from_zero b [] h = tt
from_zero b (s ∷ ss) h = let e = h.0 in (record { births = omega (arith, e); numbers = λ _. omega arith }, from_zero b ss h.1)

from_append : (s : Spot) (ss ts : List Spot) → AreFrom s ss → AreFrom s ts → AreFrom s (ss ++ ts)
from_append s [] ts h k = k
from_append s (u ∷ us) ts h k = (h.0, from_append s us ts h.1 k)

from_beyond : (s : Spot) (ts : List Spot) → AreBeyond s.birth ts → AreFrom s ts
from_beyond s [] h = tt
from_beyond s (t ∷ ts) h = let l = h.0 in (record { births = omega (arith, l); numbers = λ e. absurd (omega (arith, l, e)) }, from_beyond s ts h.1)

rising_append : (b : ℕ) (ss ts : List Spot) → AreOf b ss → AreBeyond b ts → AreRisingSpots ss → AreRisingSpots ts → AreRisingSpots (ss ++ ts)
rising_append b [] ts own beyond h k = k
rising_append b (s ∷ ss) ts own beyond h k =
    (from_append s ss ts h.0 (from_beyond s ts (subst (λ n. AreBeyond n ts) (sym own.0) beyond)), rising_append b ss ts own.1 beyond h.1 k)

module _ (p : Publication) where
  rising_by : (m : Bool) (b : ℕ) (ss : List Spot) → AreOf b ss → AreRisingSpots ss → AreRisingSpots (cond m (spot_at b 0 ∷ map next_spot ss) (map next_spot ss))
  rising_by true b ss own h = (from_zero b ss own, rising_next ss h)
  rising_by false b ss own h = rising_next ss h

  rising_of : (b : ℕ) (subs : List Subscription) → AreRisingSpots (spots_of p b subs)
  rising_of b [] = tt
  rising_of b (s ∷ ss) = rising_by (matches_topic p s) b (spots_of p b ss) (spots_are_of p b ss) (rising_of b ss)

  -- where the subscriptions of sessions in order stand rises
  pub rising_in : (xs : List Subscriber) → AreInOrder xs → AreRisingSpots (spots_in p xs)
  rising_in [] o = tt
  rising_in (x ∷ xs) o =
      rising_append x.birth (spots_of p x.birth x.subs) (spots_in p xs) (spots_are_of p x.birth x.subs) (spots_are_beyond p x.birth xs o.0) (rising_of x.birth x.subs) (rising_in xs o.1)

-- ---- each is there once

none_of : (a : Bool) → once (a && false) ≡ 0
none_of true = refl
none_of false = refl

all_of : (a : Bool) → (a && true) ≡ a
all_of true = refl
all_of false = refl

suc_eq : (n m : ℕ) → nat_eq (suc n) (suc m) ≡ nat_eq n m
suc_eq n m = split n m
    (λ l. eq-below (suc n) (suc m) (omega (arith, l)) ∙ sym (eq-below n m l))
    (λ e. eq-yes (suc n) (suc m) (ap suc e) ∙ sym (eq-yes n m e))
    (λ l. eq-above (suc n) (suc m) (omega (arith, l)) ∙ sym (eq-above n m l))

suc_lt : (n m : ℕ) → nat_lt (suc n) (suc m) ≡ nat_lt n m
suc_lt n m = split n m
    (λ l. lt-yes (suc n) (suc m) (omega (arith, l)) ∙ sym (lt-yes n m l))
    (λ e. lt-no (suc n) (suc m) (omega (arith, e)) ∙ sym (lt-no n m (omega (arith, e))))
    (λ l. lt-no (suc n) (suc m) (omega (arith, l)) ∙ sym (lt-no n m (omega (arith, l))))

next_zero : (b : ℕ) (ss : List Spot) → count_by (is_spot b 0) (map next_spot ss) ≡ 0
next_zero b [] = refl
next_zero b (s ∷ ss) =
    let all = one_more (is_spot b 0) (next_spot s) (map next_spot ss) in
    let apart : nat_eq 0 (suc s.at) ≡ false = eq-below 0 (suc s.at) (omega arith) in
    let none : once (is_spot b 0 (next_spot s)) ≡ 0 = ap (λ t. once (nat_eq b s.birth && t)) apart ∙ none_of (nat_eq b s.birth) in
    let more = next_zero b ss in
    omega (arith, all, none, more)

next_suc : (b n : ℕ) (ss : List Spot) → count_by (is_spot b (suc n)) (map next_spot ss) ≡ count_by (is_spot b n) ss
next_suc b n [] = refl
next_suc b n (s ∷ ss) =
    let all = one_more (is_spot b (suc n)) (next_spot s) (map next_spot ss) in
    let old = one_more (is_spot b n) s ss in
    let one : once (is_spot b (suc n) (next_spot s)) ≡ once (is_spot b n s) = ap (λ t. once (nat_eq b s.birth && t)) (suc_eq n s.at) in
    let more = next_suc b n ss in
    omega (arith, all, old, one, more)

module _ (p : Publication) where
  -- the subscription of a number is to the topic
  abbrev pub is_wanted_at : List Subscription → ℕ → Bool
  is_wanted_at [] n = false
  is_wanted_at (s ∷ ss) zero = matches_topic p s
  is_wanted_at (s ∷ ss) (suc n) = is_wanted_at ss n

  -- the number of a subscription whose filter matches is that of one to the topic
  pub wanted_is : (subs : List Subscription) (n : ℕ) → once (nat_lt n (length subs) && is_match (matched_at subs n) p.topic) ≡ once (is_wanted_at subs n)
  wanted_is [] n = ap (λ t. once (t && is_match [] p.topic)) (lt-no n 0 (omega arith))
  wanted_is (s ∷ ss) zero = ap (λ t. once (t && matches_topic p s)) (lt-yes 0 (suc (length ss)) (omega arith))
  wanted_is (s ∷ ss) (suc n) = ap (λ t. once (t && is_match (matched_at ss n) p.topic)) (suc_lt n (length ss)) ∙ wanted_is ss n

  zero_by : (m : Bool) (b c : ℕ) (zs : List Spot) → count_by (is_spot b 0) (cond m (spot_at c 0 ∷ map next_spot zs) (map next_spot zs)) ≡ once (nat_eq b c && m)
  zero_by true b c zs =
      let all = one_more (is_spot b 0) (spot_at c 0) (map next_spot zs) in
      let same : nat_eq 0 0 ≡ true = eq-yes 0 0 refl in
      let head : once (is_spot b 0 (spot_at c 0)) ≡ once (nat_eq b c && true) = ap (λ t. once (nat_eq b c && t)) same in
      let none = next_zero b zs in
      omega (arith, all, head, none)
  zero_by false b c zs = next_zero b zs ∙ sym (none_of (nat_eq b c))

  suc_by : (m : Bool) (b c n : ℕ) (zs : List Spot) → count_by (is_spot b (suc n)) (cond m (spot_at c 0 ∷ map next_spot zs) (map next_spot zs)) ≡ count_by (is_spot b n) zs
  suc_by true b c n zs =
      let all = one_more (is_spot b (suc n)) (spot_at c 0) (map next_spot zs) in
      let apart : nat_eq (suc n) 0 ≡ false = eq-above (suc n) 0 (omega arith) in
      let head : once (is_spot b (suc n) (spot_at c 0)) ≡ 0 = ap (λ t. once (nat_eq b c && t)) apart ∙ none_of (nat_eq b c) in
      let more = next_suc b n zs in
      omega (arith, all, head, more)
  suc_by false b c n zs = next_suc b n zs

  count_of : (b c n : ℕ) (subs : List Subscription) → count_by (is_spot b n) (spots_of p c subs) ≡ once (nat_eq b c && is_wanted_at subs n)
  count_of b c n [] = sym (none_of (nat_eq b c))
  count_of b c zero (s ∷ ss) = zero_by (matches_topic p s) b c (spots_of p c ss)
  count_of b c (suc n) (s ∷ ss) = suc_by (matches_topic p s) b c n (spots_of p c ss) ∙ count_of b c n ss

  -- the subscriptions to the topic, and nothing else
  pub count_in : (b n : ℕ) (xs : List Subscriber) → AreInOrder xs → count_by (is_spot b n) (spots_in p xs) ≡ once (is_wanted_at (subs_of b xs) n)
  count_in b n [] o = refl
  count_in b n (x ∷ xs) o =
      let all : count_by (is_spot b n) (spots_of p x.birth x.subs ++ spots_in p xs) ≡ count_by (is_spot b n) (spots_of p x.birth x.subs) + count_by (is_spot b n) (spots_in p xs) =
      sum_by-append (λ s. once (is_spot b n s)) (spots_of p x.birth x.subs) (spots_in p xs) in
      let own = count_of b x.birth n x.subs in
      let more = count_in b n xs o.1 in
      split x.birth b
      (λ l.
      let head : once (nat_eq b x.birth && is_wanted_at x.subs n) ≡ 0 = ap (λ t. once (t && is_wanted_at x.subs n)) (eq-above b x.birth l) in
      let here = ap (λ t. once (is_wanted_at (cond t (subs_of b xs) (cond (nat_eq x.birth b) x.subs [])) n)) (lt-yes x.birth b l) in
      omega (arith, all, own, more, head, here))
      (λ e.
      let head : once (nat_eq b x.birth && is_wanted_at x.subs n) ≡ once (is_wanted_at x.subs n) = ap (λ t. once (t && is_wanted_at x.subs n)) (eq-yes b x.birth (sym e)) in
      let rest : once (is_wanted_at (subs_of b xs) n) ≡ 0 = ap (λ (ss : List Subscription). once (is_wanted_at ss n)) (none_before x.birth b xs (omega (arith, e)) o.0) in
      let here = ap (λ t. once (is_wanted_at (cond t (subs_of b xs) (cond (nat_eq x.birth b) x.subs [])) n)) (lt-no x.birth b (omega (arith, e))) ∙ ap (λ t. once (is_wanted_at (cond t x.subs []) n)) (eq-yes x.birth b e) in
      omega (arith, all, own, more, head, rest, here))
      (λ l.
      let head : once (nat_eq b x.birth && is_wanted_at x.subs n) ≡ 0 = ap (λ t. once (t && is_wanted_at x.subs n)) (eq-below b x.birth l) in
      let rest : once (is_wanted_at (subs_of b xs) n) ≡ 0 = ap (λ (ss : List Subscription). once (is_wanted_at ss n)) (none_before x.birth b xs (omega (arith, l)) o.0) in
      let here = ap (λ t. once (is_wanted_at (cond t (subs_of b xs) (cond (nat_eq x.birth b) x.subs [])) n)) (lt-no x.birth b (omega (arith, l))) ∙ ap (λ t. once (is_wanted_at (cond t x.subs []) n)) (eq-above x.birth b l) in
      omega (arith, all, own, more, head, rest, here))
