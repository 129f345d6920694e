-- The Subscription Identifiers of a copy are those of subscriptions that stand (MQTT 5.0, 3.3.2.3.8).
use Rattle.std.proofs.Common.{◌≡◌, ℕ, zero, suc, ◌≤◌, Bool, true, false, cond, ◌&&◌, List, [], ◌∷◌, ◌++◌, length, Option, Some, None, nat_lt, refl, subst, arith, inl, inr}
use Rattle.std.specs.Prelude.{option_map, slice_index_or, bytes_eq}
use Rattle.std.specs.List.{AllByRecursion, filter_map, list_any, list_all}
use Rattle.std.specs.Option.{option_and_then}
use Rattle.std.proofs.lemmas.Bool.{cases_Bool}
use Rattle.mqtt_base.specs.declared.limits.TheConstants.{SUBSCRIPTION_LIMIT}
use Rattle.mqtt_routes.specs.declared.routing.subscription.Subscription.{Subscription as RoutedSubscription}
use Rattle.mqtt_routes.specs.routing.Subscriptions.{Subscriber}
use Rattle.mqtt_routes.specs.routing.Intended.{Publication, Answers, Copy, Member, is_hit, hits_of, is_shared, matches_topic, copies_for, directs, insert_member, members_with, members_after, in_group, groups}
use Rattle.mqtt_routes.specs.routing.Acceptance.{Served, served_by, Routed, with_direct, copies_in, chosen, shared_copy, outcome, needs_room, is_eligible, eligible_of, first_choice, later_choices, serve_one, serve, has_room, routed_beside, routed}
use Rattle.mqtt_keep.specs.lawful.Lawful.{IsIdentifier}
use Rattle.mqtt_rules.specs.step.Contents.{AreIdentifiersOf, Sizes, AreSizes}
use Rattle.mqtt_rules.proofs.step_lemmas.numbers.Copies.{each_append, each_filter}
use Rattle.mqtt_rules.proofs.step_lemmas.order.Ordered.{length-filter_le}

module _ (sizes : Sizes) (are : AreSizes sizes) where
  abbrev AreIdentifiers : List ℕ → Type 0
  AreIdentifiers = AreIdentifiersOf sizes

  abbrev IsNumbered : RoutedSubscription → Type 0
  IsNumbered s = IsIdentifier s.identifier

  abbrev pub AreNumbered : Subscriber → Type 0
  AreNumbered x = AllByRecursion IsNumbered x.subs × (length x.subs ≤ SUBSCRIPTION_LIMIT)

  abbrev pub IsIdentified : Copy → Type 0
  IsIdentified c = AreIdentifiers c.identifiers

  -- ---- of some subscriptions

  abbrev numbers_of : List RoutedSubscription → List ℕ
  numbers_of subs = filter_map (λ s. s.identifier) subs

  abbrev Within : List ℕ → ℕ → Type 0
  Within ns n = AllByRecursion (λ n. IsIdentifier (Some n)) ns × (length ns ≤ n)

  numbers_within : (subs : List RoutedSubscription) → AllByRecursion IsNumbered subs → Within (numbers_of subs) (length subs)
  numbers_within [] h = (tt, omega arith)
  numbers_within (s ∷ ss) h = by s.identifier refl h.0 (numbers_within ss h.1)
    where
      by : (o : Option ℕ) → s.identifier ≡ o → IsIdentifier o → Within (numbers_of ss) (length ss) → Within (numbers_of (s ∷ ss)) (suc (length ss))
      by None e q rest = let le = rest.1 in rw e (rest.0, omega (arith, le))
      by (Some n) e q rest = let le = rest.1 in rw e ((q, rest.0), omega (arith, le))

  identified : (subs : List RoutedSubscription) → AllByRecursion IsNumbered subs → length subs ≤ SUBSCRIPTION_LIMIT → AreIdentifiers (numbers_of subs)
  identified subs h few =
      let is = numbers_within subs h in
      let le = is.1 in
      let many = are.identifiers.0 in
      record { each = is.0; few = omega (arith, le, few, many) }

  -- ---- direct copies

  copies_identified : (p : Publication) (birth : ℕ) (subs : List RoutedSubscription) → AllByRecursion IsNumbered subs → length subs ≤ SUBSCRIPTION_LIMIT → AllByRecursion IsIdentified (copies_for p birth subs)
  copies_identified p birth [] h few = tt
  copies_identified p birth (s ∷ ss) h few = (identified (s ∷ ss) h few, tt)

  directs_identified : (at : Answers) (p : Publication) (xs : List Subscriber) → AllByRecursion AreNumbered xs → AllByRecursion IsIdentified (directs at p xs)
  directs_identified at p [] h = tt
  directs_identified at p (x ∷ xs) h =
      let few = h.0.1 in
      let fewer = length-filter_le (is_hit at p x.birth) x.subs in
      each_append IsIdentified (copies_for p x.birth (hits_of at p x.birth x.subs)) (directs at p xs)
      (copies_identified p x.birth (hits_of at p x.birth x.subs) (each_filter IsNumbered (is_hit at p x.birth) x.subs h.0.0) (omega (arith, few, fewer)))
      (directs_identified at p xs h.1)

  -- ---- copies of groups

  abbrev IsNumberedMember : Member → Type 0
  IsNumberedMember m = IsNumbered m.sub

  member_inserted : (m : Member) (ms : List Member) → IsNumberedMember m → AllByRecursion IsNumberedMember ms → AllByRecursion IsNumberedMember (insert_member m ms)
  member_inserted m [] q h = (q, tt)
  member_inserted m (x ∷ xs) q h = elim (cases_Bool (nat_lt m.sub.place x.sub.place)) [
    | inl before ↦ rw before (q, h)
    | inr after ↦ rw after (h.0, member_inserted m xs q h.1)
  ]

  members_numbered : (p : Publication) (birth : ℕ) (subs : List RoutedSubscription) (before : List Member) → AllByRecursion IsNumbered subs → AllByRecursion IsNumberedMember before → AllByRecursion IsNumberedMember (members_with p birth subs before)
  members_numbered p birth [] before h b = b
  members_numbered p birth (s ∷ ss) before h b = elim (cases_Bool (is_shared s && matches_topic p s)) [
    | inl joins ↦ rw joins (members_numbered p birth ss (insert_member (record { birth = birth; sub = s }) before) h.1 (member_inserted (record { birth = birth; sub = s }) before h.0 b))
    | inr other ↦ rw other (members_numbered p birth ss before h.1 b)
  ]

  all_members_numbered : (p : Publication) (xs : List Subscriber) (before : List Member) → AllByRecursion AreNumbered xs → AllByRecursion IsNumberedMember before → AllByRecursion IsNumberedMember (members_after p xs before)
  all_members_numbered p [] before h b = b
  all_members_numbered p (x ∷ xs) before h b = all_members_numbered p xs (members_with p x.birth x.subs before) h.1 (members_numbered p x.birth x.subs before h.0.0 b)

  at_numbered : (ms : List Member) (n : ℕ) (d : Member) → AllByRecursion IsNumberedMember ms → IsNumberedMember d → IsNumberedMember (slice_index_or ms n d)
  at_numbered [] n d h q = q
  at_numbered (m ∷ ms) zero d h q = h.0
  at_numbered (m ∷ ms) (suc n) d h q = at_numbered ms n d h.1 q

  abbrev IsServedWell : Served → Type 0
  IsServedWell s = AllByRecursion IsIdentified (copies_in s.copy)

  unserved : (t : Bool) (text : List ℕ) (s : Served) → cond t None (Some (served_by text None)) ≡ Some s → IsServedWell s
  unserved true text s e = absurd cc
  unserved false text s e = let same : served_by text None ≡ s = cc in subst IsServedWell same tt

  chosen_identified : (p : Publication) (text : List ℕ) (all ms : List Member) (n : ℕ) (s : Served) → AllByRecursion IsNumberedMember ms → outcome p text all (chosen n ms) ≡ Some s → IsServedWell s
  chosen_identified p text all [] n s h e = unserved (list_any (needs_room p) all) text s e
  chosen_identified p text all (m ∷ ms) n s h e =
      let picked = slice_index_or (m ∷ ms) n m in
      let one : IsNumberedMember picked = at_numbered (m ∷ ms) n m h h.0 in
      let same : served_by text (Some (shared_copy p picked)) ≡ s = cc in
      subst IsServedWell same (identified (picked.sub ∷ []) (one, tt) (omega arith), tt)

  one_identified : (at : Answers) (p : Publication) (direct : List Copy) (before : List Served) (n : ℕ) (text : List ℕ) (all : List Member) (s : Served)
      → AllByRecursion IsNumberedMember all → serve_one at p direct before n text all ≡ Some s → IsServedWell s
  one_identified at p direct before n text all s h e =
      chosen_identified p text (in_group text all) (eligible_of at p direct before text all) n s
      (each_filter IsNumberedMember (is_eligible at p direct before) (in_group text all) (each_filter IsNumberedMember (λ m. bytes_eq m.sub.filter text) all h)) e

  serving_identified : (at : Answers) (p : Publication) (all : List Member) (direct : List Copy) (choices : List ℕ) (fs : List (List ℕ)) (before result : List Served)
      → AllByRecursion IsNumberedMember all → AllByRecursion IsServedWell before → serve at p all direct choices fs before ≡ Some result → AllByRecursion IsServedWell result
  serving_identified at p all direct choices [] before result h b e =
      let same : before ≡ result = cc in
      subst (λ (xs : List Served). AllByRecursion IsServedWell xs) same b
  serving_identified at p all direct choices (f ∷ fs) before result h b e =
      by (serve_one at p direct before (first_choice choices) f all) refl (λ s well next. serving_identified at p all direct (later_choices choices) fs (before ++ s ∷ []) result h well next) e
    where
      by : (o : Option Served) → serve_one at p direct before (first_choice choices) f all ≡ o
          → ((s : Served) → AllByRecursion IsServedWell (before ++ s ∷ []) → serve at p all direct (later_choices choices) fs (before ++ s ∷ []) ≡ Some result → AllByRecursion IsServedWell result)
          → option_and_then (λ (s : Served). serve at p all direct (later_choices choices) fs (before ++ s ∷ [])) o ≡ Some result → AllByRecursion IsServedWell result
      by None is more e = absurd cc
      by (Some s) is more e =
          more s
          (each_append IsServedWell before (s ∷ []) b (one_identified at p direct before (first_choice choices) f all s h is, tt)) e

  -- ---- a routing

  -- each copy, direct or of a group, has lawful Subscription Identifiers, no more than a copy may have
  pub record IsRoutedWell (r : Routed) : Type 0 where
    pub direct : AllByRecursion IsIdentified r.direct
    pub served : AllByRecursion (λ s. AllByRecursion IsIdentified (copies_in s.copy)) r.served

  with_served : (direct : List Copy) (o : Option (List Served)) (r : Routed) → AllByRecursion IsIdentified direct → ((served : List Served) → o ≡ Some served → AllByRecursion IsServedWell served)
      → option_map (with_direct direct) o ≡ Some r → IsRoutedWell r
  with_served direct None r d h e = absurd cc
  with_served direct (Some served) r d h e =
      let same : with_direct direct served ≡ r = cc in
      subst IsRoutedWell same (record { direct = d; served = h served refl })

  beside_identified : (t : Bool) (at : Answers) (p : Publication) (all : List Member) (direct : List Copy) (choices : List ℕ) (r : Routed)
      → AllByRecursion IsNumberedMember all → AllByRecursion IsIdentified direct → routed_beside t at p all direct choices ≡ Some r → IsRoutedWell r
  beside_identified false at p all direct choices r h d e = absurd cc
  beside_identified true at p all direct choices r h d e =
      with_served direct (serve at p all direct choices (groups all) []) r d
      (λ served is. serving_identified at p all direct choices (groups all) [] served h tt is) e

  -- a publication that is routed has copies with such identifiers
  pub routed_identified : (at : Answers) (p : Publication) (choices : List ℕ) (xs : List Subscriber) (r : Routed) → AllByRecursion AreNumbered xs → routed at p choices xs ≡ Some r → IsRoutedWell r
  routed_identified at p choices xs r h e =
      let direct = directs at p xs in
      beside_identified (list_all (has_room at) direct) at p (members_after p xs []) direct choices r (all_members_numbered p xs [] h tt) (directs_identified at p xs h) e
