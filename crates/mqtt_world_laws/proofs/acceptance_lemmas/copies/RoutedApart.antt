-- The copies of a publication: one direct copy for a session at most, and one for a group, each of another group (MQTT 5.0, 3.3.4, 4.8.2).
use Rattle.std.proofs.Common.{◌≡◌, ◌≢◌, ℕ, ◌<◌, Bool, true, false, cond, ◌&&◌, List, [], ◌∷◌, ◌++◌, map, Option, Some, None, nat_lt, refl, sym, ap, subst, ◌∙◌, arith, inl, inr, append-nil}
use Rattle.std.specs.Prelude.{bytes_eq, flat_map, option_map}
use Rattle.std.specs.List.{AllByRecursion, list_any, list_all}
use Rattle.std.specs.Option.{option_and_then}
use Rattle.std.proofs.lemmas.Bool.{cases_Bool}
use Rattle.std.proofs.lemmas.Slice.Eq.{bytes_eq-Decides}
use Rattle.mqtt_base.specs.declared.session.Cause.{Cause}
use Rattle.mqtt_base.specs.declared.session.Cause.TheVariants.{Direct, Share, Retained}
use Rattle.mqtt_base.specs.declared.session.CopyId.{CopyId}
use Rattle.mqtt_routes.specs.declared.routing.subscription.Subscription.{Subscription as RoutedSubscription}
use Rattle.mqtt_routes.specs.routing.Subscriptions.{Subscriber}
use Rattle.mqtt_routes.specs.routing.Intended.{Publication, Answers, Copy, Member, hits_of, is_shared, matches_topic, copies_for, directs, insert_member, members_with, members_after, has_filter_among, in_group, groups_after, groups}
use Rattle.mqtt_routes.specs.routing.Acceptance.{Served, served_by, Routed, with_direct, copies_in, chosen, outcome, needs_room, eligible_of, first_choice, later_choices, serve_one, serve, shared_copy, has_room, routed_beside, routed}
use Rattle.mqtt_records.specs.lists.Distinct.{AllDiffer}
use Rattle.mqtt_records.specs.lists.Order.{IsAbove, IsAscending}
use Rattle.mqtt_topic.specs.names.Filters.{begins_share, group_of}
use Rattle.mqtt_rules.specs.step.Deeds.{Message}
use Rattle.mqtt_rules.specs.step.Routing.{CopyTo, copy_to, served_copies_to, copies_to}
use Rattle.mqtt_rules.proofs.step_lemmas.numbers.Copies.{each_append, each_map, each_more}
use Rattle.mqtt_topic.proofs.names_lemmas.MatchLemmas.{and_left}
use Rattle.mqtt_world_laws.proofs.acceptance_lemmas.copies.Differ.{AreApart, differ_join}
use Rattle.mqtt_world_laws.proofs.acceptance_lemmas.copies.Shares.{same_group}

-- ---- direct copies

module _ (at : Answers) (p : Publication) where
  copies_above : (n birth : ℕ) (hits : List RoutedSubscription) → n < birth → AllByRecursion (λ c. n < c.birth) (copies_for p birth hits)
  copies_above n birth [] less = tt
  copies_above n birth (s ∷ ss) less = (less, tt)

  directs_above : (n : ℕ) (xs : List Subscriber) → IsAbove (λ x. x.birth) n xs → AllByRecursion (λ c. n < c.birth) (directs at p xs)
  directs_above n [] h = tt
  directs_above n (x ∷ xs) h =
      each_append (λ c. n < c.birth) (copies_for p x.birth (hits_of at p x.birth x.subs)) (directs at p xs)
      (copies_above n x.birth (hits_of at p x.birth x.subs) h.0) (directs_above n xs h.1)

  one_first : (birth : ℕ) (hits : List RoutedSubscription) (cs : List Copy) → AllByRecursion (λ c. birth < c.birth) cs → AllDiffer (map (λ c. c.birth) cs) → AllDiffer (map (λ c. c.birth) (copies_for p birth hits ++ cs))
  one_first birth [] cs up h = h
  one_first birth (s ∷ ss) cs up h = (each_map (λ n. birth ≢ n) (λ (c : Copy). c.birth) cs (each_more (λ c. birth < c.birth) (λ c. birth ≢ c.birth) (λ c less e. omega (arith, less, e)) cs up), h)

  -- direct copies are for different sessions
  pub directs_differ : (xs : List Subscriber) → IsAscending (λ x. x.birth) xs → AllDiffer (map (λ c. c.birth) (directs at p xs))
  directs_differ [] h = tt
  directs_differ (x ∷ xs) h = one_first x.birth (hits_of at p x.birth x.subs) (directs at p xs) (directs_above x.birth xs h.0) (directs_differ xs h.1)

-- ---- groups: those of shared filters that stand

module _ (Stands : List ℕ → Type 0) where
  -- a filter of a group
  abbrev pub IsGroups : List ℕ → Type 0
  IsGroups text = Stands text × (begins_share text ≡ true)

  abbrev IsMember : Member → Type 0
  IsMember m = IsGroups m.sub.filter

  abbrev pub AreStanding : Subscriber → Type 0
  AreStanding x = AllByRecursion (λ s. Stands s.filter) x.subs

  inserted : (m : Member) (ms : List Member) → IsMember m → AllByRecursion IsMember ms → AllByRecursion IsMember (insert_member m ms)
  inserted m [] q h = (q, tt)
  inserted m (x ∷ xs) q h = elim (cases_Bool (nat_lt m.sub.place x.sub.place)) [
    | inl before ↦ rw before (q, h)
    | inr behind ↦ rw behind (h.0, inserted m xs q h.1)
  ]

  module _ (p : Publication) where
    of_session : (birth : ℕ) (subs : List RoutedSubscription) (before : List Member) → AllByRecursion (λ s. Stands s.filter) subs → AllByRecursion IsMember before → AllByRecursion IsMember (members_with p birth subs before)
    of_session birth [] before h b = b
    of_session birth (s ∷ ss) before h b = elim (cases_Bool (is_shared s && matches_topic p s)) [
      | inl joins ↦
          let m : Member = record { birth = birth; sub = s } in
          rw joins (of_session birth ss (insert_member m before) h.1 (inserted m before (h.0, and_left (is_shared s) (matches_topic p s) joins) b))
      | inr other ↦ rw other (of_session birth ss before h.1 b)
    ]

    of_sessions : (xs : List Subscriber) (before : List Member) → AllByRecursion AreStanding xs → AllByRecursion IsMember before → AllByRecursion IsMember (members_after p xs before)
    of_sessions [] before h b = b
    of_sessions (x ∷ xs) before h b = of_sessions xs (members_with p x.birth x.subs before) h.1 (of_session x.birth x.subs before h.0 b)

  groups_stand : (before ms : List Member) → AllByRecursion IsMember ms → AllByRecursion IsGroups (groups_after before ms)
  groups_stand before [] h = tt
  groups_stand before (m ∷ ms) h = elim (cases_Bool (has_filter_among m.sub.filter before)) [
    | inl known ↦ rw known (groups_stand (before ++ m ∷ []) ms h.1)
    | inr new ↦ rw new (h.0, groups_stand (before ++ m ∷ []) ms h.1)
  ]

-- ---- each group once

among_more : (text : List ℕ) (before : List Member) (m : Member) → has_filter_among text before ≡ true → has_filter_among text (before ++ m ∷ []) ≡ true
among_more text [] m e = absurd cc
among_more text (x ∷ xs) m e = elim (cases_Bool (bytes_eq x.sub.filter text)) [
  | inl here ↦ rw here refl
  | inr other ↦ rw other (among_more text xs m (rw other at e))
]

among_last : (before : List Member) (m : Member) → has_filter_among m.sub.filter (before ++ m ∷ []) ≡ true
among_last [] m = let same : bytes_eq m.sub.filter m.sub.filter ≡ true = (bytes_eq-Decides m.sub.filter m.sub.filter).1 refl in rw same refl
among_last (x ∷ xs) m = elim (cases_Bool (bytes_eq x.sub.filter m.sub.filter)) [
  | inl here ↦ rw here refl
  | inr other ↦ rw other (among_last xs m)
]

not_again : (text : List ℕ) (before ms : List Member) → has_filter_among text before ≡ true → AllByRecursion (λ y. text ≢ y) (groups_after before ms)
not_again text before [] known = tt
not_again text before (m ∷ ms) known = elim (cases_Bool (has_filter_among m.sub.filter before)) [
  | inl again ↦ rw again (not_again text (before ++ m ∷ []) ms (among_more text before m known))
  | inr new ↦ rw new ((λ e. absurd (clash e new)), not_again text (before ++ m ∷ []) ms (among_more text before m known))
]
  where
    clash : text ≡ m.sub.filter → has_filter_among m.sub.filter before ≡ false → ⊥
    clash e new = let no : true ≡ false = sym known ∙ ap (λ (t : List ℕ). has_filter_among t before) e ∙ new in absurd cc

groups_differ : (before ms : List Member) → AllDiffer (groups_after before ms)
groups_differ before [] = tt
groups_differ before (m ∷ ms) = elim (cases_Bool (has_filter_among m.sub.filter before)) [
  | inl known ↦ rw known (groups_differ (before ++ m ∷ []) ms)
  | inr new ↦ rw new (not_again m.sub.filter (before ++ m ∷ []) ms (among_last before m), groups_differ (before ++ m ∷ []) ms)
]

-- ---- the groups that are served are these, in order

abbrev groups_in : List Served → List (List ℕ)
groups_in ss = map (λ s. s.group) ss

unserved_group : (t : Bool) (text : List ℕ) (s : Served) → cond t None (Some (served_by text None)) ≡ Some s → s.group ≡ group_of text
unserved_group true text s e = absurd cc
unserved_group false text s e = let same : served_by text None ≡ s = cc in ap (λ (x : Served). x.group) (sym same)

outcome_group : (p : Publication) (text : List ℕ) (all : List Member) (o : Option Member) (s : Served) → outcome p text all o ≡ Some s → s.group ≡ group_of text
outcome_group p text all None s e = unserved_group (list_any (needs_room p) all) text s e
outcome_group p text all (Some m) s e = let same : served_by text (Some (shared_copy p m)) ≡ s = cc in ap (λ (x : Served). x.group) (sym same)

groups_append : (xs : List Served) (s : Served) (ys : List (List ℕ)) → groups_in (xs ++ s ∷ []) ++ ys ≡ groups_in xs ++ s.group ∷ ys
groups_append [] s ys = refl
groups_append (x ∷ xs) s ys = ap (λ (gs : List (List ℕ)). x.group ∷ gs) (groups_append xs s ys)

serving_groups : (at : Answers) (p : Publication) (all : List Member) (direct : List Copy) (choices : List ℕ) (fs : List (List ℕ)) (before result : List Served)
    → serve at p all direct choices fs before ≡ Some result → groups_in result ≡ groups_in before ++ map group_of fs
serving_groups at p all direct choices [] before result e = let same : before ≡ result = cc in ap groups_in (sym same) ∙ sym (append-nil (groups_in before))
serving_groups at p all direct choices (f ∷ fs) before result e =
    by (serve_one at p direct before (first_choice choices) f all) refl (λ s next. serving_groups at p all direct (later_choices choices) fs (before ++ s ∷ []) result next) e
  where
    by : (o : Option Served) → serve_one at p direct before (first_choice choices) f all ≡ o
        → ((s : Served) → serve at p all direct (later_choices choices) fs (before ++ s ∷ []) ≡ Some result → groups_in result ≡ groups_in (before ++ s ∷ []) ++ map group_of fs)
        → option_and_then (λ (s : Served). serve at p all direct (later_choices choices) fs (before ++ s ∷ [])) o ≡ Some result → groups_in result ≡ groups_in before ++ group_of f ∷ map group_of fs
    by None is more e = absurd cc
    by (Some s) is more e =
        let its : s.group ≡ group_of f = outcome_group p f (in_group f all) (chosen (first_choice choices) (eligible_of at p direct before f all)) s is in
        more s e ∙ groups_append before s (map group_of fs) ∙ ap (λ (g : List ℕ). groups_in before ++ g ∷ map group_of fs) its

-- ---- a routing

-- direct copies are for different sessions, and groups have different names
pub record IsApart (Stands : List ℕ → Type 0) (r : Routed) : Type 0 where
  pub direct : AllDiffer (map (λ c. c.birth) r.direct)
  pub filters : List (List ℕ)
  pub groups : groups_in r.served ≡ map group_of filters
  pub differ : AllDiffer filters
  pub stand : AllByRecursion (IsGroups Stands) filters

with_served : (Stands : List ℕ → Type 0) (direct : List Copy) (fs : List (List ℕ)) (o : Option (List Served)) (r : Routed) → AllDiffer (map (λ c. c.birth) direct) → AllDiffer fs → AllByRecursion (IsGroups Stands) fs
    → ((served : List Served) → o ≡ Some served → groups_in served ≡ map group_of fs) → option_map (with_direct direct) o ≡ Some r → IsApart Stands r
with_served Stands direct fs None r d q s h e = absurd cc
with_served Stands direct fs (Some served) r d q s h e =
    let same : with_direct direct served ≡ r = cc in
    subst (IsApart Stands) same (record { direct = d; filters = fs; groups = h served refl; differ = q; stand = s })

beside_apart : (Stands : List ℕ → Type 0) (t : Bool) (at : Answers) (p : Publication) (all : List Member) (direct : List Copy) (choices : List ℕ) (r : Routed)
    → AllByRecursion (λ m. IsGroups Stands m.sub.filter) all → AllDiffer (map (λ c. c.birth) direct) → routed_beside t at p all direct choices ≡ Some r → IsApart Stands r
beside_apart Stands false at p all direct choices r h d e = absurd cc
beside_apart Stands true at p all direct choices r h d e =
    with_served Stands direct (groups all) (serve at p all direct choices (groups all) []) r d (groups_differ [] all) (groups_stand Stands [] all h)
    (λ served is. serving_groups at p all direct choices (groups all) [] served is) e

-- the copies of a route are apart
pub routed_apart : (Stands : List ℕ → Type 0) (at : Answers) (p : Publication) (choices : List ℕ) (xs : List Subscriber) (r : Routed)
    → IsAscending (λ x. x.birth) xs → AllByRecursion (AreStanding Stands) xs → routed at p choices xs ≡ Some r → IsApart Stands r
routed_apart Stands at p choices xs r up h e =
    let direct = directs at p xs in
    beside_apart Stands (list_all (has_room at) direct) at p (members_after p xs []) direct choices r (of_sessions Stands p xs [] h tt) (directs_differ at p xs up) e

-- ---- the copies of it

abbrev pub id_to : CopyTo → CopyId
id_to d = d.copy.id

abbrev pub ids_to : List CopyTo → List CopyId
ids_to ds = map id_to ds

-- why a session gets a copy: directly, or by a group that stands
abbrev pub IsCauseOf : (List ℕ → Type 0) → Cause → Type 0
IsCauseOf Stands Direct = Unit {0}
IsCauseOf Stands (Share group) = (text : List ℕ) × IsGroups Stands text × (group ≡ group_of text)
IsCauseOf Stands (Retained subscribe) = ⊥

module _ (number now : ℕ) (m : Message) where
  ids_of_births : (cs : List Copy) → AllDiffer (map (λ c. c.birth) cs) → AllDiffer (ids_to (map (copy_to number now m Direct) cs))
  ids_of_births [] h = tt
  ids_of_births (c ∷ cs) h = (others cs h.0, ids_of_births cs h.1)
    where
      others : (xs : List Copy) → AllByRecursion (λ n. c.birth ≢ n) (map (λ x. x.birth) xs) → AllByRecursion (λ i. (copy_to number now m Direct c).copy.id ≢ i) (ids_to (map (copy_to number now m Direct) xs))
      others [] h = tt
      others (x ∷ xs) h = ((λ e. h.0 (ap (λ (i : CopyId). i.birth) e)), others xs h.1)

  abbrev served_to : List Served → List CopyTo
  served_to ss = flat_map (served_copies_to number now m) ss

  -- what holds of the causes of copies of groups
  each_cause : (P : Cause → Type 0) (ss : List Served) → AllByRecursion (λ g. P (Share g)) (groups_in ss) → AllByRecursion (λ d. P d.copy.id.cause) (served_to ss)
  each_cause P [] h = tt
  each_cause P (s ∷ ss) h = each_append (λ d. P d.copy.id.cause) (served_copies_to number now m s) (served_to ss) (one s.copy) (each_cause P ss h.1)
    where
      one : (o : Option Copy) → AllByRecursion (λ d. P d.copy.id.cause) (map (copy_to number now m (Share s.group)) (copies_in o))
      one None = tt
      one (Some c) = (h.0, tt)

  one_served : (s : Served) (o : Option Copy) (rest : List CopyTo) → AllByRecursion (λ d. Share s.group ≢ d.copy.id.cause) rest → AllDiffer (ids_to rest) → AllDiffer (ids_to (map (copy_to number now m (Share s.group)) (copies_in o) ++ rest))
  one_served s None rest apart h = h
  one_served s (Some c) rest apart h = (
    each_map (λ i. (copy_to number now m (Share s.group) c).copy.id ≢ i) id_to rest
        (each_more (λ d. Share s.group ≢ d.copy.id.cause) (λ d. (copy_to number now m (Share s.group) c).copy.id ≢ d.copy.id) (λ d differ e. differ (ap (λ (i : CopyId). i.cause) e)) rest apart),
    h,
  )

  served_differ : (ss : List Served) → AllDiffer (groups_in ss) → AllDiffer (ids_to (served_to ss))
  served_differ [] h = tt
  served_differ (s ∷ ss) h =
      one_served s s.copy (served_to ss)
      (each_cause (λ c. Share s.group ≢ c) ss (each_more (λ g. s.group ≢ g) (λ g. Share s.group ≢ Share g) (λ g differ e. differ cc) (groups_in ss) h.0)) (served_differ ss h.1)

  mapped_append : (xs ys : List CopyTo) → ids_to (xs ++ ys) ≡ ids_to xs ++ ids_to ys
  mapped_append [] ys = refl
  mapped_append (x ∷ xs) ys = ap (λ (is : List CopyId). x.copy.id ∷ is) (mapped_append xs ys)

  direct_beside : (cs : List Copy) (ds : List CopyTo) → AllByRecursion (λ d. Direct ≢ d.copy.id.cause) ds → AreApart (ids_to (map (copy_to number now m Direct) cs)) (ids_to ds)
  direct_beside [] ds h = tt
  direct_beside (c ∷ cs) ds h = (
    each_map (λ i. (copy_to number now m Direct c).copy.id ≢ i) id_to ds
        (each_more (λ d. Direct ≢ d.copy.id.cause) (λ d. (copy_to number now m Direct c).copy.id ≢ d.copy.id) (λ d differ e. differ (ap (λ (i : CopyId). i.cause) e)) ds h),
    direct_beside cs ds h,
  )

  no_group : (gs : List (List ℕ)) → AllByRecursion (λ g. Direct ≢ Share g) gs
  no_group [] = tt
  no_group (g ∷ gs) = ((λ e. absurd cc), no_group gs)

  differing_groups : (fs : List (List ℕ)) → AllDiffer fs → AllByRecursion (λ f. begins_share f ≡ true) fs → AllDiffer (map group_of fs)
  differing_groups [] h s = tt
  differing_groups (f ∷ fs) h s = (others fs h.0 s.1, differing_groups fs h.1 s.1)
    where
      others : (ys : List (List ℕ)) → AllByRecursion (λ y. f ≢ y) ys → AllByRecursion (λ y. begins_share y ≡ true) ys → AllByRecursion (λ g. group_of f ≢ g) (map group_of ys)
      others [] h q = tt
      others (y ∷ ys) h q = ((λ e. h.0 (same_group f y s.0 q.0 e)), others ys h.1 q.1)

  -- the copies of a publication differ in their identities
  pub copies_differ : (Stands : List ℕ → Type 0) (r : Routed) → IsApart Stands r → AllDiffer (ids_to (copies_to number now m r))
  copies_differ Stands r h =
      let direct = map (copy_to number now m Direct) r.direct in
      let groups : AllDiffer (groups_in r.served) = subst AllDiffer (sym h.groups) (differing_groups h.filters h.differ (each_more (IsGroups Stands) (λ f. begins_share f ≡ true) (λ f q. q.1) h.filters h.stand)) in
      subst AllDiffer (sym (mapped_append direct (served_to r.served)))
      (differ_join (ids_to direct) (ids_to (served_to r.served)) (ids_of_births r.direct h.direct) (served_differ r.served groups)
      (direct_beside r.direct (served_to r.served) (each_cause (λ c. Direct ≢ c) r.served (no_group (groups_in r.served)))))

  direct_causes : (Stands : List ℕ → Type 0) (cs : List Copy) → AllByRecursion (λ d. IsCauseOf Stands d.copy.id.cause) (map (copy_to number now m Direct) cs)
  direct_causes Stands [] = tt
  direct_causes Stands (c ∷ cs) = (tt, direct_causes Stands cs)

  group_causes : (Stands : List ℕ → Type 0) (fs : List (List ℕ)) → AllByRecursion (IsGroups Stands) fs → AllByRecursion (λ g. IsCauseOf Stands (Share g)) (map group_of fs)
  group_causes Stands [] h = tt
  group_causes Stands (f ∷ fs) h = ((f, h.0, refl), group_causes Stands fs h.1)

  -- the copies of a publication are direct, or of a group that stands
  pub copies_caused : (Stands : List ℕ → Type 0) (r : Routed) → IsApart Stands r → AllByRecursion (λ d. IsCauseOf Stands d.copy.id.cause) (copies_to number now m r)
  copies_caused Stands r h =
      each_append (λ d. IsCauseOf Stands d.copy.id.cause) (map (copy_to number now m Direct) r.direct) (served_to r.served) (direct_causes Stands r.direct)
      (each_cause (IsCauseOf Stands) r.served (subst (AllByRecursion (λ g. IsCauseOf Stands (Share g))) (sym h.groups) (group_causes Stands h.filters h.stand)))
