-- What enters of a publication, counted: each copy that was intended once, no other; and one for each group (MQTT 5.0, 3.3.4, 4.8.2).
use Rattle.std.proofs.Common.{◌≡◌, ◌≢◌, ℕ, zero, suc, ◌+◌, ◌<◌, Bool, true, false, cond, ◌&&◌, ◌||◌, List, [], ◌∷◌, ◌++◌, map, filter, Option, Some, None, nat_eq, nat_lt, refl, sym, ap, subst, ◌∙◌, arith, inl, inr, append-nil}
use Rattle.std.specs.Prelude.{flat_map, bytes_eq, count_by}
use Rattle.std.specs.List.{AllByRecursion, list_any}
use Rattle.std.proofs.lemmas.Bool.{cases_Bool, lt-ltb}
use Rattle.std.proofs.lemmas.Cmp.{nat_eq_equiv}
use Rattle.std.proofs.lemmas.List.{map-append}
use Rattle.std.proofs.lemmas.List.Elements.{filter-append}
use Rattle.std.proofs.lemmas.List.Sums.{sum_by-append, sum_by-cons}
use Rattle.std.proofs.lemmas.Slice.Eq.{bytes_eq-Decides}
use Rattle.mqtt_base.specs.declared.session.Cause.{Cause}
use Rattle.mqtt_base.specs.declared.session.Cause.TheVariants.{Direct, Share, Retained}
use Rattle.mqtt_base.specs.declared.session.CopyId.{CopyId}
use Rattle.mqtt_routes.specs.routing.Intended.{Copy}
use Rattle.mqtt_routes.specs.routing.Acceptance.{Served, Routed, copies_in}
use Rattle.mqtt_records.specs.lists.Distinct.{AllDiffer}
use Rattle.mqtt_records.proofs.lists_lemmas.OrderLemmas.{apart}
use Rattle.mqtt_topic.proofs.names_lemmas.MatchLemmas.{and_left, and_right}
use Rattle.mqtt_rules.specs.step.Deeds.{Message}
use Rattle.mqtt_rules.specs.step.Laws.{IsAmong}
use Rattle.mqtt_rules.specs.step.Numbers.{CountsOn}
use Rattle.mqtt_rules.specs.step.Packets.{quality}
use Rattle.mqtt_rules.specs.step.Routing.{CopyTo, copy_to, served_copies_to, copies_to, is_queued, is_queued_at}
use Rattle.mqtt_rules.proofs.step_lemmas.numbers.Copies.{each_more}
use Rattle.mqtt_world_model.specs.model.Laws.{count_of, is_copy, is_own, is_share, is_routed}
use Rattle.mqtt_world_model.specs.model.Run.{Acceptance}
use Rattle.mqtt_world_laws.specs.acceptance.Entries.{id_of, queued_ids}
use Rattle.mqtt_world_laws.proofs.acceptance_lemmas.copies.Counting.{count_cons}
use Rattle.mqtt_world_laws.proofs.acceptance_lemmas.copies.Told.{copy_is, count_none}
use Rattle.mqtt_world_laws.specs.routing.Intended.{is_intended, is_groups, enters_queue}
use Rattle.mqtt_world_laws.proofs.routing_lemmas.OwnRuns.{number_of}
use Rattle.mqtt_world_laws.proofs.routing_lemmas.OwnSteps.{its_ids, own_ids}

-- ---- numbers that count on differ

-- each is above the one that they count on from
pub above : (n m : ℕ) (xs : List ℕ) → CountsOn n xs m → AllByRecursion (λ x. n < x) xs
above n m [] h = tt
above n m (x ∷ xs) h =
    let next = h.0 in
    (omega (arith, next), each_more (λ y. x < y) (λ y. n < y) (λ y more. omega (arith, next, more)) xs (above x m xs h.1))

-- numbers that count on differ
pub counts_differ : (n m : ℕ) (xs : List ℕ) → CountsOn n xs m → AllDiffer xs
counts_differ n m [] h = tt
counts_differ n m (x ∷ xs) h = (each_more (λ y. x < y) (λ y. x ≢ y) (λ y more e. omega (arith, more, e)) xs (above x m xs h.1), counts_differ x m xs h.1)

-- ---- of one acceptance among many that differ in their numbers

others_none : (n : ℕ) (accepted : List Acceptance) → AllByRecursion (λ k. n ≢ k) (map number_of accepted) → flat_map (own_ids n) accepted ≡ []
others_none n [] h = refl
others_none n (a ∷ accepted) h =
    let other : nat_eq a.number n ≡ false = apart a.number n (λ e. h.0 (sym e)) in
    rw other (others_none n accepted h.1)

-- what holds of all numbers of acceptances holds of one's
pub among_numbers : (P : ℕ → Type 0) (a : Acceptance) (accepted : List Acceptance) → AllByRecursion P (map number_of accepted) → IsAmong a accepted → P a.number
among_numbers P a [] h among = absurd among
among_numbers P a (x ∷ xs) h among = elim among [
  | inl same ↦ subst (λ (y : Acceptance). P y.number) same h.0
  | inr behind ↦ among_numbers P a xs h.1 behind
]

-- what is of one publication is of no other
pub only_own : (a : Acceptance) (accepted : List Acceptance) → AllDiffer (map number_of accepted) → IsAmong a accepted → flat_map (own_ids a.number) accepted ≡ its_ids a
only_own a [] differ among = absurd among
only_own a (x ∷ xs) differ among = by among (only_own a xs differ.1)
  where
    by : IsAmong a (x ∷ xs) → (IsAmong a xs → flat_map (own_ids a.number) xs ≡ its_ids a) → own_ids a.number x ++ flat_map (own_ids a.number) xs ≡ its_ids a
    by (inl same) more =
        let none : flat_map (own_ids x.number) xs ≡ [] = others_none x.number xs differ.0 in
        let its : own_ids x.number x ≡ its_ids x = ap (λ (t : Bool). cond t (its_ids x) []) (nat_eq_equiv.refl x.number) in
        subst (λ (y : Acceptance). own_ids y.number x ++ flat_map (own_ids y.number) xs ≡ its_ids y) same
        (ap (λ (cs : List CopyId). own_ids x.number x ++ cs) none ∙ append-nil (own_ids x.number x) ∙ its)
    by (inr behind) more =
        let differs = among_numbers (λ k. x.number ≢ k) a xs differ.0 behind in
        let other : nat_eq x.number a.number ≡ false = apart x.number a.number differs in
        ap (λ (t : Bool). cond t (its_ids x) [] ++ flat_map (own_ids a.number) xs) other ∙ more behind

-- ---- counts of what passes a further test

abbrev one_if : Bool → ℕ
one_if t = cond t 1 0

module _ {X : Type 0} (P : X → Bool) where
  -- one more is counted if it passes
  pub counted_cons : (x : X) (xs : List X) → count_by P (x ∷ xs) ≡ cond (P x) 1 0 + count_by P xs
  counted_cons x xs = sum_by-cons (λ y. cond (P y) 1 0) x xs

  -- two lists are counted together
  pub counted_append : (xs ys : List X) → count_by P (xs ++ ys) ≡ count_by P xs + count_by P ys
  counted_append xs ys = sum_by-append (λ y. cond (P y) 1 0) xs ys

  -- what passes is counted in a part that has all that pass
  pub count_kept : (keep : X → Bool) → ((x : X) → P x ≡ true → keep x ≡ true) → (xs : List X) → count_by P xs ≡ count_by P (filter keep xs)
  count_kept keep stays [] = refl
  count_kept keep stays (x ∷ xs) = elim (cases_Bool (keep x)) [
    | inl is ↦
        let rest = count_kept keep stays xs in
        let first = counted_cons x xs in
        let later = counted_cons x (filter keep xs) in
        rw is (omega (arith, rest, first, later))
    | inr goes ↦
        let rest = count_kept keep stays xs in
        let first = counted_cons x xs in
        let none : one_if (P x) ≡ 0 = elim (cases_Bool (P x)) [
          | inl passes ↦ let clash : true ≡ false = sym (stays x passes) ∙ goes in absurd cc
          | inr fails ↦ rw fails refl
        ] in
        rw goes (omega (arith, rest, first, none))
  ]

-- a copy that is the same is of the same publication
pub same_own : (n : ℕ) (c : CopyId) → is_own n c ≡ true → (x : CopyId) → is_copy c x ≡ true → is_own n x ≡ true
same_own n c own x same = subst (λ (y : CopyId). is_own n y ≡ true) (copy_is c x same) own

share_routed : (group : List ℕ) (x : Cause) → is_share group x ≡ true → is_routed x ≡ true
share_routed group Direct h = absurd cc
share_routed group (Share other) h = refl
share_routed group (Retained subscribe) h = absurd cc

-- and one for a group too
pub groups_own : (n : ℕ) (group : List ℕ) (x : CopyId) → is_groups n group x ≡ true → is_own n x ≡ true
groups_own n group x h =
    let number : nat_eq x.publication n ≡ true = and_left (nat_eq x.publication n) (is_share group x.cause) h in
    let routed : is_routed x.cause ≡ true = share_routed group x.cause (and_right (nat_eq x.publication n) (is_share group x.cause) h) in
    rw (number, routed) refl

-- ---- copies that differ: each is counted once if it is one of them

counted_once : (c : CopyId) (is : List CopyId) → AllDiffer is → count_of c is ≡ cond (list_any (is_copy c) is) 1 0
counted_once c [] h = refl
counted_once c (i ∷ is) h = count_cons c i is ∙ by (is_copy c i) refl (counted_once c is h.1)
  where
    others : c ≡ i → (ys : List CopyId) → AllByRecursion (λ y. i ≢ y) ys → AllByRecursion (λ y. c ≢ y) ys
    others same [] q = tt
    others same (y ∷ ys) q = ((λ e. q.0 (sym same ∙ e)), others same ys q.1)

    by : (t : Bool) → is_copy c i ≡ t → count_of c is ≡ cond (list_any (is_copy c) is) 1 0 → cond t 1 0 + count_of c is ≡ cond (t || list_any (is_copy c) is) 1 0
    by true same rest = let none = count_none c is (others (copy_is c i same) is h.0) in omega (arith, none)
    by false other rest = omega (arith, rest)

intended_is : (c : CopyId) (ds : List CopyTo) → list_any (is_copy c) (queued_ids ds) ≡ is_intended c ds
intended_is c [] = refl
intended_is c (d ∷ ds) = elim (cases_Bool (is_queued d)) [
  | inl is ↦ rw is (ap (λ (t : Bool). is_copy c (id_of d) || t) (intended_is c ds))
  | inr goes ↦ rw goes (intended_is c ds)
]

-- a copy that is meant is queued once
pub intended_once : (c : CopyId) (ds : List CopyTo) → AllDiffer (queued_ids ds) → count_of c (queued_ids ds) ≡ cond (is_intended c ds) 1 0
intended_once c ds h = counted_once c (queued_ids ds) h ∙ ap (λ (t : Bool). cond t 1 0) (intended_is c ds)

-- ---- one copy for a group

queued_append : (xs ys : List CopyTo) → queued_ids (xs ++ ys) ≡ queued_ids xs ++ queued_ids ys
queued_append xs ys = ap (map id_of) (filter-append is_queued xs ys) ∙ map-append id_of (filter is_queued xs) (filter is_queued ys)

-- copies of QoS 1 and 2 are queued
pub queued_quality : (n : ℕ) → is_queued_at (quality n) ≡ nat_lt 0 n
queued_quality zero = refl
queued_quality (suc zero) = refl
queued_quality (suc (suc zero)) = refl
queued_quality (suc (suc (suc n))) = sym (lt-ltb 0 (suc (suc (suc n))) (omega arith))

module _ (number now : ℕ) (m : Message) (group : List ℕ) where
  abbrev its : CopyId → Bool
  its c = is_groups number group c

  none_direct : (cs : List Copy) → count_by its (queued_ids (map (copy_to number now m Direct) cs)) ≡ 0
  none_direct [] = refl
  none_direct (c ∷ cs) = elim (cases_Bool (is_queued_at (quality c.qos))) [
    | inl is ↦
        let rest = none_direct cs in
        let first = counted_cons its (copy_to number now m Direct c).copy.id (queued_ids (map (copy_to number now m Direct) cs)) in
        let none : one_if (nat_eq number number && false) ≡ 0 = elim (cases_Bool (nat_eq number number)) [ inl same ↦ rw same refl | inr other ↦ rw other refl ] in
        rw is (omega (arith, rest, first, none))
    | inr goes ↦ rw goes (none_direct cs)
  ]

  abbrev served_to : List Served → List CopyTo
  served_to ss = flat_map (served_copies_to number now m) ss

  one_served : (name : List ℕ) (o : Option Copy) → count_by its (queued_ids (map (copy_to number now m (Share name)) (copies_in o))) ≡ cond (bytes_eq group name && enters_queue o) 1 0
  one_served name None = elim (cases_Bool (bytes_eq group name)) [ inl same ↦ rw same refl | inr other ↦ rw other refl ]
  one_served name (Some c) =
      by (is_queued_at (quality c.qos)) (nat_lt 0 c.qos) (queued_quality c.qos)
    where
      by : (t u : Bool) → t ≡ u → count_by its (map id_of (cond t (copy_to number now m (Share name) c ∷ []) [])) ≡ cond (bytes_eq group name && u) 1 0
      by true true e =
          let same : nat_eq number number ≡ true = nat_eq_equiv.refl number in
          elim (cases_Bool (bytes_eq group name)) [ inl is ↦ rw (same, is) refl | inr other ↦ rw (same, other) refl ]
      by true false e = absurd cc
      by false true e = absurd cc
      by false false e = elim (cases_Bool (bytes_eq group name)) [ inl is ↦ rw is refl | inr other ↦ rw other refl ]

  counted_served : (s : Served) (ss : List Served) → count_by its (queued_ids (served_to (s ∷ ss))) ≡ cond (bytes_eq group s.group && enters_queue s.copy) 1 0 + count_by its (queued_ids (served_to ss))
  counted_served s ss =
      let first = served_copies_to number now m s in
      let cut = ap (count_by its) (queued_append first (served_to ss)) ∙ counted_append its (queued_ids first) (queued_ids (served_to ss)) in
      let one = one_served s.group s.copy in
      omega (arith, cut, one)

  other_groups : (ss : List Served) → AllByRecursion (λ g. group ≢ g) (map (λ (s : Served). s.group) ss) → count_by its (queued_ids (served_to ss)) ≡ 0
  other_groups [] h = refl
  other_groups (s ∷ ss) h =
      let all = counted_served s ss in
      let rest = other_groups ss h.1 in
      let other : bytes_eq group s.group ≡ false = elim (cases_Bool (bytes_eq group s.group)) [ inl same ↦ absurd (h.0 ((bytes_eq-Decides group s.group).0 same)) | inr differs ↦ differs ] in
      let none : one_if (bytes_eq group s.group && enters_queue s.copy) ≡ 0 = rw other refl in
      omega (arith, all, rest, none)

  counted_routed : (r : Routed) → count_by its (queued_ids (copies_to number now m r)) ≡ count_by its (queued_ids (served_to r.served))
  counted_routed r =
      let direct = map (copy_to number now m Direct) r.direct in
      let cut = ap (count_by its) (queued_append direct (served_to r.served)) ∙ counted_append its (queued_ids direct) (queued_ids (served_to r.served)) in
      let none = none_direct r.direct in
      omega (arith, cut, none)

module _ (number now : ℕ) (m : Message) where
  -- of each that was served, and no other of its name, one copy if it got one that enters
  one_for : (s : Served) (ss : List Served) → AllDiffer (map (λ (x : Served). x.group) ss) → IsAmong s ss
      → count_by (is_groups number s.group) (queued_ids (flat_map (served_copies_to number now m) ss)) ≡ cond (enters_queue s.copy) 1 0
  one_for s [] differ among = absurd among
  one_for s (x ∷ xs) differ among = by among (one_for s xs differ.1)
    where
      Goal : Served → Type 0
      Goal y = count_by (is_groups number y.group) (queued_ids (flat_map (served_copies_to number now m) (x ∷ xs))) ≡ cond (enters_queue y.copy) 1 0

      differs : (ys : List Served) → AllByRecursion (λ g. x.group ≢ g) (map (λ (y : Served). y.group) ys) → IsAmong s ys → x.group ≢ s.group
      differs [] h q = absurd q
      differs (y ∷ ys) h (inl same) = subst (λ (z : Served). x.group ≢ z.group) same h.0
      differs (y ∷ ys) h (inr behind) = differs ys h.1 behind

      by : IsAmong s (x ∷ xs) → (IsAmong s xs → count_by (is_groups number s.group) (queued_ids (flat_map (served_copies_to number now m) xs)) ≡ cond (enters_queue s.copy) 1 0) → Goal s
      by (inl same) more =
          let all = counted_served number now m x.group x xs in
          let none = other_groups number now m x.group xs differ.0 in
          let its : bytes_eq x.group x.group ≡ true = (bytes_eq-Decides x.group x.group).1 refl in
          let one : one_if (bytes_eq x.group x.group && enters_queue x.copy) ≡ one_if (enters_queue x.copy) = rw its refl in
          subst Goal same (omega (arith, all, none, one))
      by (inr behind) more =
          let all = counted_served number now m s.group x xs in
          let rest = more behind in
          let unlike = differs xs differ.0 behind in
          let other : bytes_eq s.group x.group ≡ false = elim (cases_Bool (bytes_eq s.group x.group)) [ inl same ↦ absurd (unlike (sym ((bytes_eq-Decides s.group x.group).0 same))) | inr apart_ ↦ apart_ ] in
          let none : one_if (bytes_eq s.group x.group && enters_queue x.copy) ≡ 0 = rw other refl in
          omega (arith, all, rest, none)

  -- each group that was served has one copy in a queue, or none
  pub one_each : (r : Routed) → AllDiffer (map (λ (x : Served). x.group) r.served) → (s : Served) → IsAmong s r.served
      → count_by (is_groups number s.group) (queued_ids (copies_to number now m r)) ≡ cond (enters_queue s.copy) 1 0
  one_each r differ s among = counted_routed number now m s.group r ∙ one_for s r.served differ among
