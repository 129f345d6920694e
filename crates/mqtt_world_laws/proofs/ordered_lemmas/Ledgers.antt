-- What stands in a ledger rises as what entered does, and of two publications the first stands first (MQTT 5.0, 4.6).
use Rattle.std.proofs.Common.{◌≡◌, ◌≤◌, ◌<◌, ℕ, Bool, true, false, ◌&&◌, List, [], ◌∷◌, filter, map, Option, Some, None, nat_eq, refl, sym, ap, subst, ◌∙◌, arith, inl, inr}
use Rattle.std.specs.List.{AllByRecursion}
use Rattle.std.proofs.lemmas.Bool.{cases_Bool, eqb-true}
use Rattle.mqtt_base.specs.declared.session.CopyId.{CopyId}
use Rattle.mqtt_records.proofs.lists_lemmas.OrderLemmas.{apart}
use Rattle.mqtt_topic.proofs.names_lemmas.MatchLemmas.{and_left, and_right}
use Rattle.mqtt_world_model.specs.model.Ends.{Entry}
use Rattle.mqtt_world_model.specs.model.Laws.{copies_in, is_copy, is_own, is_routed, stand_among}
use Rattle.mqtt_world_laws.proofs.acceptance_lemmas.copies.Told.{copy_is}
use Rattle.mqtt_world_laws.proofs.delivery_lemmas.order.QueueOrder.{part_stands}
use Rattle.mqtt_world_laws.proofs.ordered_lemmas.Rising.{is_routed_copy, number_in, own_numbers}
use Rattle.mqtt_world_laws.specs.ordered.Ordered.{IsNotOf, IsRising, StandsFirst, is_copy_of, publications_in}

-- ---- what stands among others that rise rises

each_among : (P : ℕ → Type 0) (xs ys : List CopyId) → stand_among xs ys ≡ true → AllByRecursion P (map number_in ys) → AllByRecursion P (map number_in xs)
each_among P [] ys h all = tt
each_among P (x ∷ xs) [] h all = absurd cc
each_among P (x ∷ xs) (y ∷ ys) h all = elim (cases_Bool (is_copy x y)) [
  | inl its ↦
      let same = copy_is x y its in
      (subst (λ (c : CopyId). P c.publication) (sym same) all.0, each_among P xs ys (rw its at h) all.1)
  | inr other ↦ each_among P (x ∷ xs) ys (rw other at h) all.1
]

among_rises : (xs ys : List CopyId) → stand_among xs ys ≡ true → IsRising (map number_in ys) → IsRising (map number_in xs)
among_rises [] ys h r = tt
among_rises (x ∷ xs) [] h r = absurd cc
among_rises (x ∷ xs) (y ∷ ys) h r = elim (cases_Bool (is_copy x y)) [
  | inl its ↦
      let same = copy_is x y its in
      let rest : stand_among xs ys ≡ true = rw its at h in
      (subst (λ (c : CopyId). AllByRecursion (λ (k : ℕ). c.publication ≤ k) (map number_in xs)) (sym same) (each_among (λ (k : ℕ). y.publication ≤ k) xs ys rest r.0), among_rises xs ys rest r.1)
  | inr other ↦ among_rises (x ∷ xs) ys (rw other at h) r.1
]

-- so what a receiver was handed does, and what it has read first
pub entries_rise : (es : List Entry) (ids : List CopyId) → stand_among (copies_in es) ids ≡ true → IsRising (own_numbers ids) → IsRising (publications_in es)
entries_rise es ids stand h = among_rises (filter is_routed_copy (copies_in es)) (filter is_routed_copy ids) (part_stands is_routed_copy (copies_in es) ids stand) h

-- ---- of two publications the first stands first

abbrev handed_in : List Entry → List ℕ
handed_in es = own_numbers (copies_in es)

-- where all are above a number none is of it
none_below : (first second : ℕ) → first < second → (es : List Entry) → AllByRecursion (λ (k : ℕ). second ≤ k) (handed_in es) → AllByRecursion (IsNotOf first) es
none_below first second less [] h = tt
none_below first second less (e ∷ es) h = by e.copy refl (none_below first second less es)
  where
    Rest : Type 0
    Rest = AllByRecursion (λ (k : ℕ). second ≤ k) (handed_in es) → AllByRecursion (IsNotOf first) es

    not_own : (t u : Bool) → u ≡ false → (t && u) ≡ false
    not_own true u h = h
    not_own false u h = refl

    by : (o : Option CopyId) → e.copy ≡ o → Rest → AllByRecursion (IsNotOf first) (e ∷ es)
    by None is more =
        let rest : AllByRecursion (λ (k : ℕ). second ≤ k) (handed_in es) = rw is at h in
        (ap (is_copy_of first) is, more rest)
    by (Some c) is more = elim (cases_Bool (is_routed_copy c)) [
      | inl routed ↦
          let all : (second ≤ c.publication) × AllByRecursion (λ (k : ℕ). second ≤ k) (handed_in es) = rw (is, routed) at h in
          let low = all.0 in
          let other : nat_eq c.publication first ≡ false = apart c.publication first (λ same. omega (arith, less, low, same)) in
          (ap (is_copy_of first) is ∙ ap (λ (t : Bool). t && is_routed c.cause) other, more all.1)
      | inr brought ↦
          let rest : AllByRecursion (λ (k : ℕ). second ≤ k) (handed_in es) = rw (is, brought) at h in
          (ap (is_copy_of first) is ∙ not_own (nat_eq c.publication first) (is_routed c.cause) brought, more rest)
    ]

-- in a ledger that rises
pub stands_first : (first second : ℕ) → first < second → (es : List Entry) → IsRising (handed_in es) → StandsFirst first second es
stands_first first second less [] h = tt
stands_first first second less (e ∷ es) h = by e.copy refl (stands_first first second less es)
  where
    by : (o : Option CopyId) → e.copy ≡ o → (IsRising (handed_in es) → StandsFirst first second es) → StandsFirst first second (e ∷ es)
    by None is more =
        let rest : IsRising (handed_in es) = rw is at h in
        ((λ its. let clash : false ≡ true = sym (ap (is_copy_of second) is) ∙ its in absurd cc), more rest)
    by (Some c) is more = elim (cases_Bool (is_routed_copy c)) [
      | inl routed ↦
          let all : AllByRecursion (λ (k : ℕ). c.publication ≤ k) (handed_in es) × IsRising (handed_in es) = rw (is, routed) at h in (
            (λ its.
                let own : is_own second c ≡ true = sym (ap (is_copy_of second) is) ∙ its in
                let same : c.publication ≡ second = eqb-true c.publication second (and_left (nat_eq c.publication second) (is_routed c.cause) own) in
                none_below first second less es (subst (λ (n : ℕ). AllByRecursion (λ (k : ℕ). n ≤ k) (handed_in es)) same all.0)),
            more all.1,
          )
      | inr brought ↦
          let rest : IsRising (handed_in es) = rw (is, brought) at h in (
            (λ its.
                let own : is_own second c ≡ true = sym (ap (is_copy_of second) is) ∙ its in
                let routed = and_right (nat_eq c.publication second) (is_routed c.cause) own in
                let clash : false ≡ true = sym brought ∙ routed in absurd cc),
            more rest,
          )
    ]
