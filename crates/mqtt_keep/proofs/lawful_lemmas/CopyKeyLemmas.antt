-- Copies have the same key exactly if they are the same.
use Rattle.std.proofs.Common.{◌≡◌, ◌≢◌, ℕ, true, false, List, [], ◌∷◌, map, Bor, refl, sym, ap, subst}
use Rattle.std.specs.Prelude.{◌↔◌}
use Rattle.std.specs.Bool.{Decides}
use Rattle.std.specs.Cmp.Lexicographic.{slice_cmp}
use Rattle.std.specs.List.{AllByRecursion, IsDistinct}
use Rattle.std.specs.Ordering.{eq_by_cmp, is_eq, nat_cmp, ordering_then}
use Rattle.std.specs.declared.cmp.Ordering.{Ordering}
use Rattle.std.specs.declared.cmp.Ordering.TheVariants.{Less, Equal, Greater}
use Rattle.mqtt_base.specs.declared.session.Cause.{Cause}
use Rattle.mqtt_base.specs.declared.session.Cause.TheVariants.{Direct, Share, Retained}
use Rattle.mqtt_base.specs.declared.session.CopyId.{CopyId}
use Rattle.mqtt_records.specs.lists.Distinct.{AllDiffer}
use Rattle.mqtt_records.proofs.lists_lemmas.DifferLemmas.{differ-distinct, number_decides, name_decides}
use Rattle.mqtt_keep.specs.lawful.CopyKeys.{key_of, value_of, kind_of, subscribe_of, group_of}

-- ---- keys in order

abbrev Lent : Type 0
Lent = ℕ × ℕ × ℕ × ℕ × Bor (List ℕ)

-- by their parts in turn
abbrev by_parts : Lent → Lent → Ordering
by_parts x y =
    ordering_then (ordering_then (ordering_then (ordering_then (nat_cmp x.0 y.0) (nat_cmp x.1 y.1)) (nat_cmp x.2 y.2)) (nat_cmp x.3 y.3))
    (slice_cmp nat_cmp x.4.now y.4.now)

then_decides : {P Q : Type 0} (a b : Ordering) → Decides (is_eq a) P → Decides (is_eq b) Q → Decides (is_eq (ordering_then a b)) (P × Q)
then_decides Less b p q = (λ e. absurd cc, λ h. absurd (let no : false ≡ true = p.1 h.0 in cc))
then_decides Equal b p q = (λ e. (p.0 refl, q.0 e), λ h. q.1 h.1)
then_decides Greater b p q = (λ e. absurd cc, λ h. absurd (let no : false ≡ true = p.1 h.0 in cc))

by_parts_decides : (x y : Lent) → Decides (eq_by_cmp by_parts x y) (((((x.0 ≡ y.0) × (x.1 ≡ y.1)) × (x.2 ≡ y.2)) × (x.3 ≡ y.3)) × (x.4.now ≡ y.4.now))
by_parts_decides x y =
    then_decides _ _ (then_decides _ _ (then_decides _ _ (then_decides _ _ (number_decides x.0 y.0) (number_decides x.1 y.1)) (number_decides x.2 y.2)) (number_decides x.3 y.3))
    (name_decides x.4 y.4)

key_decides : (x y : Lent) → Decides (eq_by_cmp by_parts x y) (value_of x ≡ value_of y)
key_decides x y =
    let d = by_parts_decides x y in (
      λ e. let h = d.0 e in λ i. record { publication = h.0.0.0.0 i; birth = h.0.0.0.1 i; kind = h.0.0.1 i; subscribe = h.0.1 i; group = h.1 i },
      λ e. d.1 (((((λ i. (e i).publication), (λ i. (e i).birth)), (λ i. (e i).kind)), (λ i. (e i).subscribe)), (λ i. (e i).group)),
    )

-- ---- keys of copies

same_cause : (c d : Cause) → kind_of c ≡ kind_of d → subscribe_of c ≡ subscribe_of d → group_of c ≡ group_of d → c ≡ d
same_cause Direct Direct k s g = refl
same_cause Direct (Share group) k s g = absurd cc
same_cause Direct (Retained n) k s g = absurd cc
same_cause (Share group) Direct k s g = absurd cc
same_cause (Share group) (Share other) k s g = ap Share g
same_cause (Share group) (Retained n) k s g = absurd cc
same_cause (Retained m) Direct k s g = absurd cc
same_cause (Retained m) (Share group) k s g = absurd cc
same_cause (Retained m) (Retained n) k s g = ap Retained s

same_id : (a b : CopyId) → key_of a ≡ key_of b → a ≡ b
same_id a b e =
    let cause = same_cause a.cause b.cause (λ i. (e i).kind) (λ i. (e i).subscribe) (λ i. (e i).group) in
    λ i. record { publication = (e i).publication; birth = (e i).birth; cause = cause i }

module _ {X : Type 0} (id_of : X → CopyId) where
  others_keyed : (x : X) (xs : List X) → AllByRecursion (λ k. key_of (id_of x) ≢ k) (map (λ y. key_of (id_of y)) xs) → AllByRecursion (λ id. id_of x ≢ id) (map id_of xs)
  others_keyed x [] h = tt
  others_keyed x (y ∷ ys) h = (λ e. h.0 (ap key_of e), others_keyed x ys h.1)

  others_apart : (x : X) (xs : List X) → AllByRecursion (λ id. id_of x ≢ id) (map id_of xs) → AllByRecursion (λ k. key_of (id_of x) ≢ k) (map (λ y. key_of (id_of y)) xs)
  others_apart x [] h = tt
  others_apart x (y ∷ ys) h = (λ e. h.0 (same_id (id_of x) (id_of y) e), others_apart x ys h.1)

  ids_differ : (xs : List X) → AllDiffer (map (λ x. key_of (id_of x)) xs) → AllDiffer (map id_of xs)
  ids_differ [] h = tt
  ids_differ (x ∷ xs) h = (others_keyed x xs h.0, ids_differ xs h.1)

  keys_differ : (xs : List X) → AllDiffer (map id_of xs) → AllDiffer (map (λ x. key_of (id_of x)) xs)
  keys_differ [] h = tt
  keys_differ (x ∷ xs) h = (others_apart x xs h.0, keys_differ xs h.1)

  -- keys that are told apart by their order are those of copies that differ
  pub copies_differ : (keys : List Lent) (xs : List X) → map value_of keys ≡ map (λ x. key_of (id_of x)) xs → IsDistinct (eq_by_cmp by_parts) keys ↔ AllDiffer (map id_of xs)
  copies_differ keys xs are =
      let same = differ-distinct (eq_by_cmp by_parts) value_of key_decides keys in
      (λ d. ids_differ xs (subst AllDiffer are (same.0 d)), λ d. same.1 (subst AllDiffer (sym are) (keys_differ xs d)))
