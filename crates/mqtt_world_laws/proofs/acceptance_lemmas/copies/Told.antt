-- Two copies are the same if their identities are; so of copies that differ each is counted once at most.
use Rattle.std.proofs.Common.{◌≡◌, ℕ, ◌≤◌, true, cond, ◌&&◌, List, [], ◌∷◌, nat_eq, refl, sym, ap, ◌∙◌, arith, inl, inr}
use Rattle.std.specs.Prelude.{◌≢◌}
use Rattle.std.specs.List.{AllByRecursion}
use Rattle.std.proofs.lemmas.Bool.{cases_Bool, eqb-true}
use Rattle.std.proofs.lemmas.Slice.Eq.{bytes_eq-Decides}
use Rattle.mqtt_base.specs.declared.session.Cause.{Cause}
use Rattle.mqtt_base.specs.declared.session.Cause.TheVariants.{Direct, Share, Retained}
use Rattle.mqtt_base.specs.declared.session.CopyId.{CopyId}
use Rattle.mqtt_records.specs.lists.Distinct.{AllDiffer}
use Rattle.mqtt_topic.proofs.names_lemmas.MatchLemmas.{and_left, and_right}
use Rattle.mqtt_world_model.specs.model.Laws.{same_cause, is_copy, count_of}
use Rattle.mqtt_world_laws.proofs.acceptance_lemmas.copies.Counting.{count_cons}

cause_is : (c d : Cause) → same_cause c d ≡ true → c ≡ d
cause_is Direct Direct e = refl
cause_is Direct (Share group) e = absurd cc
cause_is Direct (Retained number) e = absurd cc
cause_is (Share group) Direct e = absurd cc
cause_is (Share group) (Share other) e = ap (λ (g : List ℕ). Share g) ((bytes_eq-Decides group other).0 e)
cause_is (Share group) (Retained number) e = absurd cc
cause_is (Retained number) Direct e = absurd cc
cause_is (Retained number) (Share group) e = absurd cc
cause_is (Retained number) (Retained other) e = ap (λ (n : ℕ). Retained n) (eqb-true number other e)

abbrev made : ℕ → ℕ → Cause → CopyId
made publication birth cause = record { publication = publication; birth = birth; cause = cause }

-- what is the same copy is equal
pub copy_is : (c d : CopyId) → is_copy c d ≡ true → c ≡ d
copy_is c d e =
    let rest = and_right (nat_eq c.publication d.publication) (nat_eq c.birth d.birth && same_cause c.cause d.cause) e in
    let one = eqb-true c.publication d.publication (and_left (nat_eq c.publication d.publication) (nat_eq c.birth d.birth && same_cause c.cause d.cause) e) in
    let two = eqb-true c.birth d.birth (and_left (nat_eq c.birth d.birth) (same_cause c.cause d.cause) rest) in
    let three = cause_is c.cause d.cause (and_right (nat_eq c.birth d.birth) (same_cause c.cause d.cause) rest) in
    ap (λ (n : ℕ). made n c.birth c.cause) one ∙ ap (λ (n : ℕ). made d.publication n c.cause) two ∙ ap (λ (x : Cause). made d.publication d.birth x) three

abbrev part : CopyId → CopyId → ℕ
part c x = cond (is_copy c x) 1 0

-- a copy that differs from each is not counted
pub count_none : (c : CopyId) (xs : List CopyId) → AllByRecursion (λ x. c ≢ x) xs → count_of c xs ≡ 0
count_none c [] h = refl
count_none c (x ∷ xs) h =
    let first = count_cons c x xs in
    let rest = count_none c xs h.1 in
    elim (cases_Bool (is_copy c x)) [
      | inl is ↦ absurd (h.0 (copy_is c x is))
      | inr other ↦ let zero : part c x ≡ 0 = rw other refl in omega (arith, first, rest, zero)
    ]

-- of copies that differ each is counted once at most
pub count_once : (c : CopyId) (xs : List CopyId) → AllDiffer xs → count_of c xs ≤ 1
count_once c [] h = let none : count_of c [] ≡ 0 = refl in omega (arith, none)
count_once c (x ∷ xs) h =
    let first = count_cons c x xs in
    elim (cases_Bool (is_copy c x)) [
      | inl is ↦
          let same = copy_is c x is in
          let one : part c x ≡ 1 = rw is refl in
          let rest = count_none c xs (others same xs h.0) in
          omega (arith, first, rest, one)
      | inr other ↦
          let zero : part c x ≡ 0 = rw other refl in
          let rest = count_once c xs h.1 in
          omega (arith, first, rest, zero)
    ]
  where
    others : c ≡ x → (ys : List CopyId) → AllByRecursion (λ y. x ≢ y) ys → AllByRecursion (λ y. c ≢ y) ys
    others same [] q = tt
    others same (y ∷ ys) q = ((λ e. q.0 (sym same ∙ e)), others same ys q.1)
