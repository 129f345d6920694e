-- Lists: what passes a test, and which elements stand in them.
use Rattle.std.proofs.Common.{◌≡◌, ℕ, zero, suc, Bool, true, not, ◌⊎◌, List, [], ◌∷◌, filter, refl, sym, subst, inl, inr}
use Rattle.std.specs.Prelude.{slice_index_or}
use Rattle.std.specs.List.{AllByRecursion, list_any}
use Rattle.std.proofs.lemmas.Bool.{cases_Bool}
use Rattle.mqtt_routes.specs.routing.Intended.{is_none}
use Rattle.mqtt_rules.specs.step.Laws.{IsAmong}

module _ {X : Type 0} where
  -- some element passes exactly if those that pass aren't none
  pub some_pass : (test : X → Bool) (xs : List X) → not (is_none (filter test xs)) ≡ list_any test xs
  some_pass test [] = refl
  some_pass test (x ∷ xs) = elim (cases_Bool (test x)) [
    | inl is ↦ rw is refl
    | inr other ↦ rw other (some_pass test xs)
  ]

  -- an element at a place is among them, or it is the one for places beyond
  among_at : (xs : List X) (n : ℕ) (d : X) → (slice_index_or xs n d ≡ d) ⊎ IsAmong (slice_index_or xs n d) xs
  among_at [] zero d = inl refl
  among_at [] (suc n) d = inl refl
  among_at (x ∷ xs) zero d = inr (inl refl)
  among_at (x ∷ xs) (suc n) d = elim (among_at xs n d) [ inl beyond ↦ inl beyond | inr here ↦ inr (inr here) ]

  -- so the first, or another
  pub one_among : (x : X) (xs : List X) (n : ℕ) → IsAmong (slice_index_or (x ∷ xs) n x) (x ∷ xs)
  one_among x xs n = elim (among_at (x ∷ xs) n x) [ inl first ↦ inl (sym first) | inr other ↦ other ]

  -- what is among those that pass is among all, and passes
  pub among_passing : (test : X → Bool) (x : X) (xs : List X) → IsAmong x (filter test xs) → IsAmong x xs × (test x ≡ true)
  among_passing test x [] h = absurd h
  among_passing test x (y ∷ ys) h = elim (cases_Bool (test y)) [
    | inl is ↦ passes is (among_passing test x ys) (rw is at h)
    | inr other ↦ let rest = among_passing test x ys (rw other at h) in (inr rest.0, rest.1)
  ]
    where
      passes : test y ≡ true → (IsAmong x (filter test ys) → IsAmong x ys × (test x ≡ true)) → (y ≡ x) ⊎ IsAmong x (filter test ys) → IsAmong x (y ∷ ys) × (test x ≡ true)
      passes is more (inl same) = (inl same, subst (λ (z : X). test z ≡ true) same is)
      passes is more (inr behind) = let rest = more behind in (inr rest.0, rest.1)

  -- what holds of each that is among them holds of all
  pub each_among : (P : X → Type 0) (xs : List X) → ((x : X) → IsAmong x xs → P x) → AllByRecursion P xs
  each_among P [] h = tt
  each_among P (x ∷ xs) h = (h x (inl refl), each_among P xs (λ y behind. h y (inr behind)))
