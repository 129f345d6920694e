-- In the order of their numbers messages agree exactly if each agrees with the next.
use Rattle.std.proofs.Common.{◌≡◌, ◌↔◌, ℕ, zero, suc, ◌+◌, ◌<◌, ◌≤◌, List, [], ◌∷◌, length, map, get_or, sym, ap, subst, ◌∙◌, inl, inr, refl, arith}
use Rattle.std.specs.List.{AllAdjacentBelow, Contains}
use Rattle.std.proofs.lemmas.List.Elements.{Contains-get_or}
use Rattle.std.specs.List.Sorted.{IsPermutation, IsNonDecreasingBy}
use Rattle.std.proofs.lemmas.List.Sorted.{Contains-permutation, IsPermutation-sym}
use Rattle.mqtt_records.specs.state.Members.{Has}
use Rattle.mqtt_records.specs.state.Contents.{StoredMessage}
use Rattle.mqtt_keep.specs.contents.Listed.{Agrees, AllAgree}

-- ---- numbers that rise

-- no number is below n
abbrev AreFrom : ℕ → List StoredMessage → Type 0
AreFrom n ms = (m : StoredMessage) → Has ms m → n ≤ m.publication

-- no number is below one before it
abbrev AreInOrder : List StoredMessage → Type 0
AreInOrder [] = Unit {0}
AreInOrder (m ∷ ms) = AreFrom m.publication ms × AreInOrder ms

-- with the first of these, if there is one
abbrev AgreesWithFirst : StoredMessage → List StoredMessage → Type 0
AgreesWithFirst m [] = Unit {0}
AgreesWithFirst m (n ∷ ns) = Agrees m n

-- each with the next
abbrev Near : List StoredMessage → Type 0
Near [] = Unit {0}
Near (m ∷ ms) = AgreesWithFirst m ms × Near ms

-- one that agrees with the first of those behind it agrees with all, if these agree
agrees_on : (m : StoredMessage) (ms : List StoredMessage) → AreFrom m.publication ms → AreInOrder ms → AgreesWithFirst m ms → AllAgree ms → (n : StoredMessage) → Has ms n → Agrees m n
agrees_on m [] from up first all n h same = absurd h
agrees_on m (k ∷ ms) from up first all n (inl here) same = here ∙ first (sym (ap number here) ∙ same)
  where
    number : StoredMessage → ℕ
    number x = x.publication
agrees_on m (k ∷ ms) from up first all n (inr later) same =
    let low : m.publication ≤ k.publication = from k (inl refl) in
    let high : k.publication ≤ n.publication = up.0 n later in
    let tied : k.publication ≡ m.publication = omega (arith, low, high, same) in
    all k n (inl refl) (inr later) (same ∙ sym tied) ∙ first tied

-- if each agrees with the next, each agrees with each
all_if : (ms : List StoredMessage) → AreInOrder ms → Near ms → AllAgree ms
all_if [] up near m n h k same = absurd h
all_if (x ∷ ms) up near m n h k same =
    let rest : AllAgree ms = all_if ms up.1 near.1 in
    let on : (y : StoredMessage) → Has ms y → Agrees x y = agrees_on x ms up.0 up.1 near.0 rest in
    elim h [
      | inl is ↦ elim k [
        | inl also ↦ also ∙ sym is
        | inr there ↦ on n there (same ∙ ap number is) ∙ sym is
      ]
      | inr there ↦ elim k [
        | inl is ↦ is ∙ sym (on m there (sym same ∙ ap number is))
        | inr also ↦ rest m n there also same
      ]
    ]
  where
    number : StoredMessage → ℕ
    number y = y.publication

-- ---- lists that are put in order

module _ {X : Type 0} (f : X → StoredMessage) where
  -- what is said by one is in the list
  has_of : (xs : List X) (x : X) → Contains xs x → Has (map f xs) (f x)
  has_of xs x it = go xs x it.0 it.1 it.2
    where
      go : (xs : List X) (x : X) (k : ℕ) → k < length xs → get_or xs k x ≡ x → Has (map f xs) (f x)
      go [] x k less is = absurd (omega (arith, less))
      go (y ∷ ys) x zero less is = inl (ap f (sym is))
      go (y ∷ ys) x (suc k) less is = inr (go ys x k (omega (arith, less)) is)

  -- what is in the list is said by one
  of_has : (xs : List X) (m : StoredMessage) → Has (map f xs) m → (x : X) × Contains xs x × (m ≡ f x)
  of_has [] m h = absurd h
  of_has (y ∷ ys) m (inl here) = (y, (0, omega arith, refl), here)
  of_has (y ∷ ys) m (inr later) = let it = of_has ys m later in (it.0, (suc it.1.0, (let less = it.1.1 in omega (arith, less)), it.1.2), it.2)

  -- lists with the same items say the same
  moved_has : (old new : List X) → IsPermutation old new → (m : StoredMessage) → Has (map f old) m → Has (map f new) m
  moved_has old new moved m h = let it = of_has old m h in subst (Has (map f new)) (sym it.2) (has_of new it.0 (Contains-permutation old new it.0 moved it.1))

  -- numbers that don't fall are in order
  in_order : (xs : List X) → IsNonDecreasingBy (λ x. (f x).publication) xs → AreInOrder (map f xs)
  in_order [] up = tt
  in_order (x ∷ xs) up = (
    λ m h. let it = of_has xs m h in
        let less = it.1.1 in
        let low : (f x).publication ≤ (f (get_or xs it.1.0 it.0)).publication = up 0 (suc it.1.0) it.0 (omega arith) (omega (arith, less)) in
        subst (λ n. (f x).publication ≤ n) (ap (λ y. (f y).publication) it.1.2 ∙ ap (λ (n : StoredMessage). n.publication) (sym it.2)) low,
    in_order xs (λ i j d le less. up (suc i) (suc j) d (omega (arith, le)) (omega (arith, less))),
  )

  -- each with the next, by their places
  abbrev ByPlaces : List X → Type 0
  ByPlaces xs = AllAdjacentBelow (λ x y. Agrees (f x) (f y)) xs (length xs)

  near_of : (xs : List X) → ByPlaces xs → Near (map f xs)
  near_of [] h = tt
  near_of (x ∷ []) h = (tt, tt)
  near_of (x ∷ y ∷ xs) h = (
    h 0 x (omega arith),
    near_of (y ∷ xs) (λ k d less.
        let next : suc k + 1 ≡ suc (k + 1) = omega arith in
        subst (λ j. Agrees (f (get_or (x ∷ y ∷ xs) (suc k) d)) (f (get_or (x ∷ y ∷ xs) j d))) next (h (suc k) d (omega (arith, less)))),
  )

  -- what neighbours say once the list is in order, all said before
  pub agree_says : (old new : List X) → IsPermutation old new → IsNonDecreasingBy (λ x. (f x).publication) new → ByPlaces new ↔ AllAgree (map f old)
  agree_says old new moved up = (
    λ near m n h k. all_if (map f new) (in_order new up) (near_of new near) m n (moved_has old new moved m h) (moved_has old new moved n k),
    λ all k d less.
        let before : k < length new = omega (arith, less) in
        all _ _ (back _ (has_of new _ (Contains-get_or new k d before))) (back _ (has_of new _ (Contains-get_or new (k + 1) d less))),
  )
    where
      back : (m : StoredMessage) → Has (map f new) m → Has (map f old) m
      back = moved_has new old (IsPermutation-sym old new moved)
