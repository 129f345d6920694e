-- Lemmas on a filter that is put at its place.
use Rattle.std.proofs.Common.{◌≡◌, ℕ, ◌+◌, ◌-◌, ◌<◌, true, List, [], ◌∷◌, get_or, insert, refl, ap, ◌∙◌, ⊎_elim, arith, map, zero, suc}
use Rattle.std.proofs.lemmas.Bool.{cases_lt}
use Rattle.std.proofs.lemmas.List.Edits.{length-insert, get_or-insert_below, get_or-insert_at, get_or-insert_above}
use Rattle.mqtt_topic.specs.names.Levels.{levels}
use Rattle.mqtt_routes.specs.tree.Tree.{AreOrdered, IsPlace, in_order}
use Rattle.mqtt_routes.proofs.tree_lemmas.OrderLemmas.{order_tails}

-- levels don't come after themselves
pub order_itself : (fs : List (List ℕ)) → in_order fs fs ≡ true
order_itself [] = refl
order_itself (f ∷ fs) = order_tails f fs fs ∙ order_itself fs

module _ (texts : List (List ℕ)) (filter : List ℕ) (place : ℕ) (o : AreOrdered texts) (is : IsPlace texts filter place) where
  -- two of them, by what they are
  both : (i j : ℕ) (a b : List ℕ) → get_or (insert texts place filter) i [] ≡ a → get_or (insert texts place filter) j [] ≡ b → in_order (levels a) (levels b) ≡ true →
      in_order (levels (get_or (insert texts place filter) i [])) (levels (get_or (insert texts place filter) j [])) ≡ true
  both i j a b e h ordered = ap (λ t. in_order (levels t) (levels (get_or (insert texts place filter) j []))) e ∙ ap (λ t. in_order (levels a) (levels t)) h ∙ ordered

  under : (i : ℕ) → i < place → get_or (insert texts place filter) i [] ≡ get_or texts i []
  under i l = get_or-insert_below texts place filter [] i l is.within

  here : (i : ℕ) → i ≡ place → get_or (insert texts place filter) i [] ≡ filter
  here i e = ap (λ n. get_or (insert texts place filter) n []) e ∙ get_or-insert_at texts place filter [] is.within

  over : (i : ℕ) → place < i → get_or (insert texts place filter) i [] ≡ get_or texts (i - 1) []
  over i l = ap (λ n. get_or (insert texts place filter) n []) (let e : i ≡ (i - 1) + 1 = omega (arith, l) in e) ∙ get_or-insert_above texts place filter [] (i - 1) (omega (arith, l)) is.within

  -- filters are in order with one more at its place
  pub put_ordered : AreOrdered (insert texts place filter)
  put_ordered i j l lt =
      let long = length-insert texts place filter is.within in
      ⊎_elim
      (λ i_under. ⊎_elim
      (λ j_under. both i j (get_or texts i []) (get_or texts j []) (under i i_under) (under j j_under) (o i j l (let w = is.within in omega (arith, w, j_under))))
      (λ j_from. ⊎_elim
      (λ j_over. both i j (get_or texts i []) (get_or texts (j - 1) []) (under i i_under) (over j j_over) (o i (j - 1) (omega (arith, i_under, j_over)) (omega (arith, lt, long, j_over))))
      (λ j_here. both i j (get_or texts i []) filter (under i i_under) (here j (omega (arith, j_from, j_here))) (is.before i i_under))
      (cases_lt place j))
      (cases_lt j place))
      (λ i_from. ⊎_elim
      (λ i_over. both i j (get_or texts (i - 1) []) (get_or texts (j - 1) []) (over i i_over) (over j (omega (arith, i_over, l))) (o (i - 1) (j - 1) (omega (arith, i_over, l)) (omega (arith, lt, long, i_over, l))))
      (λ i_here. ⊎_elim
      (λ j_over. both i j filter (get_or texts (j - 1) []) (here i (omega (arith, i_from, i_here))) (over j j_over) (is.after (j - 1) (omega (arith, j_over)) (omega (arith, lt, long, j_over))))
      (λ j_here. both i j filter filter (here i (omega (arith, i_from, i_here))) (here j (omega (arith, i_from, l, j_here))) (order_itself (levels filter)))
      (cases_lt place j))
      (cases_lt place i))
      (cases_lt i place)

-- what is put among others, by what it stands for
pub map_insert : {X : Type 0} (f : X → List ℕ) (xs : List X) (i : ℕ) (x : X) → map f (insert xs i x) ≡ insert (map f xs) i (f x)
map_insert f [] zero x = refl
map_insert f [] (suc i) x = refl
map_insert f (y ∷ ys) zero x = refl
map_insert f (y ∷ ys) (suc i) x = ap (λ (ts : List (List ℕ)). f y ∷ ts) (map_insert f ys i x)
