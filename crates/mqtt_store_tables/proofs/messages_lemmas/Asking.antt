-- What a query with NOT EXISTS comes to.
use Rattle.std.proofs.Common.{◌≡◌, ℕ, suc, min, pos, Bool, true, false, not, ◌||◌, cond, List, [], ◌∷◌, ◌++◌, map, filter, flat_map, length, refl, sym, ap, ◌∙◌, subst, arith, IsTrue}
use Rattle.std.specs.List.{AllByRecursion, list_any}
use Rattle.std.specs.List.Sorted.{IsPermutation}
use Rattle.std.proofs.lemmas.List.Sorted.{IsPermutation-sym, length_permutation}
use Rattle.sqlite_value.specs.declared.value.Value.TheVariants.{Int}
use Rattle.sqlite_value.specs.Order.{Row}
use Rattle.sqlite_trees.specs.Tree.{IsTable, rowid}
use Rattle.sqlite_trees.specs.View.{is_int}
use Rattle.sqlite_sql.specs.declared.ops.UnaryOp.TheVariants.{Not}
use Rattle.sqlite_sql.specs.Ops.{unary, is_true}
use Rattle.sqlite_rules.specs.Lists.{Has}
use Rattle.sqlite_rules.specs.Edit.{id_in, without_all}
use Rattle.sqlite_rules.specs.Calls.{ids_of}
use Rattle.sqlite_rules.proofs.ListLemmas.{all_has, has_filtered, has_kept}
use Rattle.sqlite_rules.proofs.TableLemmas.{int_is}
use Rattle.sqlite.specs.Term.{Env, eval_all}
use Rattle.sqlite.specs.Query.{Query, Output, output}
use Rattle.mqtt_store_tables.proofs.statements_lemmas.tables.Rows.{without_those, has_permuted}
use Rattle.mqtt_store_tables.proofs.statements_lemmas.deletes.Removal.{has_map, map_has}

-- NOT of a count that stops at one
not_some : (n : ℕ) → is_true (unary Not (Int (pos (min 1 (suc n))))) ≡ false
unfolding unary
not_some n = let one : min 1 (suc n) ≡ 1 = omega arith in rw one refl

-- NOT EXISTS holds if no row passes
pub none_passes : (f p : Row → Bool) → ((r : Row) → f r ≡ p r) → (g : Row → Env) (rows : List Row)
    → is_true (unary Not (Int (pos (min 1 (length (flat_map (λ r. cond (f r) (g r ∷ []) []) rows)))))) ≡ not (list_any p rows)
unfolding unary
none_passes f p same g [] = refl
none_passes f p same g (r ∷ rows) =
    rw (← same r) (elim (f r) as (λ b. is_true (unary Not (Int (pos (min 1 (length (cond b (g r ∷ []) [] ++ flat_map (λ r. cond (f r) (g r ∷ []) []) rows)))))) ≡ not (b || list_any p rows)) [
      | true ↦ not_some (length (flat_map (λ r. cond (f r) (g r ∷ []) []) rows))
      | false ↦ none_passes f p same g rows
    ])

-- nothing in another order is nothing
pub none_left : {X : Type 0} (xs : List X) → IsPermutation [] xs → xs ≡ []
none_left [] p = refl
none_left (x ∷ xs) p = absurd (omega (arith, length_permutation [] (x ∷ xs) p))

-- what a query shows of the rows that pass
pub shown_of : (q : Query) (env : Row → Env) (p : Row → Bool) (rows : List Row)
    → map (λ (o : Output). o.1) (map (output q) (flat_map (λ r. cond (p r) (env r ∷ []) []) rows)) ≡ map (λ r. eval_all q.project (env r)) (filter p rows)
shown_of q env p [] = refl
shown_of q env p (r ∷ rows) =
    let later = shown_of q env p rows in
    elim (p r) as (λ b. map (λ (o : Output). o.1) (map (output q) (cond b (env r ∷ []) [] ++ flat_map (λ r. cond (p r) (env r ∷ []) []) rows)) ≡ map (λ r. eval_all q.project (env r)) (cond b (r ∷ filter p rows) (filter p rows))) [
      | true ↦ ap (λ rest. eval_all q.project (env r) ∷ rest) later
      | false ↦ later
    ]

-- the numbers that a query gives, in any order, are those of the rows that pass: they go, and no others
pub numbers_go : (p : Row → Bool) (rows shown : List Row) → IsTable rows → AllByRecursion (λ r. IsTrue (is_int (rowid r))) rows → IsPermutation (map (λ r. rowid r ∷ []) (filter p rows)) shown
    → without_all rows (ids_of shown) ≡ filter (λ r. not (p r)) rows
numbers_go p rows shown up ints same =
    let number = λ (r : Row). rowid r ∷ [] in
    let passing = filter p rows in
    without_those p rows (ids_of shown) up ints
    (λ id h.
    let y = has_map (λ (r : Row). id_in (rowid r)) shown id h in
    let x = has_map number passing y.0 (has_permuted shown (map number passing) y.0 (IsPermutation-sym _ _ same) y.1) in
    let r = has_filtered p rows x.0 x.1 in
    let is : id ≡ id_in (rowid x.0) = y.2 ∙ ap (λ (z : Row). id_in (rowid z)) x.2 in
    (x.0, r.0, r.1, int_is (rowid x.0) (all_has _ rows x.0 ints r.0) ∙ ap Int (sym is)))
    (λ r id h passes there.
    let given = has_permuted (map number passing) shown (number r) same (map_has number passing r (has_kept p rows r h passes)) in
    subst (Has (ids_of shown)) (ap id_in there) (map_has (λ (z : Row). id_in (rowid z)) shown (number r) given))
