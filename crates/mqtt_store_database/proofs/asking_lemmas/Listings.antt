-- What a query of a load shows.
use Rattle.std.proofs.Common.{◌≡◌, ℕ, ◌+◌, ◌-◌, ◌^◌, nat_le, true, cond, slice_get, unwrap_or, None, List, [], ◌∷◌, map, flat_map, length, get_or, refl, sym, ap, ◌∙◌, subst, arith, All, false, IsPermutation, IsSorted}
use Rattle.std.specs.List.{AllByRecursion}
use Rattle.std.proofs.lemmas.List.{get_or-map, length-map}
use Rattle.std.proofs.lemmas.List.Elements.{All-from_recursion, All-get_or}
use Rattle.std.proofs.lemmas.List.Sorted.{IsPermutation-map, All-permutation}
use Rattle.sqlite_value.specs.declared.value.Value.TheVariants.{Null}
use Rattle.sqlite_value.specs.Order.{Row}
use Rattle.sqlite_sql.specs.Program.{overlay}
use Rattle.sqlite_trees.specs.Tree.{Trees}
use Rattle.sqlite.specs.Query.{IsAnswer, Output, output, output_cmp}
use Rattle.sqlite.specs.State.{State, Shown}
use Rattle.sqlite.proofs.Callers.{reads_as}
use Rattle.sqlite_schema.specs.declared.schema.Schema.{Schema}
use Rattle.mqtt_store_tables.specs.declared.forms.schema.StoreTable.{StoreTable}
use Rattle.mqtt_store_tables.specs.declared.forms.schema.StoreTable.TheVariants.{Meta, Session, Will, Subscription, Inbound, Copy, Retained}
use Rattle.mqtt_store_database.specs.asking.Listing.{select_text, tree_of, columns_of, key_of, shown_at, by_columns, IsListingOf, IsListing}
use Rattle.mqtt_store_database.proofs.asking_lemmas.Selects.{query_at, names_of, Means, MeansTable}

abbrev no_lists : List (List Row)
no_lists = []

overlay_none : (db : Trees) (t : ℕ) → overlay db [] t ≡ db t
overlay_none db t = elim (nat_le (2 ^ 31) t) as (λ b. unwrap_or (cond b (slice_get no_lists (t - 2 ^ 31)) None) (db t) ≡ db t) [ true ↦ refl | false ↦ refl ]

-- a row as it goes in, and as it comes out of a query of its columns
abbrev pub out_of : List ℕ → List ℕ → Row → Output
out_of columns key row = output (query_at 0 columns key) ([] ∷ row ∷ [])

-- the query shows the columns, and sorts by those of the key
pub record Sorts (columns key : List ℕ) : Type 0 where
  pub shows : (row : Row) → (out_of columns key row).1 ≡ shown_at columns row
  pub order : (r s : Row) → output_cmp (query_at 0 columns key) (out_of columns key r) (out_of columns key s) ≡ by_columns key (shown_at columns r) (shown_at columns s)

one_each : (rows : List Row) → flat_map (λ (r : Row). ([] ∷ r ∷ []) ∷ []) rows ≡ map (λ (r : Row). [] ∷ r ∷ []) rows
one_each [] = refl
one_each (r ∷ rows) = ap (λ rest. ([] ∷ r ∷ []) ∷ rest) (one_each rows)

module _ (columns key : List ℕ) (sorts : Sorts columns key) where
  outs : (rows : List Row) → map (output (query_at 0 columns key)) (map (λ (r : Row). [] ∷ r ∷ []) rows) ≡ map (out_of columns key) rows
  outs [] = refl
  outs (r ∷ rows) = ap (λ rest. out_of columns key r ∷ rest) (outs rows)

  all_shown : (rows : List Row) → map (λ (o : Output). o.1) (map (out_of columns key) rows) ≡ map (shown_at columns) rows
  all_shown [] = refl
  all_shown (r ∷ rows) = rw (sorts.shows r) (ap (λ rest. shown_at columns r ∷ rest) (all_shown rows))

  -- it came from a row
  abbrev IsOut : Output → Type 0
  IsOut o = (row : Row) × (o ≡ out_of columns key row)

  are_outs : (rows : List Row) → AllByRecursion IsOut (map (out_of columns key) rows)
  are_outs [] = tt
  are_outs (r ∷ rows) = ((r, refl), are_outs rows)

  out_order : (o p : Output) → IsOut o → IsOut p → output_cmp (query_at 0 columns key) o p ≡ by_columns key o.1 p.1
  out_order o p x y = rw (x.1, y.1, sorts.shows x.0, sorts.shows y.0) (sorts.order x.0 y.0)

  sorted_out : (ordered : List Output) → All IsOut ordered → IsSorted (output_cmp (query_at 0 columns key)) ordered → IsSorted (by_columns key) (map (λ (o : Output). o.1) ordered)
  sorted_out [] are sorted k d low high = absurd (omega (arith, high))
  sorted_out (o ∷ ordered) are sorted k d low high =
      let all = o ∷ ordered in
      let long : length (map (λ (p : Output). p.1) all) ≡ length all = length-map all (λ (p : Output). p.1) in
      let here : get_or (map (λ (p : Output). p.1) all) k d ≡ (get_or all k o).1 = get_or-map (λ (p : Output). p.1) all k o d (omega (arith, high, long)) in
      let next : get_or (map (λ (p : Output). p.1) all) (k + 1) d ≡ (get_or all (k + 1) o).1 = get_or-map (λ (p : Output). p.1) all (k + 1) o d (omega (arith, high, long)) in
      let first = All-get_or IsOut all k o (omega (arith, high, long)) are in
      let second = All-get_or IsOut all (k + 1) o (omega (arith, high, long)) are in
      rw (here, next, ← out_order (get_or all (k + 1) o) (get_or all k o) second first) (sorted k o low (omega (arith, high, long)))

  listed : (tree : ℕ) (db : Trees) (rows : List Row) → IsAnswer (query_at tree columns key) (overlay db []) [] rows → IsListingOf columns key (db tree) rows
  listed tree db rows a =
      let stored = db tree in
      let staged : a.staged ≡ map (λ (r : Row). [] ∷ r ∷ []) stored = a.grouped ∙ (ap (flat_map (λ (r : Row). ([] ∷ r ∷ []) ∷ [])) (overlay_none db tree) ∙ one_each stored) in
      let kept : a.kept ≡ map (out_of columns key) stored = a.distinct ∙ (ap (map (output (query_at 0 columns key))) staged ∙ outs stored) in
      let same : IsPermutation (map (out_of columns key) stored) a.ordered = subst (λ k. IsPermutation k a.ordered) kept a.same in
      let moved = IsPermutation-map (λ (o : Output). o.1) _ a.ordered same in
      record {
        each = subst (λ xs. IsPermutation (map (shown_at columns) stored) xs) (sym a.shown) (subst (λ xs. IsPermutation xs (map (λ (o : Output). o.1) a.ordered)) (all_shown stored) moved);
        sorted = subst (IsSorted (by_columns key)) (sym a.shown) (sorted_out a.ordered (All-permutation IsOut _ a.ordered same (All-from_recursion IsOut _ (are_outs stored))) a.sorted);
      }

  -- what a statement shows that means such a query is a listing
  pub lists : (tree : ℕ) (text : List ℕ) (names : List (List ℕ)) (schema : Schema) → Means schema text (query_at tree columns key) names
      → (old new : State) (rows : List Row) → old.now.schema ≡ schema → Shown text [] old new rows → IsListingOf columns key (old.now.trees tree) rows
  lists tree text names schema means old new rows has h =
      let r = reads_as text [] old new schema has _ means.command means.plain means.unlisted rows h in
      listed tree old.now.trees rows (r.answer Null)

-- a table's query does
pub table_sorts : (table : StoreTable) → Sorts (columns_of table) (key_of table)
table_sorts Meta = record { shows = λ row. refl; order = λ r s. refl }
table_sorts Session = record { shows = λ row. refl; order = λ r s. refl }
table_sorts Will = record { shows = λ row. refl; order = λ r s. refl }
table_sorts Subscription = record { shows = λ row. refl; order = λ r s. refl }
table_sorts Inbound = record { shows = λ row. refl; order = λ r s. refl }
table_sorts Copy = record { shows = λ row. refl; order = λ r s. refl }
table_sorts Retained = record { shows = λ row. refl; order = λ r s. refl }

-- what a table's statement shows is the listing of its rows
pub table_lists : (table : StoreTable) (schema : Schema) → MeansTable schema table → (old new : State) (rows : List Row) → old.now.schema ≡ schema → Shown (select_text table) [] old new rows → IsListing table old.now.trees rows
table_lists table schema means old new rows has h = lists (columns_of table) (key_of table) (table_sorts table) (tree_of table) (select_text table) (names_of table) schema means old new rows has h
