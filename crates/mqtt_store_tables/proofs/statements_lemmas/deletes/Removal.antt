-- DELETE by key from a table to which no other refers, from its text on.
use Rattle.std.proofs.Common.{◌≡◌, ℕ, Bool, not, List, [], ◌∷◌, filter, map, slice_get, Some, None, Ok, Err, Result, OnOk, refl, sym, ap, ◌∙◌, subst, inl, inr, IsTrue}
use Rattle.std.proofs.lemmas.List.Sorted.{IsPermutation-sym}
use Rattle.sqlite_value.specs.declared.value.Value.TheVariants.{Null, Int}
use Rattle.sqlite_value.specs.Order.{Row}
use Rattle.sqlite_trees.specs.Tree.{Trees, rowid}
use Rattle.sqlite_trees.specs.declared.store.Shape.TheVariants.{Table as TableShape}
use Rattle.sqlite_trees.proofs.TreeLemmas.{IsShaped-filter}
use Rattle.sqlite_schema.specs.Rules.{Obeys}
use Rattle.sqlite_schema.specs.declared.schema.Table.{Table}
use Rattle.sqlite_schema.specs.declared.schema.Keys.TheVariants.{Enforced}
use Rattle.sqlite_rules.specs.Lists.{Has}
use Rattle.sqlite_rules.specs.Edit.{edit_of, id_in, taken_by, without_all}
use Rattle.sqlite_rules.specs.Calls.{ids_of}
use Rattle.sqlite_rules.specs.Action.{works}
use Rattle.sqlite_rules.proofs.ListLemmas.{all_has, has_filtered, has_kept}
use Rattle.sqlite_rules.proofs.TableLemmas.{int_is}
use Rattle.sqlite_rules.specs.declared.error.Rowids.TheVariants.{Given}
use Rattle.sqlite.specs.Command.TheVariants.{Delete}
use Rattle.sqlite.specs.Term.{Term, col}
use Rattle.sqlite.specs.Query.{IsAnswer}
use Rattle.sqlite_sql.specs.Program.{overlay}
use Rattle.sqlite.specs.declared.error.Error.{Error}
use Rattle.sqlite.specs.Does.{Does}
use Rattle.sqlite.specs.Listing.{understood}
use Rattle.sqlite.specs.State.{State, ExecutesInside, mode_of}
use Rattle.sqlite.proofs.Callers.{IsPlain, command_of, statement_of, runs_as, one_step}
use Rattle.mqtt_store_tables.specs.statements.Layout.{Layout, IsLayout, schema_of}
use Rattle.mqtt_store_tables.specs.statements.Content.{IsShapedAt, IsWhole}
use Rattle.mqtt_store_tables.specs.statements.Removal.{RemovesFrom}
use Rattle.mqtt_store_tables.proofs.statements_lemmas.tables.Rows.{without_those, has_permuted, filter_alike}
use Rattle.mqtt_store_tables.proofs.statements_lemmas.tables.Commands.{over, program}
use Rattle.mqtt_store_tables.proofs.statements_lemmas.tables.Parts.{passes, shows, answers_over, deleted}
use Rattle.mqtt_store_tables.proofs.statements_lemmas.tables.Whole.{whole_after}

-- what is in a mapped list was made of an item
pub has_map : {X Y : Type 0} (f : X → Y) (xs : List X) (y : Y) → Has (map f xs) y → (x : X) × Has xs x × (y ≡ f x)
has_map f [] y h = absurd h
has_map f (x ∷ xs) y (inl here) = (x, inl refl, here)
has_map f (x ∷ xs) y (inr later) = let it = has_map f xs y later in (it.0, inr it.1, it.2)

-- what is made of an item is in the mapped list
pub map_has : {X Y : Type 0} (f : X → Y) (xs : List X) (x : X) → Has xs x → Has (map f xs) (f x)
map_has f [] x h = absurd h
map_has f (y ∷ ys) x (inl here) = inl (ap f here)
map_has f (y ∷ ys) x (inr later) = inr (map_has f ys x later)

-- a DELETE asks for the rowids
abbrev pub numbers : List Term
numbers = col 1 0 ∷ []

-- the rowids that the query gives are those of the rows that pass
gone_are : (tree : ℕ) (tests : List Term) (params : Row) (db : Trees) (rows : List Row) → IsShapedAt db tree → IsAnswer (over tree tests numbers) (overlay db []) params rows
    → without_all (db tree) (ids_of rows) ≡ filter (λ r. not (passes params tests r)) (db tree)
gone_are tree tests params db rows shaped a =
    let p = answers_over tree tests numbers db params rows a in
    let found = filter (passes params tests) (db tree) in
    without_those (passes params tests) (db tree) (ids_of rows) shaped.up shaped.ints
    (λ id h.
    let y = has_map (λ (r : Row). id_in (rowid r)) rows id h in
    let it = has_map (shows params numbers) found y.0 (has_permuted rows (map (shows params numbers) found) y.0 (IsPermutation-sym _ _ p) y.1) in
    let r = has_filtered (passes params tests) (db tree) it.0 it.1 in
    let number : id ≡ id_in (rowid it.0) = y.2 ∙ ap (λ (z : Row). id_in (rowid z)) it.2 in
    (it.0, r.0, r.1, int_is (rowid it.0) (all_has _ (db tree) it.0 shaped.ints r.0) ∙ ap Int (sym number)))
    (λ r id h same there.
    let shown = has_permuted (map (shows params numbers) found) rows (shows params numbers r) p (map_has (shows params numbers) found r (has_kept (passes params tests) (db tree) r h same)) in
    subst (Has (ids_of rows)) (ap id_in there) (map_has (λ (z : Row). id_in (rowid z)) rows (shows params numbers r) shown))

-- rows that are left in a table still rise by their numbers
pub shaped_left : (a b : Trees) (t : ℕ) (gone : Row → Bool) → b t ≡ filter (λ r. not (gone r)) (a t) → IsShapedAt a t → IsShapedAt b t
shaped_left a b t gone same h =
    let both = IsShaped-filter TableShape (λ r. not (gone r)) (a t) (h.up, h.ints) in
    record { up = rw same both.0; ints = rw same both.1 }

module _ (l : Layout) (asked : IsLayout l) (text : List ℕ) (at : ℕ) (table : Table) (tests : List Term) (params : Row) (is : command_of (understood (schema_of l) text) ≡ Delete at (program (over table.tree tests numbers))) (plain : IsPlain (understood (schema_of l) text))
    (is_at : slice_get (schema_of l).tables at ≡ Some table) (childless : (olds : List Row) → works (schema_of l) Enforced 0 table.tree olds [] ≡ []) where
  -- what such a DELETE leaves: the rows that pass are gone, the schema stays, and the transaction goes on
  pub record Removed (old new : State) : Type 0 where
    pub removes : RemovesFrom l table.tree (passes params tests) old.now.trees new.now.trees
    pub schema : new.now.schema ≡ schema_of l
    pub inside : IsTrue new.in_transaction
    pub obeys : Obeys (schema_of l) new.now.trees

  -- a DELETE that answers a count has taken out the rows that pass
  pub removed : (old new : State) (count : ℕ) → IsWhole l old → IsShapedAt old.now.trees table.tree → ExecutesInside 0 text params old new (Ok count) → Removed old new
  removed old new count ready shaped h =
      let db = old.now.trees in
      let query = program (over table.tree tests numbers) in
      let w = runs_as text params old new (schema_of l) ready.schema (Delete at query) is plain count h.0 in
      let d = deleted old.step_limit params (record { schema = schema_of l; trees = db }) (statement_of text (understood (schema_of l) text)) at query table w.tally new.now is_at
      (subst (λ s. Does old.step_limit (mode_of old) params (record old.now { schema = s }) (statement_of text (understood (schema_of l) text)) None (Delete at query) (Ok (w.tally, new.now))) ready.schema w.changed) in
      let edit = edit_of db table (ids_of d.rows) Given 0 [] in
      let step = one_step (schema_of l) Enforced db new.now.trees edit (childless (taken_by db edit)) d.writes in
      record {
        removes = record { rows = step.rows ∙ gone_are table.tree tests params db d.rows shaped (d.answers.answer Null); others = step.others };
        schema = d.schema;
        inside = h.1.mode;
        obeys = rw d.schema at w.sound.obeys;
      }

  -- the tests pass the rows that go
  module _ (gone : Row → Bool) (same : (r : Row) → passes params tests r ≡ gone r) where
    gone_from : (old new : State) → Removed old new → RemovesFrom l table.tree gone old.now.trees new.now.trees
    gone_from old new it = record {
      rows = it.removes.rows ∙ filter_alike (λ r. not (passes params tests r)) (λ r. not (gone r)) (old.now.trees table.tree) (λ r has. ap not (same r));
      others = it.removes.others;
    }

    -- a DELETE by key takes out the rows of that key, and leaves the transaction whole
    pub deletes : (old new : State) (r : Result ℕ Error) → IsWhole l old → IsShapedAt old.now.trees table.tree → ExecutesInside 0 text params old new r
        → OnOk r (RemovesFrom l table.tree gone old.now.trees new.now.trees) × OnOk r (IsWhole l new)
    deletes old new (Err e) whole shaped h = (tt, tt)
    deletes old new (Ok count) whole shaped h =
        let it = removed old new count whole shaped h in
        let from = gone_from old new it in
        (from, whole_after l asked table.tree old new whole from.others (shaped_left old.now.trees new.now.trees table.tree gone from.rows shaped) it.schema it.inside it.obeys)
