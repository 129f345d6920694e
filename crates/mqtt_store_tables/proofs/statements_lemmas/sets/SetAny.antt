-- An UPDATE by key leaves the shapes of the tables, be there a row of that key or not.
use Rattle.std.proofs.Common.{◌≡◌, ℕ, ℤ, true, not, List, [], ◌∷◌, filter, map, Some, None, Ok, refl, sym, ap, ◌∙◌, subst, inl, inr, true≢false, arith, IsTrue}
use Rattle.std.specs.List.{list_any}
use Rattle.std.specs.List.Sorted.{IsPermutation}
use Rattle.std.specs.Prelude.{slice_get}
use Rattle.std.proofs.lemmas.Cmp.{tied_itself}
use Rattle.std.proofs.lemmas.Bool.{cases_Bool, false_from_ne_true}
use Rattle.std.proofs.lemmas.List.Sorted.{length_permutation}
use Rattle.sqlite_value.specs.declared.value.Value.TheVariants.{Null, Int}
use Rattle.sqlite_value.specs.Order.{Row}
use Rattle.sqlite_value.proofs.OrderLemmas.{value_cmp_total}
use Rattle.sqlite_trees.specs.Tree.{Trees, rowid, has_rowid, without_rowid}
use Rattle.sqlite_trees.specs.View.{is_int}
use Rattle.sqlite_trees.specs.declared.store.Shape.TheVariants.{Table as TableShape}
use Rattle.sqlite_trees.proofs.ListLemmas.{filter_none}
use Rattle.sqlite_trees.proofs.TreeLemmas.{IsShaped-filter, IsShaped-put_row}
use Rattle.sqlite_schema.specs.declared.schema.Keys.TheVariants.{Enforced}
use Rattle.sqlite_schema.specs.declared.schema.Table.{Table}
use Rattle.sqlite_rules.specs.Lists.{Has}
use Rattle.sqlite_rules.specs.Cast.{cast_row}
use Rattle.sqlite_rules.specs.Edit.{Edit, id_in, edit_of, taken_by, without_all}
use Rattle.sqlite_rules.specs.Calls.{ids_of}
use Rattle.sqlite_rules.specs.Action.{works, Writes}
use Rattle.sqlite_rules.proofs.ListLemmas.{all_has, all_from, some_has, some_from}
use Rattle.sqlite_rules.proofs.TableLemmas.{int_is}
use Rattle.sqlite_rules.proofs.PlaceLemmas.{given}
use Rattle.sqlite_rules.specs.declared.error.Rowids.TheVariants.{Given}
use Rattle.sqlite.specs.Command.TheVariants.{Update}
use Rattle.sqlite.specs.Term.{Term}
use Rattle.sqlite.specs.Does.{Does}
use Rattle.sqlite.specs.Listing.{understood}
use Rattle.sqlite.specs.State.{State, ExecutesInside, mode_of}
use Rattle.sqlite.proofs.Callers.{IsPlain, command_of, statement_of, runs_as, one_permutation, one_step}
use Rattle.mqtt_store_tables.specs.statements.Layout.{Layout, IsLayout, schema_of}
use Rattle.mqtt_store_tables.specs.statements.Content.{IsShapedAt, IsWhole}
use Rattle.mqtt_store_tables.proofs.statements_lemmas.tables.Commands.{over, program}
use Rattle.mqtt_store_tables.proofs.statements_lemmas.tables.Parts.{passes, shows, answers_over, updated}
use Rattle.mqtt_store_tables.proofs.statements_lemmas.deletes.RemoveSession.{only_row}
use Rattle.mqtt_store_tables.proofs.statements_lemmas.tables.Whole.{Spares, whole_after}

none_left : {X : Type 0} (xs : List X) → IsPermutation [] xs → xs ≡ []
none_left [] p = refl
none_left (x ∷ xs) p = absurd (omega (arith, length_permutation [] (x ∷ xs) p))

-- what an edit leaves of its table
record Leaves (l : Layout) (tree : ℕ) (db after : Trees) : Type 0 where
  shaped : IsShapedAt after tree
  others : Spares l tree db after

module _ (l : Layout) (table : Table) (db after : Trees) (shaped : IsShapedAt db table.tree) where
  left_alone : works (schema_of l) Enforced 0 table.tree [] [] ≡ [] → Writes (schema_of l) Enforced db (edit_of db table [] Given 1 []) (Ok after) → Leaves l table.tree db after
  left_alone idle h =
      let edit : Edit = record { table = table; gone = []; news = [] } in
      let a = one_step (schema_of l) Enforced db after edit idle h in
      record { shaped = record { up = rw a.rows shaped.up; ints = rw a.rows shaped.ints }; others = a.others }

  left_put : (id : ℤ) (rest : Row) → ((olds : List Row) (new : Row) → works (schema_of l) Enforced 0 table.tree olds (new ∷ []) ≡ []) → rowid (cast_row table (Int id ∷ rest)) ≡ Int id
      → Writes (schema_of l) Enforced db (edit_of db table (id ∷ []) Given 1 ((Int id ∷ Int id ∷ rest) ∷ [])) (Ok after) → Leaves l table.tree db after
  left_put id rest idle keyed h =
      let put = cast_row table (Int id ∷ rest) in
      let edit : Edit = record { table = table; gone = id ∷ []; news = put ∷ [] } in
      let is : edit_of db table (id ∷ []) Given 1 ((Int id ∷ Int id ∷ rest) ∷ []) ≡ edit =
      ap (λ (news : List Row). record { table = table; gone = id ∷ []; news = news }) (given (without_all (db table.tree) (id ∷ [])) (put ∷ [])) in
      let a = one_step (schema_of l) Enforced db after edit (idle (taken_by db edit) put) (subst (λ e. Writes (schema_of l) Enforced db e (Ok after)) is h) in
      let whole : IsTrue (is_int (rowid put)) = ap is_int keyed in
      let both = IsShaped-put_row put (without_rowid id (db table.tree)) whole (IsShaped-filter TableShape (λ r. not (has_rowid id r)) (db table.tree) (shaped.up, shaped.ints)) in
      record { shaped = record { up = rw a.rows both.0; ints = rw a.rows both.1 }; others = a.others }

-- a row's own number is shown twice, before and in the new row
abbrev ShowsNumber : List Term → Row → Type 0
ShowsNumber project params = (x : Row) → (rest : Row) × (shows params project x ≡ rowid x ∷ rowid x ∷ rest)

module _ (l : Layout) (asked : IsLayout l) (text : List ℕ) (at : ℕ) (table : Table) (tests project : List Term) (params : Row)
    (is : command_of (understood (schema_of l) text) ≡ Update at (program (over table.tree tests project))) (plain : IsPlain (understood (schema_of l) text)) (there : slice_get (schema_of l).tables at ≡ Some table)
    (none : works (schema_of l) Enforced 0 table.tree [] [] ≡ []) (one : (olds : List Row) (new : Row) → works (schema_of l) Enforced 0 table.tree olds (new ∷ []) ≡ [])
    (numbered : ShowsNumber project params) (keyed : (id : ℤ) (rest : Row) → rowid (cast_row table (Int id ∷ rest)) ≡ Int id) where
  -- an UPDATE that finds one row at most leaves the transaction whole
  pub any_whole : (old new : State) (count : ℕ) → IsWhole l old → IsShapedAt old.now.trees table.tree
      → ((r x : Row) → Has (old.now.trees table.tree) r → Has (old.now.trees table.tree) x → passes params tests r ≡ true → passes params tests x ≡ true → r ≡ x)
      → ExecutesInside 0 text params old new (Ok count) → IsWhole l new
  any_whole old new count whole shaped alike h =
      let has = whole.schema in
      let db = old.now.trees in
      let tree = table.tree in
      let command = Update at (program (over tree tests project)) in
      let said = statement_of text (understood (schema_of l) text) in
      let w = runs_as text params old new (schema_of l) has command is plain count h.0 in
      let d = updated old.step_limit params (record { schema = schema_of l; trees = db }) said at (program (over tree tests project)) table w.tally new.now there
      (subst (λ s. Does old.step_limit (mode_of old) params (record old.now { schema = s }) said None command (Ok (w.tally, new.now))) has w.changed) in
      let answers = answers_over tree tests project db params d.rows (d.answers.answer Null) in
      let written = λ (rows : List Row) (e : d.rows ≡ rows). subst (λ rows. Writes (schema_of l) Enforced db (edit_of db table (ids_of rows) Given 1 rows) (Ok new.now.trees)) e d.writes in
      let left : Leaves l tree db new.now.trees = elim (cases_Bool (list_any (passes params tests) (db tree))) [
        | inl stands ↦
            let x = some_has (passes params tests) (db tree) stands in
            let id = id_in (rowid x.0) in
            let number : rowid x.0 ≡ Int id = int_is (rowid x.0) (all_has _ (db tree) x.0 shaped.ints x.1) in
            let alone = only_row (db tree) (passes params tests) x.0 shaped.up x.1 x.2 (λ r mine p. rw (alike r x.0 mine x.1 p x.2) (tied_itself value_cmp_total (rowid x.0))) in
            let shown = one_permutation (shows params project x.0) d.rows (subst (λ l. IsPermutation (map (shows params project) l) d.rows) alone answers) in
            let rest = numbered x.0 in
            let row : shows params project x.0 ≡ Int id ∷ Int id ∷ rest.0 = rest.1 ∙ ap (λ v. v ∷ v ∷ rest.0) number in
            left_put l table db new.now.trees shaped id rest.0 one (keyed id rest.0) (written ((Int id ∷ Int id ∷ rest.0) ∷ []) (shown ∙ ap (λ r. r ∷ []) row))
        | inr isnt ↦
            let away : filter (passes params tests) (db tree) ≡ [] = filter_none (passes params tests) (db tree) (all_from _ (db tree) (λ r mine. false_from_ne_true _ (λ p. true≢false (sym (some_from (passes params tests) (db tree) r mine p) ∙ isnt)))) in
            left_alone l table db new.now.trees shaped none (written [] (none_left d.rows (subst (λ l. IsPermutation (map (shows params project) l) d.rows) away answers)))
      ] in
      whole_after l asked tree old new whole left.others left.shaped d.schema h.1.mode (rw d.schema at w.sound.obeys)
