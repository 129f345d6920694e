-- INSERT of one row into a table, from its text on.
use Rattle.std.proofs.Common.{◌≡◌, ◌≢◌, ℕ, ℤ, ◌/◌, Bool, true, false, not, if◌then◌else◌, List, [], ◌∷◌, filter, length, slice_get, Option, Some, None, Ok, Err, Result, OnOk, sym, ap, ◌∙◌, subst, inl, inr, IsTrue, MatchBool, true≢false}
use Rattle.std.specs.Ordering.{is_lt, int_cmp}
use Rattle.sqlite_value.specs.declared.value.Value.TheVariants.{Int}
use Rattle.sqlite_value.specs.Order.{Row}
use Rattle.sqlite_trees.specs.Tree.{Trees, rowid, put_row}
use Rattle.sqlite_trees.specs.View.{is_int}
use Rattle.sqlite_trees.specs.declared.store.Shape.TheVariants.{Table as TableShape}
use Rattle.sqlite_trees.proofs.TreeLemmas.{IsShaped-filter, IsShaped-put_row}
use Rattle.sqlite_schema.specs.declared.schema.Keys.TheVariants.{Enforced}
use Rattle.sqlite_schema.specs.declared.schema.Table.{Table}
use Rattle.sqlite_schema.specs.declared.command.Conflict.{Conflict}
use Rattle.sqlite_schema.specs.declared.command.Conflict.TheVariants.{Replace}
use Rattle.sqlite_schema.specs.declared.command.Upsert.{Upsert}
use Rattle.sqlite.specs.Source.TheVariants.{Values}
use Rattle.sqlite_rules.specs.Lists.{Has}
use Rattle.sqlite_rules.specs.Keys.{AreConflicts, conflicts}
use Rattle.sqlite_rules.specs.Cast.{cast_row}
use Rattle.sqlite_rules.specs.Edit.{Edit, IsNoIndex, edit_of, id_in, taken_by, without_all, with_rowid}
use Rattle.sqlite_rules.specs.Calls.{ids_of}
use Rattle.sqlite_rules.specs.Action.{works, Writes}
use Rattle.sqlite_rules.proofs.ListLemmas.{all_has}
use Rattle.sqlite_rules.proofs.TableLemmas.{int_is}
use Rattle.sqlite_rules.proofs.PlaceLemmas.{given}
use Rattle.sqlite_rules.specs.declared.error.Rowids.TheVariants.{Given}
use Rattle.sqlite_rules.specs.declared.error.Refusal.{Refusal}
use Rattle.sqlite.specs.Command.TheVariants.{InsertOr}
use Rattle.sqlite.specs.Term.{Term}
use Rattle.sqlite.specs.declared.error.Error.{Error}
use Rattle.sqlite.specs.Listing.{understood}
use Rattle.sqlite.specs.Effect.{Database, value_rows, edit_error}
use Rattle.sqlite.specs.Rows.{Task, Written, Clears, Puts, Tries, TriesEach, Judged, rowids_for, mended, stamped, nothing, count_of, CountsIn, sequence, Gives}
use Rattle.sqlite.specs.Does.{Does, Tally}
use Rattle.sqlite.specs.State.{State, mode_of, ExecutesInside}
use Rattle.sqlite.proofs.Callers.{IsPlain, command_of, statement_of, runs_as, one_step}
use Rattle.mqtt_store_tables.specs.statements.Layout.{Layout, IsLayout, schema_of}
use Rattle.mqtt_store_tables.specs.statements.Content.{IsShapedAt, IsWhole}
use Rattle.mqtt_store_tables.specs.statements.Put.{PutsInto}
use Rattle.mqtt_store_tables.proofs.statements_lemmas.tables.Parts.{went, same_value, plain_mode}
use Rattle.mqtt_store_tables.proofs.statements_lemmas.tables.Rows.{without_those}
use Rattle.mqtt_store_tables.proofs.statements_lemmas.deletes.Removal.{has_map, map_has}
use Rattle.mqtt_store_tables.proofs.statements_lemmas.tables.Whole.{whole_after}

uncounted_gives : (b x : Bool) (P Q : Type 0) → b ≡ false → MatchBool (if b then x else false) P Q → Q
uncounted_gives true x P Q e h = absurd (true≢false e)
uncounted_gives false x P Q e h = h

-- what is known of a table that counts no rows, if a row is put
pub record IsPutOf (l : Layout) (table : Table) (put : Row) : Type 0 where
  pub uncounted : table.is_counted ≡ false
  pub kept : cast_row table put ≡ put
  pub int : IsTrue (is_int (rowid put))
  pub childless : (olds : List Row) → works (schema_of l) Enforced 0 table.tree olds (put ∷ []) ≡ []

module _ (l : Layout) (table : Table) (put : Row) (known : IsPutOf l table put) where
  abbrev pub task : Option ℕ → Row → Task
  task limit params = record { limit = limit; keys = Enforced; schema = schema_of l; table = table; params = params }

  -- a row that is put stands in its table at its number, and other tables stay
  pub puts_row : (limit : Option ℕ) (params : Row) (mid : Trees) (one : Written) → Puts (task limit params) put mid (Ok one)
      → (one.trees table.tree ≡ put_row put (mid table.tree)) × ((t : ℕ) → t ≢ table.tree → IsNoIndex (schema_of l) t → one.trees t ≡ mid t)
  puts_row limit params mid one h =
      let wrote = went h in
      let edit : Edit = record { table = table; gone = []; news = put ∷ [] } in
      let is : edit_of mid table [] Given 0 (put ∷ []) ≡ edit = ap (λ (news : List Row). record { table = table; gone = []; news = news }) (given (mid table.tree) (cast_row table put ∷ []) ∙ ap (λ r. r ∷ []) known.kept) in
      let a = one_step (schema_of l) Enforced mid wrote.0 edit (known.childless (taken_by mid edit)) (subst (λ e. Writes (schema_of l) Enforced mid e (Ok wrote.0)) is wrote.1) in
      let trees : one.trees ≡ wrote.0 = ap (λ (w : Written). w.trees) (same_value wrote.2) in
      (ap (λ (x : Trees). x table.tree) trees ∙ a.rows, λ t n spared. ap (λ (x : Trees). x t) trees ∙ a.others t n spared)

-- the rows that the new one meets are out
pub left : (l : Layout) (table : Table) (put : Row) (db : Trees) (gone : Row → Bool) (target : Option (List ℕ)) → IsShapedAt db table.tree
    → ((r : Row) → Has (db table.tree) r → conflicts target (schema_of l).indexes table put r ≡ gone r)
    → (found : List Row) → AreConflicts target (schema_of l).indexes table (db table.tree) put found → without_all (db table.tree) (ids_of found) ≡ filter (λ r. not (gone r)) (db table.tree)
left l table put db gone target shaped meets found are = without_those gone (db table.tree) (ids_of found) shaped.up shaped.ints
    (λ id h.
    let y = has_map (λ (r : Row). id_in (rowid r)) found id h in
    let r = are.sound y.0 y.1 in
    let number : id ≡ id_in (rowid r.0) = y.2 ∙ ap (λ (z : Row). id_in (rowid z)) r.3 in
    (r.0, r.1, sym (meets r.0 r.1) ∙ r.2, int_is (rowid r.0) (all_has _ (db table.tree) r.0 shaped.ints r.1) ∙ ap Int (sym number)))
    (λ r id h same there. subst (Has (ids_of found)) (ap id_in there) (map_has (λ (z : Row). id_in (rowid z)) found (rowid r ∷ []) (are.complete r h (meets r h ∙ same))))

module _ (l : Layout) (table : Table) (put : Row) (known : IsPutOf l table put) (childless_out : (olds : List Row) → works (schema_of l) Enforced 0 table.tree olds [] ≡ []) (db : Trees) (gone : Row → Bool)
    (shaped : IsShapedAt db table.tree) (meets : (r : Row) → Has (db table.tree) r → conflicts None (schema_of l).indexes table put r ≡ gone r) where
  clears : (limit : Option ℕ) (params : Row) (one : Written) (found : List Row) → AreConflicts None (schema_of l).indexes table (db table.tree) put found → Clears (task l table put known limit params) Replace put db found (Ok one)
      → PutsInto l table.tree put gone db one.trees
  clears limit params one [] are h =
      let p = puts_row l table put known limit params db one h in
      record { rows = p.0 ∙ ap (put_row put) (left l table put db gone None shaped meets [] are); others = p.1 }
  clears limit params one (x ∷ more) are h =
      let cut = went h in
      let edit = edit_of db table (ids_of (x ∷ more)) Given 0 [] in
      let a = one_step (schema_of l) Enforced db cut.0 edit (childless_out (taken_by db edit)) cut.1 in
      let p = puts_row l table put known limit params cut.0 one cut.2 in
      record {
        rows = p.0 ∙ (ap (put_row put) a.rows ∙ ap (put_row put) (left l table put db gone None shaped meets (x ∷ more) are));
        others = λ t n spared. p.1 t n spared ∙ a.others t n spared;
      }

  tries : (limit : Option ℕ) (params : Row) (one : Written) → Tries (task l table put known limit params) Replace [] put db (Ok one) → PutsInto l table.tree put gone db one.trees
  tries limit params one (inl none) = absurd (let e = none.1 in cc)
  tries limit params one (inr judged) = go judged.0 judged.2
    where
      go : (verdict : Option Refusal) → Judged (task l table put known limit params) Replace [] put db verdict (Ok one) → PutsInto l table.tree put gone db one.trees
      go None h = clears limit params one h.0 h.1 h.2
      go (Some why) h = absurd (let e : ◌≡◌ {A = Result Written (Option Error)} (Ok one) (Err (Some (edit_error why))) = h in cc)

-- one row is tried, and that says what is left
module _ (l : Layout) (table : Table) (put : Row) (known : IsPutOf l table put) (db : Trees) (way : Conflict) (clauses : List Upsert) (params source : Row) (P : Trees → Type 0)
    (tried : (limit : Option ℕ) (one : Written) → Tries (task l table put known limit params) way clauses put db (Ok one) → P one.trees)
    (at : ℕ) (terms : List Term) (width : ℕ) (is_at : slice_get (schema_of l).tables at ≡ Some table)
    (sources : value_rows (stamped table params) width (length terms / width) terms ≡ source ∷ [])
    (numbered : (top : ℤ) → with_rowid (rowids_for table top) (db table.tree) (cast_row table (mended way table source)) ≡ put) where
  inserted : (limit : Option ℕ) (text : List ℕ) (tally : Tally) (after : Database)
      → Does limit plain_mode params (record { schema = schema_of l; trees = db }) text None (InsertOr at way (Values terms width) clauses) (Ok (tally, after)) → P after.trees × (after.schema ≡ schema_of l)
  inserted limit text tally after h =
      let all = went (rw is_at at h) in
      let src = went all.1 in
      let rows : src.0 ≡ source ∷ [] = src.1.1 ∙ sources in
      let cnt = went src.2 in
      let each = went cnt.2 in
      let cts = went each.2 in
      let counted : cts.0 ≡ each.0.0.trees = same_value
      (uncounted_gives table.is_counted (is_lt (int_cmp (count_of cnt.0) each.0.1)) (CountsIn (task l table put known limit params) each.0.0.trees cnt.0 each.0.1 (sequence (schema_of l)) (Ok cts.0)) (Gives each.0.0.trees (Ok cts.0)) known.uncounted cts.1) in
      let first = subst (λ (sources : List Row). TriesEach (task l table put known limit params) way clauses sources (count_of cnt.0) (nothing db) (Ok each.0)) rows each.1 in
      let one = went first in
      let went_in = tried limit one.0 (subst (λ (r : Row). Tries (task l table put known limit params) way clauses r db (Ok one.0)) (numbered (count_of cnt.0)) one.1) in
      let last : each.0.0.trees ≡ one.0.trees = ap (λ (p : Written × ℤ). p.0.trees) (same_value one.2) in
      let written : all.0.trees ≡ cts.0 = ap (λ (w : Written). w.trees) (same_value cts.2) in
      let tested = went all.2 in
      let returned = went tested.2 in
      let is_after : after ≡ record { schema = schema_of l; trees = all.0.trees } = ap (λ (p : Tally × Database). p.1) (same_value returned.2) in
      let trees : after.trees ≡ one.0.trees = ap (λ (d : Database). d.trees) is_after ∙ (written ∙ (counted ∙ last)) in
      (subst P (sym trees) went_in, ap (λ (d : Database). d.schema) is_after)

-- a table with a row put in place of others still rises by its numbers
pub put_shaped : (old new : Trees) (tree : ℕ) (put : Row) (gone : Row → Bool) → IsTrue (is_int (rowid put)) → new tree ≡ put_row put (filter (λ r. not (gone r)) (old tree)) → IsShapedAt old tree → IsShapedAt new tree
put_shaped old new tree put gone int same h =
    let both = IsShaped-put_row put (filter (λ r. not (gone r)) (old tree)) int (IsShaped-filter TableShape (λ r. not (gone r)) (old tree) (h.up, h.ints)) in
    record { up = rw same both.0; ints = rw same both.1 }

module _ (l : Layout) (asked : IsLayout l) (text : List ℕ) (at : ℕ) (table : Table) (terms : List Term) (width : ℕ) (params source : Row) (gone : Row → Bool) (way : Conflict) (clauses : List Upsert)
    (is : command_of (understood (schema_of l) text) ≡ InsertOr at way (Values terms width) clauses) (plain : IsPlain (understood (schema_of l) text))
    (is_at : slice_get (schema_of l).tables at ≡ Some table)
    (sources : value_rows (stamped table params) width (length terms / width) terms ≡ source ∷ []) where
  -- an INSERT of one row, as it is tried, puts the row in place of those that it meets
  pub inserts : (put : Row) (old new : State) (r : Result ℕ Error) → IsWhole l old → IsShapedAt old.now.trees table.tree → (known : IsPutOf l table put)
      → ((limit : Option ℕ) (one : Written) → Tries (task l table put known limit params) way clauses put old.now.trees (Ok one) → PutsInto l table.tree put gone old.now.trees one.trees)
      → ((top : ℤ) → with_rowid (rowids_for table top) (old.now.trees table.tree) (cast_row table (mended way table source)) ≡ put)
      → ExecutesInside 0 text params old new r
      → OnOk r (PutsInto l table.tree put gone old.now.trees new.now.trees) × OnOk r (IsWhole l new)
  inserts put old new (Err e) whole shaped known tried numbered h = (tt, tt)
  inserts put old new (Ok count) whole shaped known tried numbered h =
      let command = InsertOr at way (Values terms width) clauses in
      let w = runs_as text params old new (schema_of l) whole.schema command is plain count h.0 in
      let it = inserted l table put known old.now.trees way clauses params source (PutsInto l table.tree put gone old.now.trees) tried at terms width is_at sources numbered old.step_limit (statement_of text (understood (schema_of l) text)) w.tally new.now
      (subst (λ s. Does old.step_limit (mode_of old) params (record old.now { schema = s }) (statement_of text (understood (schema_of l) text)) None command (Ok (w.tally, new.now))) whole.schema w.changed) in (
        it.0,
        whole_after l asked table.tree old new whole it.0.others (put_shaped old.now.trees new.now.trees table.tree put gone known.int it.0.rows shaped) it.1 h.1.mode (rw it.1 at w.sound.obeys),
      )

module _ (l : Layout) (asked : IsLayout l) (text : List ℕ) (at : ℕ) (table : Table) (terms : List Term) (width : ℕ) (params source : Row) (gone : Row → Bool)
    (is : command_of (understood (schema_of l) text) ≡ InsertOr at Replace (Values terms width) []) (plain : IsPlain (understood (schema_of l) text))
    (is_at : slice_get (schema_of l).tables at ≡ Some table)
    (sources : value_rows (stamped table params) width (length terms / width) terms ≡ source ∷ []) where
  -- the row of the statement goes in, in place of those that it meets
  pub replaces : (put : Row) (old new : State) (r : Result ℕ Error) → IsWhole l old → IsShapedAt old.now.trees table.tree → IsPutOf l table put
      → ((olds : List Row) → works (schema_of l) Enforced 0 table.tree olds [] ≡ [])
      → ((r : Row) → Has (old.now.trees table.tree) r → conflicts None (schema_of l).indexes table put r ≡ gone r)
      → ((top : ℤ) → with_rowid (rowids_for table top) (old.now.trees table.tree) (cast_row table (mended Replace table source)) ≡ put)
      → ExecutesInside 0 text params old new r
      → OnOk r (PutsInto l table.tree put gone old.now.trees new.now.trees) × OnOk r (IsWhole l new)
  replaces put old new r whole shaped known childless_out meets numbered h =
      inserts l asked text at table terms width params source gone Replace [] is plain is_at sources put old new r whole shaped known
      (λ limit one tried. tries l table put known childless_out old.now.trees gone shaped meets limit params one tried) numbered h
