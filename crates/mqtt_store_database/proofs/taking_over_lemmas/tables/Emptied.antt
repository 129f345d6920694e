-- The tables of copies and retained messages of schema 1, emptied.
use Rattle.std.proofs.Common.{◌≡◌, ◌≢◌, ℕ, Bool, true, not, List, [], ◌∷◌, filter, codes, None, Ok, Err, Result, OnOk, map, refl, sym, ap, subst, ◌∙◌, arith, IsTrue}
use Rattle.std.specs.List.{AllByRecursion}
use Rattle.std.proofs.lemmas.List.Sorted.{IsPermutation-sym}
use Rattle.sqlite_value.specs.declared.value.Value.TheVariants.{Null, Int}
use Rattle.sqlite_value.specs.Keys.{joined}
use Rattle.sqlite_value.specs.Order.{Row}
use Rattle.sqlite_catalog.specs.Listing.{Lists}
use Rattle.sqlite_trees.specs.Objects.{catalog_tree}
use Rattle.sqlite_trees.specs.Tree.{Trees, IsTable, rowid}
use Rattle.sqlite_trees.specs.View.{is_int}
use Rattle.sqlite_schema.specs.Names.{same_name}
use Rattle.sqlite_schema.specs.Rules.{Obeys}
use Rattle.sqlite_schema.specs.declared.schema.Keys.TheVariants.{Enforced}
use Rattle.sqlite_rules.specs.Action.{works}
use Rattle.sqlite_rules.specs.Calls.{ids_of}
use Rattle.sqlite_rules.specs.Edit.{IsNoIndex, edit_of, id_in, taken_by, without_all}
use Rattle.sqlite_rules.specs.Lists.{Has}
use Rattle.sqlite_rules.proofs.ListLemmas.{all_has, has_filtered, has_kept}
use Rattle.sqlite_rules.proofs.TableLemmas.{int_is}
use Rattle.sqlite_rules.specs.declared.error.Rowids.TheVariants.{Given}
use Rattle.sqlite.specs.Command.TheVariants.{Delete}
use Rattle.sqlite.specs.Does.{Does}
use Rattle.sqlite.specs.Query.{IsAnswer}
use Rattle.sqlite_sql.specs.Program.{overlay}
use Rattle.sqlite.specs.Listing.{understood}
use Rattle.sqlite.specs.State.{State, ExecutesInside, mode_of}
use Rattle.sqlite.specs.declared.error.Error.{Error}
use Rattle.sqlite.proofs.Callers.{IsPlain, command_of, statement_of, runs_as, one_step}
use Rattle.sqlite_tied.specs.Compute.{everything}
use Rattle.mqtt_store_tables.specs.forms.Tables.{copy, retained}
use Rattle.mqtt_store_tables.specs.schema.Creation.{Adds}
use Rattle.mqtt_store_tables.specs.declared.schema.tables.Making.TheVariants.{TakenOver}
use Rattle.mqtt_store_tables.specs.statements.Content.{IsShapedAt, IsWhole}
use Rattle.mqtt_store_tables.specs.statements.Layout.{Layout, first_layout, second_layout, schema_of}
use Rattle.mqtt_store_tables.specs.statements.Removal.{RemovesFrom}
use Rattle.mqtt_store_tables.proofs.statements_lemmas.deletes.Removal.{numbers, has_map, map_has, shaped_left, deletes}
use Rattle.mqtt_store_tables.proofs.statements_lemmas.tables.Commands.{over, program}
use Rattle.mqtt_store_tables.proofs.statements_lemmas.tables.Parts.{passes, shows, answers_over, deleted}
use Rattle.mqtt_store_tables.proofs.statements_lemmas.tables.Rows.{without_those, has_permuted}
use Rattle.mqtt_store_tables.proofs.statements_lemmas.tables.Spared.{meta_spared, session_spared, will_spared, sub_spared, inbound_spared}
use Rattle.mqtt_store_tables.proofs.statements_lemmas.tables.Whole.{Spares, at_tree}
use Rattle.mqtt_store_tables.proofs.messages_lemmas.Behind.{asked}

abbrev pub second : Layout
second = second_layout TakenOver

abbrev pub copies_text : List ℕ
copies_text = codes "DELETE FROM copy"

abbrev pub retained_text : List ℕ
retained_text = codes "DELETE FROM retained"

-- every row
abbrev pub all : Row → Bool
all row = true

-- ---- what the texts mean

abbrev Deletes : List ℕ → ℕ → ℕ → Type 0
Deletes text at tree = (command_of (understood (schema_of second) text) ≡ Delete at (program (over tree [] numbers))) × IsPlain (understood (schema_of second) text)

copies_mean : Deletes copies_text 5 9
unfolding understood everything
copies_mean = (refl, (refl, refl))

retained_means : Deletes retained_text 6 11
unfolding understood everything
retained_means = (refl, (refl, refl))

-- no table refers to them
copies_childless : (olds : List Row) → works (schema_of second) Enforced 0 9 olds [] ≡ []
unfolding same_name joined
copies_childless olds = refl

retained_childless : (olds : List Row) → works (schema_of second) Enforced 0 11 olds [] ≡ []
unfolding same_name joined
retained_childless olds = refl

-- the rowids that the query gives are those of all rows
all_gone : (db : Trees) (rows : List Row) → IsShapedAt db 9 → IsAnswer (over 9 [] numbers) (overlay db []) [] rows → without_all (db 9) (ids_of rows) ≡ filter (λ row. not (all row)) (db 9)
all_gone db rows shaped answer =
    let given = answers_over 9 [] numbers db [] rows answer in
    without_those all (db 9) (ids_of rows) shaped.up shaped.ints
    (λ id has.
    let y = has_map (λ (r : Row). id_in (rowid r)) rows id has in
    let it = has_map (shows [] numbers) (filter (passes [] []) (db 9)) y.0 (has_permuted rows (map (shows [] numbers) (filter (passes [] []) (db 9))) y.0 (IsPermutation-sym _ _ given) y.1) in
    let there = has_filtered (passes [] []) (db 9) it.0 it.1 in
    let number : id ≡ id_in (rowid it.0) = y.2 ∙ ap (λ (z : Row). id_in (rowid z)) it.2 in
    (it.0, there.0, refl, int_is (rowid it.0) (all_has _ (db 9) it.0 shaped.ints there.0) ∙ ap Int (sym number)))
    (λ row id has same there.
    let shown = has_permuted (map (shows [] numbers) (filter (passes [] []) (db 9))) rows (shows [] numbers row) given (map_has (shows [] numbers) (filter (passes [] []) (db 9)) row (has_kept (passes [] []) (db 9) row has refl)) in
    subst (Has (ids_of rows)) (ap id_in there) (map_has (λ (z : Row). id_in (rowid z)) rows (shows [] numbers row) shown))

-- ---- copies: the tables of schema 2 are new, and that they obey their schema is known only behind the statement

record AreOut (old new : State) : Type 0 where
  removes : RemovesFrom second 9 all old.now.trees new.now.trees
  schema : new.now.schema ≡ schema_of second
  inside : IsTrue new.in_transaction
  obeys : Obeys (schema_of second) new.now.trees

copies_out : (old new : State) (count : ℕ) → old.now.schema ≡ schema_of second → IsShapedAt old.now.trees 9 → ExecutesInside 0 copies_text [] old new (Ok count) → AreOut old new
copies_out old new count schema shaped h =
    let db = old.now.trees in
    let query = program (over 9 [] numbers) in
    let w = runs_as copies_text [] old new (schema_of second) schema (Delete 5 query) copies_mean.0 copies_mean.1 count h.0 in
    let d = deleted old.step_limit [] (record { schema = schema_of second; trees = db }) (statement_of copies_text (understood (schema_of second) copies_text)) 5 query copy w.tally new.now refl
    (subst (λ s. Does old.step_limit (mode_of old) [] (record old.now { schema = s }) (statement_of copies_text (understood (schema_of second) copies_text)) None (Delete 5 query) (Ok (w.tally, new.now))) schema w.changed) in
    let edit = edit_of db copy (ids_of d.rows) Given 0 [] in
    let step = one_step (schema_of second) Enforced db new.now.trees edit (copies_childless (taken_by db edit)) d.writes in
    record {
      removes = record { rows = step.rows ∙ all_gone db d.rows shaped (d.answers.answer Null); others = step.others };
      schema = d.schema;
      inside = h.1.mode;
      obeys = rw d.schema at w.sound.obeys;
    }

none_shaped : (db : Trees) (t : ℕ) → db t ≡ [] → IsShapedAt db t
none_shaped db t none = record { up = subst IsTable (sym none) tt; ints = subst (λ (rows : List Row). AllByRecursion (λ r. IsTrue (is_int (rowid r))) rows) (sym none) tt }

-- a tree of schema 1 that is left alone keeps its shape, through the tables that are added and the copies that go
stays : (was mid new : Trees) (t : ℕ) → t ≢ 9 → IsNoIndex (schema_of second) t → Spares second 9 mid new → mid t ≡ was t → IsShapedAt was t → IsShapedAt new t
stays was mid new t other spared others same shaped = at_tree was new t (others t other spared ∙ same) shaped

-- a new one that is left alone has no row still
stays_new : (mid new : Trees) (t : ℕ) → t ≢ 9 → IsNoIndex (schema_of second) t → Spares second 9 mid new → mid t ≡ [] → IsShapedAt new t
stays_new mid new t other spared others none = none_shaped new t (others t other spared ∙ none)

whole_behind : (was mid new : State) → IsWhole first_layout was → Adds TakenOver was mid → AreOut mid new → IsWhole second new
whole_behind was mid new whole adds out =
    let l = asked TakenOver in
    let a = was.now.trees in
    let b = mid.now.trees in
    let c = new.now.trees in
    let others = out.removes.others in
    let kept = adds.kept in
    let empty = adds.empty in
    record {
      schema = out.schema;
      inside = out.inside;
      meta = stays a b c 0 (omega arith) (meta_spared second l) others kept.0 whole.meta;
      session = stays a b c 2 (omega arith) (session_spared second l) others kept.1.0 whole.session;
      will = stays a b c 4 (omega arith) (will_spared second l) others kept.1.1.0 whole.will;
      sub = stays a b c 5 (omega arith) (sub_spared second l) others kept.1.1.1.0 whole.sub;
      inbound = stays a b c 7 (omega arith) (inbound_spared second l) others kept.1.1.1.1.0 whole.inbound;
      behind = (
        shaped_left b c 9 all out.removes.rows (at_tree a b 9 kept.1.1.1.1.1.0 whole.behind.0),
        (
          stays a b c 11 (omega arith) l.tables.1.0 others kept.1.1.1.1.1.1.0 whole.behind.1.0,
          (
            stays_new b c 13 (omega arith) l.tables.1.1.0 others empty.0,
            (
              stays_new b c 14 (omega arith) l.tables.1.1.1.0 others empty.1.0,
              (stays_new b c 16 (omega arith) l.tables.1.1.1.1.0 others empty.1.1.0, tt),
            ),
          ),
        ),
      );
      obeys = out.obeys;
    }

-- the DELETE of all copies takes them out, and leaves the tables of schema 2 whole
pub empties_copies : (was old new : State) (r : Result ℕ Error) → IsWhole first_layout was → Adds TakenOver was old → ExecutesInside 0 copies_text [] old new r
    → OnOk r (RemovesFrom second 9 all old.now.trees new.now.trees) × OnOk r (IsWhole second new)
empties_copies was old new (Err e) whole adds h = (tt, tt)
empties_copies was old new (Ok count) whole adds h =
    let shaped = at_tree was.now.trees old.now.trees 9 adds.kept.1.1.1.1.1.0 whole.behind.0 in
    let out = copies_out old new count adds.schema shaped h in
    (out.removes, whole_behind was old new whole adds out)

-- ---- retained messages

-- the DELETE of all retained messages takes them out, and leaves the transaction whole
pub empties_retained : (old new : State) (r : Result ℕ Error) → IsWhole second old → ExecutesInside 0 retained_text [] old new r
    → OnOk r (RemovesFrom second 11 all old.now.trees new.now.trees) × OnOk r (IsWhole second new)
empties_retained old new r whole h =
    deletes second (asked TakenOver) retained_text 6 retained [] [] retained_means.0 retained_means.1 refl retained_childless all (λ row. refl) old new r whole whole.behind.1.0 h

-- and the trees list schema 2
pub lists_second : (old new : State) (r : Result ℕ Error) → IsWhole second old → ExecutesInside 0 retained_text [] old new r → OnOk r (Lists (new.now.trees catalog_tree) (schema_of second))
lists_second old new (Err e) whole h = tt
lists_second old new (Ok count) whole h =
    let w = runs_as retained_text [] old new (schema_of second) whole.schema (Delete 6 (program (over 11 [] numbers))) retained_means.0 retained_means.1 count h.0 in
    subst (Lists (new.now.trees catalog_tree)) (empties_retained old new (Ok count) whole h).1.schema w.sound.lists

-- nothing is left
pub none_left : (rows : List Row) → filter (λ row. not (all row)) rows ≡ []
none_left [] = refl
none_left (row ∷ rows) = none_left rows
