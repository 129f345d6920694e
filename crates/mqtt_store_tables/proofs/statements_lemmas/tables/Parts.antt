-- What a DELETE, an UPDATE and a query over one table come to.
use Rattle.std.proofs.Common.{◌≡◌, ◌⊎◌, ℕ, ◌-◌, ◌^◌, nat_le, Bool, true, false, cond, List, [], ◌∷◌, ◌++◌, filter, map, flat_map, slice_get, unwrap_or, Option, Some, None, Ok, Err, Result, refl, sym, ap, ◌∙◌, subst, inl, inr}
use Rattle.std.specs.List.{list_all}
use Rattle.std.specs.List.Sorted.{IsPermutation}
use Rattle.std.proofs.lemmas.List.Sorted.{IsPermutation-map}
use Rattle.sqlite_value.specs.Order.{Row}
use Rattle.sqlite_trees.specs.Tree.{Trees}
use Rattle.sqlite_schema.specs.declared.schema.Table.{Table}
use Rattle.sqlite_schema.specs.declared.schema.Keys.TheVariants.{Enforced}
use Rattle.sqlite_schema.specs.declared.program.Program.{Program}
use Rattle.sqlite.specs.Command.TheVariants.{Delete, Update}
use Rattle.sqlite.specs.Term.{Term, holds, eval_all}
use Rattle.sqlite.specs.Query.{Query, IsAnswer, Output, output}
use Rattle.sqlite_sql.specs.Program.{overlay}
use Rattle.sqlite_rules.specs.declared.error.Rowids.TheVariants.{Given}
use Rattle.sqlite_rules.specs.Edit.{edit_of}
use Rattle.sqlite_rules.specs.Calls.{ids_of}
use Rattle.sqlite_rules.specs.Action.{Writes}
use Rattle.sqlite.specs.declared.run.Mode.{Mode}
use Rattle.sqlite.specs.Rows.{Written}
use Rattle.sqlite.specs.Effect.{Database, Answers}
use Rattle.sqlite.specs.Does.{Tally, Does}
use Rattle.mqtt_store_tables.proofs.statements_lemmas.tables.Commands.{over}

-- what can't have stopped has gone on
pub went : {B E R : Type 0} {b : B} {Stops : E → Type 0} → ((stop : E) × Stops stop × (Ok b ≡ Err stop)) ⊎ R → R
went (inl stopped) = absurd (let e = stopped.2 in cc)
went (inr on) = on

-- equal answers answer equal values
pub same_value : {B E : Type 0} {a b : B} → ◌≡◌ {A = Result B E} (Ok a) (Ok b) → a ≡ b
same_value e = cc

abbrev no_lists : List (List Row)
no_lists = []

-- with no lists beside them the tables are the database's
pub overlay_none : (db : Trees) (t : ℕ) → overlay db [] t ≡ db t
overlay_none db t = elim (nat_le (2 ^ 31) t) as (λ b. unwrap_or (cond b (slice_get no_lists (t - 2 ^ 31)) None) (db t) ≡ db t) [ true ↦ refl | false ↦ refl ]

abbrev pub passes : Row → List Term → Row → Bool
passes params tests r = list_all (holds (params ∷ r ∷ [])) tests

abbrev pub shows : Row → List Term → Row → Row
shows params project r = eval_all project (params ∷ r ∷ [])

shown_matches : (q : Query) (params : Row) (tests : List Term) (rows : List Row)
    → map (λ (o : Output). o.1) (map (output q) (flat_map (λ r. cond (passes params tests r) ((params ∷ r ∷ []) ∷ []) []) rows)) ≡ map (shows params q.project) (filter (passes params tests) rows)
shown_matches q params tests [] = refl
shown_matches q params tests (r ∷ rows) =
    let later = shown_matches q params tests rows in
    elim (passes params tests r) as (λ b. map (λ (o : Output). o.1) (map (output q) (cond b ((params ∷ r ∷ []) ∷ []) [] ++ flat_map (λ r. cond (passes params tests r) ((params ∷ r ∷ []) ∷ []) []) rows))
    ≡ map (shows params q.project) (cond b (r ∷ filter (passes params tests) rows) (filter (passes params tests) rows))) [
      | true ↦ ap (λ rest. shows params q.project r ∷ rest) later
      | false ↦ later
    ]

-- a query over one table shows the rows that pass, in some order
pub answers_over : (tree : ℕ) (tests project : List Term) (db : Trees) (params : Row) (rows : List Row) → IsAnswer (over tree tests project) (overlay db []) params rows
    → IsPermutation (map (shows params project) (filter (passes params tests) (db tree))) rows
answers_over tree tests project db params rows a =
    let q = over tree tests project in
    let staged : a.staged ≡ flat_map (λ r. cond (passes params tests r) ((params ∷ r ∷ []) ∷ []) []) (db tree) = a.grouped ∙ ap (flat_map (λ r. cond (passes params tests r) ((params ∷ r ∷ []) ∷ []) [])) (overlay_none db tree) in
    let shown : map (λ (o : Output). o.1) a.kept ≡ map (shows params project) (filter (passes params tests) (db tree)) =
    ap (map (λ (o : Output). o.1)) (a.distinct ∙ ap (map (output q)) staged) ∙ shown_matches q params tests (db tree) in
    let moved : IsPermutation (map (λ (o : Output). o.1) a.kept) (map (λ (o : Output). o.1) a.ordered) = IsPermutation-map (λ (o : Output). o.1) a.kept a.ordered a.same in
    rw (← shown) (subst (IsPermutation (map (λ (o : Output). o.1) a.kept)) (sym a.shown) moved)

-- what a DELETE leaves: its query is answered, and the rows of those rowids are taken out
pub record Deleted (db : Database) (table : Table) (q : Program) (params : Row) (after : Database) : Type 0 where
  pub rows : List Row
  pub answers : Answers db q params rows
  pub writes : Writes db.schema Enforced db.trees (edit_of db.trees table (ids_of rows) Given 0 []) (Ok after.trees)
  pub schema : after.schema ≡ db.schema

abbrev pub plain_mode : Mode
plain_mode = record { keys = Enforced; in_doubt = false; may_wait = false }

-- a DELETE that is done has answered its query and taken out those rows
pub deleted : (limit : Option ℕ) (params : Row) (db : Database) (text : List ℕ) (at : ℕ) (q : Program) (table : Table) (tally : Tally) (after : Database)
    → slice_get db.schema.tables at ≡ Some table → Does limit plain_mode params db text None (Delete at q) (Ok (tally, after)) → Deleted db table q params after
deleted limit params db text at q table tally after is h =
    let all = went (rw is at h) in
    let read = went all.1 in
    let wrote = went read.2 in
    let tested = went all.2 in
    let returned = went tested.2 in
    let done : (tally, after) ≡ _ = same_value returned.2 in
    let trees : all.0.trees ≡ wrote.0 = ap (λ (w : Written). w.trees) (same_value wrote.2) in
    let is_after : after ≡ record { schema = db.schema; trees = all.0.trees } = ap (λ (p : Tally × Database). p.1) done in
    record {
      rows = read.0;
      answers = read.1;
      writes = (subst (λ t. Writes db.schema Enforced db.trees (edit_of db.trees table (ids_of read.0) Given 0 []) (Ok t)) (sym (ap (λ (d : Database). d.trees) is_after ∙ trees)) wrote.1);
      schema = ap (λ (d : Database). d.schema) is_after;
    }

-- what an UPDATE leaves: its query is answered, and its rows stand in place of those of their rowids
pub record Updated (db : Database) (table : Table) (q : Program) (params : Row) (after : Database) : Type 0 where
  pub rows : List Row
  pub answers : Answers db q params rows
  pub writes : Writes db.schema Enforced db.trees (edit_of db.trees table (ids_of rows) Given 1 rows) (Ok after.trees)
  pub schema : after.schema ≡ db.schema

-- an UPDATE that is done has answered its query and put those rows in place
pub updated : (limit : Option ℕ) (params : Row) (db : Database) (text : List ℕ) (at : ℕ) (q : Program) (table : Table) (tally : Tally) (after : Database)
    → slice_get db.schema.tables at ≡ Some table → Does limit plain_mode params db text None (Update at q) (Ok (tally, after)) → Updated db table q params after
updated limit params db text at q table tally after is h =
    let all = went (rw is at h) in
    let read = went all.1 in
    let wrote = went read.2 in
    let tested = went all.2 in
    let returned = went tested.2 in
    let done : (tally, after) ≡ _ = same_value returned.2 in
    let trees : all.0.trees ≡ wrote.0 = ap (λ (w : Written). w.trees) (same_value wrote.2) in
    let is_after : after ≡ record { schema = db.schema; trees = all.0.trees } = ap (λ (p : Tally × Database). p.1) done in
    record {
      rows = read.0;
      answers = read.1;
      writes = (subst (λ t. Writes db.schema Enforced db.trees (edit_of db.trees table (ids_of read.0) Given 1 read.0) (Ok t)) (sym (ap (λ (d : Database). d.trees) is_after ∙ trees)) wrote.1);
      schema = ap (λ (d : Database). d.schema) is_after;
    }
