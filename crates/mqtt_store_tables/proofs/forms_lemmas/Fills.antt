-- What the INSERT of a new store's numbers makes of a database.
use Rattle.std.proofs.Common.{◌≡◌, ◌≢◌, ℕ, pos, List, [], ◌∷◌, map, drop, codes, Ok, Err, Result, OnOk, None, refl, sym, ap, subst, ◌∙◌, IsTrue}
use Rattle.std.specs.List.{AllByRecursion}
use Rattle.sqlite_schema.specs.declared.schema.Schema.{Schema}
use Rattle.sqlite_schema.specs.declared.schema.Table.{Table}
use Rattle.sqlite_schema.specs.declared.schema.Index.{Index}
use Rattle.sqlite_value.specs.declared.value.Value.TheVariants.{Null, Int, Text}
use Rattle.sqlite_value.specs.Order.{Row, value_cmp}
use Rattle.sqlite_schema.specs.declared.schema.Keys.TheVariants.{Enforced}
use Rattle.sqlite_trees.specs.Tree.{Trees}
use Rattle.sqlite_rules.specs.declared.error.Rowids.TheVariants.{Chosen}
use Rattle.sqlite_rules.specs.Edit.{Edit, edit_of, numbered, put_all, taken_by}
use Rattle.sqlite_rules.specs.Cast.{cast_row}
use Rattle.sqlite_rules.specs.Action.{works, Writes as WritesEdit}
use Rattle.sqlite.specs.Source.TheVariants.{Values}
use Rattle.sqlite.specs.Command.{Command}
use Rattle.sqlite.specs.Command.TheVariants.{Insert}
use Rattle.sqlite.specs.Term.{Term, lit}
use Rattle.sqlite.specs.Does.{Tally, Does}
use Rattle.sqlite.specs.Effect.{Database, IsDatabase}
use Rattle.sqlite.specs.Rows.{Written}
use Rattle.sqlite.specs.declared.error.Error.{Error}
use Rattle.sqlite.specs.Listing.{understood}
use Rattle.sqlite.specs.State.{State, mode_of, ExecutesInside}
use Rattle.sqlite_tied.specs.Compute.{everything}
use Rattle.sqlite.proofs.Callers.{IsPlain, command_of, statement_of, runs_as, one_step}
use Rattle.mqtt_store_tables.specs.forms.Tables.{meta}
use Rattle.mqtt_store_tables.specs.forms.Creation.{AreEmpty, numbers_of}
use Rattle.mqtt_store_tables.proofs.forms_lemmas.Creates.{went, same_value}

abbrev row_terms : List ℕ → ℕ → List Term → List Term
row_terms name n more = lit Null ∷ lit (Text name) ∷ lit (Int (pos n)) ∷ more

abbrev terms : ℕ → List Term
terms n = row_terms (codes "schema") n (row_terms (codes "births") 0 (row_terms (codes "publications") 0 (row_terms (codes "subscribes") 0 (row_terms (codes "autos") 0 (row_terms (codes "moment") 0 [])))))

-- the INSERT of the numbers of a store of schema n
abbrev pub fill_command : ℕ → Command
fill_command n = Insert 0 (Values (terms n) 3)

-- the rows that the statement gives, before they have numbers
abbrev source : List ℕ → ℕ → Row
source name n = Null ∷ Text name ∷ Int (pos n) ∷ []

abbrev sources : ℕ → List Row
sources n = source (codes "schema") n ∷ source (codes "births") 0 ∷ source (codes "publications") 0 ∷ source (codes "subscribes") 0 ∷ source (codes "autos") 0 ∷ source (codes "moment") 0 ∷ []

abbrev fill_edit : ℕ → Edit
fill_edit n = record { table = meta; gone = []; news = numbers_of n }

abbrev AreNumbered : ℕ → Type 0
AreNumbered n = numbered Chosen [] (map (λ s. cast_row meta (drop 0 s)) (sources n)) ≡ numbers_of n

edit_is : (n : ℕ) → AreNumbered n → (db : Trees) → db 0 ≡ [] → edit_of db meta [] Chosen 0 (sources n) ≡ fill_edit n
edit_is n are db none = ap (λ (news : List Row). record { table = meta; gone = []; news = news }) (ap (λ rows. numbered Chosen rows (map (λ s. cast_row meta (drop 0 s)) (sources n))) none ∙ are)

put_into_none : (n : ℕ) → put_all [] (numbers_of n) ≡ numbers_of n
unfolding value_cmp lib.Ieee.is_nan lib.Ieee.lt everything
put_into_none n = refl

-- meta in front of those tables
abbrev pub with_meta : List Table → List Index → Schema
with_meta others indexes = record { tables = meta ∷ others; indexes = indexes; views = [] }

-- in that schema the text writes the numbers of schema n
pub record FillsMeta (schema : Schema) (n : ℕ) (text : List ℕ) : Type 0 where
  pub command : command_of (understood schema text) ≡ fill_command n
  pub plain : IsPlain (understood schema text)
  pub numbered_are : AreNumbered n
  -- no table refers to meta
  pub unworked : (olds : List Row) → works schema Enforced 0 0 olds (numbers_of n) ≡ []

-- the rows of meta are these, and all others as they were; the trees list that schema
pub record HasNumbers (schema : Schema) (n : ℕ) (old new : State) : Type 0 where
  pub schema_is : new.now.schema ≡ schema
  pub sound : IsDatabase new.now
  pub inside : IsTrue new.in_transaction
  pub numbers : new.now.trees 0 ≡ numbers_of n
  pub others : AllByRecursion (λ t. t.tree ≢ 0 → new.now.trees t.tree ≡ old.now.trees t.tree) schema.tables

-- a text that fills meta has written the numbers, and the rows of the other tables stay
pub writes_numbers : (others : List Table) (indexes : List Index) (n : ℕ) (text : List ℕ) → FillsMeta (with_meta others indexes) n text → (old new : State) (r : Result ℕ Error) → old.now.schema ≡ with_meta others indexes → old.now.trees 0 ≡ []
    → ExecutesInside 0 text [] old new r → OnOk r (HasNumbers (with_meta others indexes) n old new)
writes_numbers others indexes n text it old new (Err e) has none h = tt
writes_numbers others indexes n text it old new (Ok count) has none h =
    let schema = with_meta others indexes in
    let db = old.now.trees in
    let w = runs_as text [] old new schema has (fill_command n) it.command it.plain count h.0 in
    let said = statement_of text (understood schema text) in
    let done = went (subst (λ s. Does old.step_limit (mode_of old) [] (record old.now { schema = s }) said None (fill_command n) (Ok (w.tally, new.now))) has w.changed) in
    let now = ap (λ (p : Tally × Database). p.1) (same_value (went (went done.2).2).2) in
    let given = went done.1 in
    let written = went (went given.2).2 in
    let counted = went written.2 in
    let trees : done.0.trees ≡ written.0 = ap (λ (it : Written). it.trees) (same_value counted.2) ∙ same_value counted.1 in
    let wrote = subst (λ e. WritesEdit schema Enforced db e (Ok written.0)) (edit_is n it.numbered_are db none) (subst (λ (rows : List Row). WritesEdit schema Enforced db (edit_of db meta [] Chosen 0 rows) (Ok written.0)) given.1.1 written.1) in
    let step = one_step schema Enforced db written.0 (fill_edit n) (it.unworked (taken_by db (fill_edit n))) wrote in
    let is : new.now.trees ≡ written.0 = ap (λ (d : Database). d.trees) now ∙ trees in
    record {
      schema_is = ap (λ (d : Database). d.schema) now;
      sound = w.sound;
      inside = h.1.mode;
      numbers = ap (λ (x : Trees). x 0) is ∙ (step.rows ∙ (ap (λ rows. put_all rows (numbers_of n)) none ∙ put_into_none n));
      others = subst (λ (x : Trees). AllByRecursion (λ t. t.tree ≢ 0 → x t.tree ≡ db t.tree) schema.tables) (sym is) step.tables;
    }

-- tables of which none is meta stay empty
pub stay_empty : (tables : List Table) (old new : Trees) → AllByRecursion (λ t. t.tree ≢ 0 → new t.tree ≡ old t.tree) tables → AllByRecursion (λ t. t.tree ≢ 0) tables → AreEmpty tables old → AreEmpty tables new
stay_empty [] old new same apart empty = empty
stay_empty (t ∷ tables) old new same apart empty = (same.0 apart.0 ∙ empty.0, stay_empty tables old new same.1 apart.1 empty.1)
