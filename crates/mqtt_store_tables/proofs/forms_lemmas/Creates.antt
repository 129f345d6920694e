-- What CREATE TABLE makes of a database.
use Rattle.std.proofs.Common.{◌≡◌, ◌⊎◌, ℕ, ◌+◌, List, [], ◌∷◌, ◌++◌, false, Ok, Err, Result, OnOk, None, inl, inr, refl, sym, ap, subst, ◌∙◌, IsTrue}
use Rattle.sqlite_schema.specs.declared.schema.Schema.{Schema}
use Rattle.sqlite_schema.specs.declared.schema.Table.{Table}
use Rattle.sqlite_trees.specs.Tree.{Trees}
use Rattle.sqlite_catalog.specs.Change.{created, next_tree, KeepsRows}
use Rattle.sqlite.specs.Command.TheVariants.{CreateTable}
use Rattle.sqlite.specs.Compile.{table_defined_by}
use Rattle.sqlite.specs.Does.{Tally, lacks_sequence}
use Rattle.sqlite.specs.Effect.{Database}
use Rattle.sqlite.specs.declared.error.Error.{Error}
use Rattle.sqlite.specs.Listing.{understood}
use Rattle.sqlite.specs.State.{State, Writes, ExecutesInside}
use Rattle.sqlite_tied.specs.Compute.{everything}
use Rattle.sqlite.proofs.Callers.{IsPlain, command_of, statement_of, runs_as}
use Rattle.mqtt_store_tables.specs.declared.forms.schema.StoreTable.{StoreTable}
use Rattle.mqtt_store_tables.specs.declared.forms.schema.StoreTable.TheVariants.{Meta, Session, Will, Subscription, Inbound, Copy, Retained}
use Rattle.mqtt_store_tables.specs.forms.Tables.{meta, session, will, sub, inbound, copy, retained}
use Rattle.mqtt_store_tables.specs.forms.Creation.{create_text, place_of, first, AreEmpty, HasTables}

-- the table that is made by that name
abbrev table_called : StoreTable → Table
table_called Meta = meta
table_called Session = session
table_called Will = will
table_called Subscription = sub
table_called Inbound = inbound
table_called Copy = copy
table_called Retained = retained

-- the text makes this table, if those of the one schema stand, and so those of the other
pub record Makes (before : Schema) (text : List ℕ) (table : Table) (after : Schema) : Type 0 where
  pub command : command_of (understood before text) ≡ CreateTable
  pub statement : statement_of text (understood before text) ≡ text
  pub table_is : table_defined_by text ≡ Ok table
  pub plain : IsPlain (understood before text)
  pub created_is : created before table ≡ after
  pub uncounted : lacks_sequence after ≡ false

-- what can't have stopped has gone on
pub went : {B E R : Type 0} {b : B} {Stops : E → Type 0} → ((stop : E) × Stops stop × (Ok b ≡ Err stop)) ⊎ R → R
went (inl stopped) = absurd (let e = stopped.2 in cc)
went (inr on) = on

-- equal answers answer equal values
pub same_value : {B E : Type 0} {a b : B} → ◌≡◌ {A = Result B E} (Ok a) (Ok b) → a ≡ b
same_value e = cc

-- tables whose rows stayed are as empty as before
pub still_empty : (tables : List Table) (old new : Trees) → KeepsRows tables old new → AreEmpty tables old → AreEmpty tables new
still_empty [] old new kept empty = empty
still_empty (t ∷ tables) old new kept empty = (kept.0 ∙ empty.0, still_empty tables old new kept.1 empty.1)

-- empty tables and an empty one behind them are all empty
pub one_more : (tables : List Table) (table : Table) (db : Trees) → AreEmpty tables db → db table.tree ≡ [] → AreEmpty (tables ++ table ∷ []) db
one_more [] table db empty last = (last, tt)
one_more (t ∷ tables) table db empty last = (empty.0, one_more tables table db empty.1 last)

-- the schema is that, the new table has no row, and the rows that stood stand
pub record HasMade (before after : Schema) (old new : State) : Type 0 where
  pub schema : new.now.schema ≡ after
  pub inside : IsTrue new.in_transaction
  pub empty : new.now.trees (next_tree before) ≡ []
  pub others : KeepsRows before.tables old.now.trees new.now.trees

-- a text that makes a table has made it, empty, and the rows of the others stay
pub makes : (before : Schema) (text : List ℕ) (table : Table) (after : Schema) → Makes before text table after → (old new : State) (r : Result ℕ Error) → old.now.schema ≡ before → ExecutesInside 0 text [] old new r
    → OnOk r (HasMade before after old new)
makes before text table after it old new (Err e) has h = tt
makes before text table after it old new (Ok count) has h =
    let w = subst (λ text. Writes old new None CreateTable text [] count) it.statement (runs_as text [] old new before has CreateTable it.command it.plain count h.0) in
    let all = went w.changed in
    let done = went all.1 in
    let made = done.1 in
    let both : Ok made.table ≡ Ok table = sym made.defined ∙ it.table_is in
    let same : made.table ≡ table = cc in
    let schema : done.0.schema ≡ after = made.is ∙ (ap (λ s. created s made.table) has ∙ (ap (created before) same ∙ it.created_is)) in
    let plain : lacks_sequence done.0.schema ≡ false = ap lacks_sequence schema ∙ it.uncounted in
    let now : new.now ≡ done.0 = ap (λ (p : Tally × Database). p.1) (same_value all.2) ∙ same_value (rw plain at done.2) in
    record {
      schema = ap (λ (d : Database). d.schema) now ∙ schema;
      inside = h.1.mode;
      empty = ap (λ (d : Database). d.trees (next_tree before)) now ∙ subst (λ s. done.0.trees (next_tree s) ≡ []) has made.empty;
      others = subst (λ (d : Database). KeepsRows before.tables old.now.trees d.trees) (sym now) (subst (λ (s : Schema). KeepsRows s.tables old.now.trees done.0.trees) has made.others);
    }

abbrev MakesNext : StoreTable → Type 0
MakesNext t = Makes (first (place_of t)) (create_text t) (record (table_called t) { tree = 0 }) (first (place_of t + 1))

makes_next : (t : StoreTable) → MakesNext t
unfolding understood everything
makes_next Meta = record { command = refl; statement = refl; table_is = refl; plain = (refl, refl); created_is = refl; uncounted = refl }
makes_next Session = record { command = refl; statement = refl; table_is = refl; plain = (refl, refl); created_is = refl; uncounted = refl }
makes_next Will = record { command = refl; statement = refl; table_is = refl; plain = (refl, refl); created_is = refl; uncounted = refl }
makes_next Subscription = record { command = refl; statement = refl; table_is = refl; plain = (refl, refl); created_is = refl; uncounted = refl }
makes_next Inbound = record { command = refl; statement = refl; table_is = refl; plain = (refl, refl); created_is = refl; uncounted = refl }
makes_next Copy = record { command = refl; statement = refl; table_is = refl; plain = (refl, refl); created_is = refl; uncounted = refl }
makes_next Retained = record { command = refl; statement = refl; table_is = refl; plain = (refl, refl); created_is = refl; uncounted = refl }

-- each CREATE TABLE puts its table behind those that are there, all of them empty
pub creates : (t : StoreTable) (old new : State) (r : Result ℕ Error) → HasTables (place_of t) old → ExecutesInside 0 (create_text t) [] old new r → OnOk r (HasTables (place_of t + 1) new)
creates t old new (Err e) has h = tt
creates t old new (Ok count) has h =
    let before = first (place_of t) in
    let it = makes_next t in
    let made = makes before (create_text t) _ (first (place_of t + 1)) it old new (Ok count) has.schema h in
    let others : AreEmpty before.tables new.now.trees = still_empty before.tables old.now.trees new.now.trees made.others has.empty in
    let empty : AreEmpty (created before (record (table_called t) { tree = 0 })).tables new.now.trees = one_more before.tables (record (table_called t) { tree = next_tree before }) new.now.trees others made.empty in
    record {
      schema = made.schema;
      inside = made.inside;
      empty = subst (λ (s : Schema). AreEmpty s.tables new.now.trees) it.created_is empty;
    }
