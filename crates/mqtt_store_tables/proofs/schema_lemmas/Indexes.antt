-- What CREATE INDEX makes of a database.
use Rattle.std.proofs.Common.{◌≡◌, ℕ, List, [], Ok, Err, Result, OnOk, Some, None, slice_get, sym, ap, subst, ◌∙◌, IsTrue}
use Rattle.sqlite_schema.specs.declared.schema.Schema.{Schema}
use Rattle.sqlite_schema.specs.declared.schema.Table.{Table}
use Rattle.sqlite_schema.specs.declared.schema.Index.{Index}
use Rattle.sqlite_resolve.specs.Compile.{index_defined_by}
use Rattle.sqlite_catalog.specs.Change.{indexed, KeepsRows}
use Rattle.sqlite.specs.Command.TheVariants.{CreateIndex}
use Rattle.sqlite.specs.Does.{Tally, Does}
use Rattle.sqlite.specs.Effect.{Database}
use Rattle.sqlite.specs.declared.error.Error.{Error}
use Rattle.sqlite.specs.Listing.{understood}
use Rattle.sqlite.specs.State.{State, mode_of, ExecutesInside}
use Rattle.sqlite.proofs.Callers.{IsPlain, command_of, statement_of, runs_as}
use Rattle.mqtt_store_tables.proofs.forms_lemmas.Creates.{went, same_value}

-- the text makes this index of the table in that place, if the one schema stands, and so the other
pub record MakesIndex (before : Schema) (text : List ℕ) (at : ℕ) (table : Table) (index : Index) (after : Schema) : Type 0 where
  pub command : command_of (understood before text) ≡ CreateIndex at
  pub statement : statement_of text (understood before text) ≡ text
  pub at_is : slice_get before.tables at ≡ Some table
  pub index_is : index_defined_by table text ≡ Ok index
  pub plain : IsPlain (understood before text)
  pub indexed_is : indexed before table index ≡ after

-- the schema is that, and the rows that stood stand
pub record HasIndexed (before after : Schema) (old new : State) : Type 0 where
  pub schema : new.now.schema ≡ after
  pub inside : IsTrue new.in_transaction
  pub others : KeepsRows before.tables old.now.trees new.now.trees

-- a text that makes an index has made it, and the rows of all tables stay
pub indexes : (before : Schema) (text : List ℕ) (at : ℕ) (table : Table) (index : Index) (after : Schema) → MakesIndex before text at table index after → (old new : State) (r : Result ℕ Error) → old.now.schema ≡ before
    → ExecutesInside 0 text [] old new r → OnOk r (HasIndexed before after old new)
indexes before text at table index after it old new (Err e) has h = tt
indexes before text at table index after it old new (Ok count) has h =
    let w = runs_as text [] old new before has (CreateIndex at) it.command it.plain count h.0 in
    let said = subst (λ t. Does old.step_limit (mode_of old) [] (record old.now { schema = before }) t None (CreateIndex at) (Ok (w.tally, new.now))) it.statement
    (subst (λ s. Does old.step_limit (mode_of old) [] (record old.now { schema = s }) (statement_of text (understood before text)) None (CreateIndex at) (Ok (w.tally, new.now))) has w.changed) in
    let done = went (rw it.at_is at said) in
    let made = done.1 in
    let both : Ok made.index ≡ Ok index = sym made.defined ∙ it.index_is in
    let same : made.index ≡ index = cc in
    let now : new.now ≡ done.0 = ap (λ (p : Tally × Database). p.1) (same_value done.2) in
    record {
      schema = ap (λ (d : Database). d.schema) now ∙ (made.is ∙ (ap (indexed before table) same ∙ it.indexed_is));
      inside = h.1.mode;
      others = subst (λ (d : Database). KeepsRows before.tables old.now.trees d.trees) (sym now) made.rows;
    }
