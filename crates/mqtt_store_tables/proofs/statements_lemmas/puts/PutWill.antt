-- INSERT OR REPLACE INTO will, from its text on.
use Rattle.std.proofs.Common.{◌≡◌, ℕ, ℤ, pos, Bool, true, false, ◌&&◌, ◌||◌, List, [], ◌∷◌, codes, None, Ok, Err, Result, OnOk, refl, sym, ap, ◌∙◌}
use Rattle.sqlite_value.specs.declared.value.Value.TheVariants.{Null, Int, Text, Blob}
use Rattle.sqlite_value.specs.Keys.{first_key, joined}
use Rattle.sqlite_value.specs.Order.{Row}
use Rattle.sqlite_schema.specs.Names.{same_name}
use Rattle.sqlite_schema.specs.declared.schema.Keys.TheVariants.{Enforced}
use Rattle.sqlite_schema.specs.declared.command.Conflict.TheVariants.{Replace}
use Rattle.sqlite.specs.Source.TheVariants.{Values}
use Rattle.sqlite_rules.specs.Keys.{conflicts}
use Rattle.sqlite_rules.specs.Cast.{cast_row}
use Rattle.sqlite_rules.specs.Edit.{with_rowid}
use Rattle.sqlite_rules.specs.Action.{works}
use Rattle.sqlite_rules.specs.declared.error.Rowids.TheVariants.{Chosen}
use Rattle.sqlite.specs.Command.TheVariants.{InsertOr}
use Rattle.sqlite.specs.Term.{Term, lit, col}
use Rattle.sqlite.specs.declared.error.Error.{Error}
use Rattle.sqlite.specs.Listing.{understood}
use Rattle.sqlite.specs.State.{State, ExecutesInside}
use Rattle.sqlite_tied.specs.Compute.{everything}
use Rattle.sqlite.proofs.Callers.{IsPlain, command_of}
use Rattle.mqtt_store_tables.specs.forms.Tables.{will}
use Rattle.mqtt_store_tables.specs.statements.Layout.{Layout, IsLayout, schema_of}
use Rattle.mqtt_store_tables.specs.statements.Content.{is_of, IsWhole}
use Rattle.mqtt_store_tables.specs.statements.Columns.{flag, WillColumns, will_row}
use Rattle.mqtt_store_tables.specs.statements.Put.{PutsInto}
use Rattle.mqtt_store_tables.proofs.statements_lemmas.tables.Numbers.{cast_int, cast_null}
use Rattle.mqtt_store_tables.proofs.statements_lemmas.tables.Fresh.{and_true, or_false}
use Rattle.mqtt_store_tables.proofs.statements_lemmas.puts.Replace.{replaces}

abbrev pub put_text : List ℕ
put_text = codes "INSERT OR REPLACE INTO will VALUES (?1, ?2, ?3, ?4, ?5, ?6, ?7)"

abbrev terms : List Term
terms = col 0 0 ∷ lit Null ∷ col 0 1 ∷ col 0 2 ∷ col 0 3 ∷ col 0 4 ∷ col 0 5 ∷ col 0 6 ∷ []

put_is : (l : Layout) → command_of (understood (schema_of l) put_text) ≡ InsertOr 2 Replace (Values terms 8) []
unfolding understood everything
put_is l = refl

put_plain : (l : Layout) → IsPlain (understood (schema_of l) put_text)
unfolding understood everything
put_plain l = (refl, refl)

no_works : (l : Layout) → IsLayout l → (olds : List Row) (new : Row) → works (schema_of l) Enforced 0 4 olds (new ∷ []) ≡ []
unfolding same_name joined
no_works l asked olds new = asked.childless.1.0.put 0 olds new

no_works_out : (l : Layout) → IsLayout l → (olds : List Row) → works (schema_of l) Enforced 0 4 olds [] ≡ []
unfolding same_name joined
no_works_out l asked olds = asked.childless.1.0.out 0 olds

cast_put : (birth : ℕ) (m : WillColumns) → cast_row will (will_row birth m) ≡ will_row birth m
cast_put birth m = rw (cast_int (pos birth), cast_null, cast_int (pos m.delay), cast_int (pos m.qos), cast_int (pos (Rattle.std.proofs.Common.cond m.retain 1 0)))

conflict_is : (l : Layout) → IsLayout l → (birth : ℕ) (m : WillColumns) (r : Row) → conflicts None (schema_of l).indexes will (will_row birth m) r ≡ is_of 0 (pos birth) r
unfolding first_key joined
conflict_is l asked birth m r = rw (asked.keyless.1.1.0 None (will_row birth m) r) (or_false _ ∙ and_true (is_of 0 (pos birth) r))

-- the INSERT of a Will puts its row in place of that of its session
pub puts : (l : Layout) → IsLayout l → (birth : ℕ) (m : WillColumns) (old new : State) (r : Result ℕ Error) → IsWhole l old → ExecutesInside 0 put_text (Int (pos birth) ∷ Int (pos m.delay) ∷ Text m.topic ∷ Int (pos m.qos) ∷ flag m.retain ∷ Blob m.props ∷ Blob m.payload ∷ []) old new r
    → OnOk r (PutsInto l 4 (will_row birth m) (is_of 0 (pos birth)) old.now.trees new.now.trees) × OnOk r (IsWhole l new)
puts l asked birth m old new r whole h =
    let db = old.now.trees in
    let put = will_row birth m in
    replaces l asked put_text 2 will terms 8 (Int (pos birth) ∷ Int (pos m.delay) ∷ Text m.topic ∷ Int (pos m.qos) ∷ flag m.retain ∷ Blob m.props ∷ Blob m.payload ∷ []) put (is_of 0 (pos birth)) (put_is l) (put_plain l) refl refl put old new r whole whole.will
    (record { uncounted = refl; kept = cast_put birth m; int = refl; childless = λ olds. no_works l asked olds put })
    (no_works_out l asked)
    (λ r h. conflict_is l asked birth m r)
    (λ top. ap (with_rowid Chosen (db 4)) (cast_put birth m))
    h
