-- INSERT OR REPLACE INTO kept, from its text on.
use Rattle.std.proofs.Common.{◌≡◌, ℕ, pos, List, [], ◌∷◌, codes, None, Result, OnOk, refl, ap}
use Rattle.sqlite_value.specs.declared.value.Value.TheVariants.{Null, Int, Text}
use Rattle.sqlite_value.specs.Keys.{first_key, joined}
use Rattle.sqlite_value.specs.Order.{Row}
use Rattle.sqlite_schema.specs.declared.command.Conflict.TheVariants.{Replace}
use Rattle.sqlite.specs.Source.TheVariants.{Values}
use Rattle.sqlite_rules.specs.Keys.{conflicts}
use Rattle.sqlite_rules.specs.Cast.{cast_row}
use Rattle.sqlite_rules.specs.Edit.{with_rowid}
use Rattle.sqlite_rules.specs.declared.error.Rowids.TheVariants.{Chosen}
use Rattle.sqlite.specs.Command.TheVariants.{InsertOr}
use Rattle.sqlite.specs.Term.{Term, lit, col}
use Rattle.sqlite.specs.declared.error.Error.{Error}
use Rattle.sqlite.specs.Listing.{understood}
use Rattle.sqlite.specs.State.{State, ExecutesInside}
use Rattle.sqlite_tied.specs.Compute.{everything}
use Rattle.sqlite.proofs.Callers.{IsPlain, command_of}
use Rattle.mqtt_store_tables.specs.schema.Tables.{kept}
use Rattle.mqtt_store_tables.specs.declared.schema.tables.Making.{Making}
use Rattle.mqtt_store_tables.specs.declared.schema.tables.Making.TheVariants.{New, TakenOver}
use Rattle.mqtt_store_tables.specs.statements.Layout.{second_layout, schema_of}
use Rattle.mqtt_store_tables.specs.statements.Content.{is_of, is_text, IsWhole}
use Rattle.mqtt_store_tables.specs.statements.Put.{PutsInto, is_retained}
use Rattle.mqtt_store_tables.proofs.statements_lemmas.tables.Numbers.{cast_int, cast_null}
use Rattle.mqtt_store_tables.proofs.statements_lemmas.tables.Fresh.{and_true, or_false}
use Rattle.mqtt_store_tables.proofs.statements_lemmas.puts.Replace.{replaces}
use Rattle.mqtt_store_tables.specs.messages.Places.{kept_tree}
use Rattle.mqtt_store_tables.specs.messages.Rows.{KeptColumns, kept_row}
use Rattle.mqtt_store_tables.proofs.messages_lemmas.Behind.{asked, kept_at, kept_is, kept_shaped, kept_childless, kept_unworked}

abbrev pub put_text : List ℕ
put_text = codes "INSERT OR REPLACE INTO kept VALUES (?1, ?2, ?3, ?4, ?5, ?6)"

abbrev terms : List Term
terms = col 0 0 ∷ lit Null ∷ col 0 1 ∷ col 0 2 ∷ col 0 3 ∷ col 0 4 ∷ col 0 5 ∷ []

abbrev Means : Making → Type 0
Means making = (command_of (understood (schema_of (second_layout making)) put_text) ≡ InsertOr (kept_at making) Replace (Values terms 7) []) × IsPlain (understood (schema_of (second_layout making)) put_text)

means : (making : Making) → Means making
unfolding understood everything
means New = (refl, (refl, refl))
means TakenOver = (refl, (refl, refl))

cast_put : (tree place : ℕ) (m : KeptColumns) → cast_row (kept tree) (kept_row place m) ≡ kept_row place m
cast_put tree place m = rw (cast_int (pos place), cast_null, cast_int (pos m.publication), cast_int (pos m.qos), cast_int (pos m.arrived))

conflict_is : (making : Making) (place : ℕ) (m : KeptColumns) (r : Row) → conflicts None (schema_of (second_layout making)).indexes (kept (kept_tree making)) (kept_row place m) r ≡ is_retained place m.topic r
unfolding first_key joined
conflict_is New place m r = rw (and_true (is_of 0 (pos place) r), and_true (is_text 2 m.topic r), or_false (is_text 2 m.topic r))
conflict_is TakenOver place m r = rw (and_true (is_of 0 (pos place) r), and_true (is_text 2 m.topic r), or_false (is_text 2 m.topic r))

-- the INSERT of a retained message puts its row in place of those of its place and of its topic
pub puts : (making : Making) (place : ℕ) (m : KeptColumns) (old new : State) (r : Result ℕ Error) → IsWhole (second_layout making) old
    → ExecutesInside 0 put_text (Int (pos place) ∷ Text m.topic ∷ Text m.sender ∷ Int (pos m.publication) ∷ Int (pos m.qos) ∷ Int (pos m.arrived) ∷ []) old new r
    → OnOk r (PutsInto (second_layout making) (kept_tree making) (kept_row place m) (is_retained place m.topic) old.now.trees new.now.trees) × OnOk r (IsWhole (second_layout making) new)
puts making place m old new r whole h =
    let l = second_layout making in
    let db = old.now.trees in
    let tree = kept_tree making in
    let put = kept_row place m in
    replaces l (asked making) put_text (kept_at making) (kept tree) terms 7 (Int (pos place) ∷ Text m.topic ∷ Text m.sender ∷ Int (pos m.publication) ∷ Int (pos m.qos) ∷ Int (pos m.arrived) ∷ []) put (is_retained place m.topic)
    (means making).0 (means making).1 (kept_is making) refl put old new r whole (kept_shaped making old whole)
    (record { uncounted = refl; kept = cast_put tree place m; int = refl; childless = λ olds. kept_unworked making olds put })
    (kept_childless making)
    (λ r h. conflict_is making place m r)
    (λ top. ap (with_rowid Chosen (db tree)) (cast_put tree place m))
    h
