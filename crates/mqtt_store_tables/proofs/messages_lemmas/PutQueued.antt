-- INSERT OR REPLACE INTO queued, from its text on.
use Rattle.std.proofs.Common.{◌≡◌, ℕ, ℤ, pos, cond, false, List, [], ◌∷◌, codes, None, Result, OnOk, refl, ap}
use Rattle.sqlite_value.specs.declared.value.Value.{Value}
use Rattle.sqlite_value.specs.declared.value.Value.TheVariants.{Null, Int}
use Rattle.sqlite_value.specs.declared.keys.Collation.TheVariants.{Binary}
use Rattle.sqlite_value.specs.Keys.{first_key, joined}
use Rattle.sqlite_value.specs.Order.{Row}
use Rattle.sqlite_trees.specs.Tree.{rowid}
use Rattle.sqlite_schema.specs.Rules.{equal}
use Rattle.sqlite_schema.specs.declared.schema.Kind.TheVariants.{Integer}
use Rattle.sqlite_schema.specs.declared.command.Conflict.TheVariants.{Replace}
use Rattle.sqlite.specs.Source.TheVariants.{Values}
use Rattle.sqlite_rules.specs.Keys.{conflicts}
use Rattle.sqlite_rules.specs.Cast.{cast, cast_row}
use Rattle.sqlite_rules.specs.Edit.{with_rowid, next_rowid}
use Rattle.sqlite_rules.specs.declared.error.Rowids.TheVariants.{Chosen}
use Rattle.sqlite.specs.Command.TheVariants.{InsertOr}
use Rattle.sqlite.specs.Term.{Term, lit, col}
use Rattle.sqlite.specs.declared.error.Error.{Error}
use Rattle.sqlite.specs.Listing.{understood}
use Rattle.sqlite.specs.State.{State, ExecutesInside}
use Rattle.sqlite_tied.specs.Compute.{everything}
use Rattle.sqlite.proofs.Callers.{IsPlain, command_of}
use Rattle.mqtt_store_tables.specs.schema.Tables.{queued}
use Rattle.mqtt_store_tables.specs.declared.schema.tables.Making.{Making}
use Rattle.mqtt_store_tables.specs.declared.schema.tables.Making.TheVariants.{New, TakenOver}
use Rattle.mqtt_store_tables.specs.statements.Layout.{second_layout, schema_of}
use Rattle.mqtt_store_tables.specs.statements.Content.{is_of, IsWhole}
use Rattle.mqtt_store_tables.specs.statements.Removal.{is_keyed}
use Rattle.mqtt_store_tables.specs.statements.Put.{PutsInto, numbered}
use Rattle.mqtt_store_tables.proofs.statements_lemmas.tables.Numbers.{cast_int, cast_null, cast_number}
use Rattle.mqtt_store_tables.proofs.statements_lemmas.tables.Fresh.{apart, and_true, or_false}
use Rattle.mqtt_store_tables.proofs.statements_lemmas.puts.Replace.{replaces}
use Rattle.mqtt_store_tables.specs.messages.Places.{queued_tree}
use Rattle.mqtt_store_tables.specs.messages.Rows.{QueuedColumns, queued_row}
use Rattle.mqtt_store_tables.proofs.messages_lemmas.Behind.{asked, queued_at, queued_is, queued_shaped, queued_childless, queued_unworked}

abbrev pub put_text : List ℕ
put_text = codes "INSERT OR REPLACE INTO queued VALUES (?1, ?2, ?3, ?4, ?5, ?6, ?7, ?8, ?9, ?10, ?11, ?12, ?13)"

-- the row's number, which the table gives it, and the parameters
abbrev pub terms : List Term
terms = lit Null ∷ col 0 0 ∷ col 0 1 ∷ col 0 2 ∷ col 0 3 ∷ col 0 4 ∷ col 0 5 ∷ col 0 6 ∷ col 0 7 ∷ col 0 8 ∷ col 0 9 ∷ col 0 10 ∷ col 0 11 ∷ col 0 12 ∷ []

abbrev Means : Making → Type 0
Means making = (command_of (understood (schema_of (second_layout making)) put_text) ≡ InsertOr (queued_at making) Replace (Values terms 14) []) × IsPlain (understood (schema_of (second_layout making)) put_text)

means : (making : Making) → Means making
unfolding understood everything
means New = (refl, (refl, refl))
means TakenOver = (refl, (refl, refl))

-- a copy's row has the types of its columns
pub cast_put : (tree birth place : ℕ) (c : QueuedColumns) (v : Value) → cast Integer v ≡ v → cast_row (queued tree) (v ∷ queued_row birth place c) ≡ v ∷ queued_row birth place c
cast_put tree birth place c v is = rw (
  is,
  cast_int (pos birth),
  cast_int (pos place),
  cast_int (pos c.publication),
  cast_int (pos c.cause),
  cast_int (pos c.cause_n),
  cast_number c.pid,
  cast_int (pos c.phase),
  cast_number c.rel,
  cast_int (pos c.qos),
  cast_int (pos (cond c.retain 1 0)),
  cast_int (pos c.arrived),
)

conflict_is : (making : Making) (next : ℤ) (birth place : ℕ) (c : QueuedColumns) (r : Row) → equal Binary (rowid r) (Int next) ≡ false
    → conflicts None (schema_of (second_layout making)).indexes (queued (queued_tree making)) (Int next ∷ queued_row birth place c) r ≡ is_keyed (pos birth) (pos place) r
unfolding first_key joined
conflict_is New next birth place c r other = rw (other, and_true (is_of 2 (pos place) r)) (or_false (is_keyed (pos birth) (pos place) r))
conflict_is TakenOver next birth place c r other = rw (other, and_true (is_of 2 (pos place) r)) (or_false (is_keyed (pos birth) (pos place) r))

-- the INSERT of a copy puts its row, with the next number, in place of that of its session and place
pub puts : (making : Making) (birth place : ℕ) (c : QueuedColumns) (old new : State) (r : Result ℕ Error) → IsWhole (second_layout making) old → ExecutesInside 0 put_text (queued_row birth place c) old new r
    → OnOk r (PutsInto (second_layout making) (queued_tree making) (numbered (queued_tree making) (queued_row birth place c) old.now.trees) (is_keyed (pos birth) (pos place)) old.now.trees new.now.trees)
    × OnOk r (IsWhole (second_layout making) new)
puts making birth place c old new r whole h =
    let l = second_layout making in
    let db = old.now.trees in
    let tree = queued_tree making in
    let next = next_rowid (db tree) in
    let row = queued_row birth place c in
    let put = numbered tree row db in
    let shaped = queued_shaped making old whole in
    replaces l (asked making) put_text (queued_at making) (queued tree) terms 14 row (Null ∷ row) (is_keyed (pos birth) (pos place)) (means making).0 (means making).1 (queued_is making) refl put old new r whole shaped
    (record { uncounted = refl; kept = cast_put tree birth place c (Int next) (cast_int next); int = refl; childless = λ olds. queued_unworked making olds put })
    (queued_childless making)
    (λ r h. conflict_is making next birth place c r (apart db tree r shaped h))
    (λ top. ap (with_rowid Chosen (db tree)) (cast_put tree birth place c Null cast_null))
    h
