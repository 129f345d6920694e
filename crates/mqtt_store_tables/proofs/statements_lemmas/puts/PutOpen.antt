-- INSERT OR REPLACE INTO inbound, from its text on.
use Rattle.std.proofs.Common.{◌≡◌, ℕ, ℤ, pos, false, List, [], ◌∷◌, codes, None, Result, OnOk, refl, ap}
use Rattle.sqlite_value.specs.declared.value.Value.{Value}
use Rattle.sqlite_value.specs.declared.value.Value.TheVariants.{Null, Int}
use Rattle.sqlite_value.specs.declared.keys.Collation.TheVariants.{Binary}
use Rattle.sqlite_value.specs.Keys.{first_key, joined}
use Rattle.sqlite_value.specs.Order.{Row, column}
use Rattle.sqlite_trees.specs.Tree.{rowid}
use Rattle.sqlite_schema.specs.Names.{same_name}
use Rattle.sqlite_schema.specs.Rules.{equal}
use Rattle.sqlite_schema.specs.declared.schema.Keys.TheVariants.{Enforced}
use Rattle.sqlite_schema.specs.declared.schema.Kind.TheVariants.{Integer}
use Rattle.sqlite_schema.specs.declared.command.Conflict.TheVariants.{Replace}
use Rattle.sqlite.specs.Source.TheVariants.{Values}
use Rattle.sqlite_rules.specs.Keys.{conflicts}
use Rattle.sqlite_rules.specs.Cast.{cast, cast_row}
use Rattle.sqlite_rules.specs.Edit.{with_rowid, next_rowid}
use Rattle.sqlite_rules.specs.Action.{works}
use Rattle.sqlite_rules.specs.declared.error.Rowids.TheVariants.{Chosen}
use Rattle.sqlite.specs.Command.TheVariants.{InsertOr}
use Rattle.sqlite.specs.Term.{Term, lit, col}
use Rattle.sqlite.specs.declared.error.Error.{Error}
use Rattle.sqlite.specs.Listing.{understood}
use Rattle.sqlite.specs.State.{State, ExecutesInside}
use Rattle.sqlite_tied.specs.Compute.{everything}
use Rattle.sqlite.proofs.Callers.{IsPlain, command_of}
use Rattle.mqtt_store_tables.specs.forms.Tables.{inbound}
use Rattle.mqtt_store_tables.specs.statements.Layout.{Layout, IsLayout, schema_of}
use Rattle.mqtt_store_tables.specs.statements.Content.{IsWhole}
use Rattle.mqtt_store_tables.specs.statements.Removal.{is_keyed}
use Rattle.mqtt_store_tables.specs.statements.Put.{PutsInto, numbered, open_row}
use Rattle.mqtt_store_tables.proofs.statements_lemmas.tables.Numbers.{cast_int, cast_null}
use Rattle.mqtt_store_tables.proofs.statements_lemmas.tables.Fresh.{apart, and_true, or_false}
use Rattle.mqtt_store_tables.proofs.statements_lemmas.puts.Replace.{replaces}

abbrev pub put_open_text : List ℕ
put_open_text = codes "INSERT OR REPLACE INTO inbound VALUES (?1, ?2)"

abbrev terms : List Term
terms = lit Null ∷ col 0 0 ∷ col 0 1 ∷ []

put_is : (l : Layout) → command_of (understood (schema_of l) put_open_text) ≡ InsertOr 4 Replace (Values terms 3) []
unfolding understood everything
put_is l = refl

put_plain : (l : Layout) → IsPlain (understood (schema_of l) put_open_text)
unfolding understood everything
put_plain l = (refl, refl)

no_works : (l : Layout) → IsLayout l → (olds : List Row) (new : Row) → works (schema_of l) Enforced 0 7 olds (new ∷ []) ≡ []
unfolding same_name joined
no_works l asked olds new = asked.childless.1.1.1.0.put 0 olds new

no_works_out : (l : Layout) → IsLayout l → (olds : List Row) → works (schema_of l) Enforced 0 7 olds [] ≡ []
unfolding same_name joined
no_works_out l asked olds = asked.childless.1.1.1.0.out 0 olds

cast_put : (birth identifier : ℕ) (v : Value) → cast Integer v ≡ v → cast_row inbound (v ∷ open_row birth identifier) ≡ v ∷ open_row birth identifier
cast_put birth identifier v is = rw (is, cast_int (pos birth), cast_int (pos identifier))

conflict_is : (l : Layout) → IsLayout l → (next birth n : ℤ) (r : Row) → equal Binary (rowid r) (Int next) ≡ false → conflicts None (schema_of l).indexes inbound (Int next ∷ Int birth ∷ Int n ∷ []) r ≡ is_keyed birth n r
unfolding first_key joined
conflict_is l asked next birth n r other = rw (other, and_true (equal Binary (column r 2) (Int n)), asked.keyless.1.1.1.1.0 None (Int next ∷ Int birth ∷ Int n ∷ []) r) (or_false (is_keyed birth n r))

-- the INSERT of an open identifier puts its row, with the next number, in place of that of its session and identifier
pub puts_open : (l : Layout) → IsLayout l → (birth identifier : ℕ) (old new : State) (r : Result ℕ Error) → IsWhole l old → ExecutesInside 0 put_open_text (open_row birth identifier) old new r
    → OnOk r (PutsInto l 7 (numbered 7 (open_row birth identifier) old.now.trees) (is_keyed (pos birth) (pos identifier)) old.now.trees new.now.trees) × OnOk r (IsWhole l new)
puts_open l asked birth identifier old new r whole h =
    let db = old.now.trees in
    let next = next_rowid (db 7) in
    let put = numbered 7 (open_row birth identifier) db in
    replaces l asked put_open_text 4 inbound terms 3 (open_row birth identifier) (Null ∷ open_row birth identifier) (is_keyed (pos birth) (pos identifier)) (put_is l) (put_plain l) refl refl put old new r whole whole.inbound
    (record { uncounted = refl; kept = cast_put birth identifier (Int next) (cast_int next); int = refl; childless = λ olds. no_works l asked olds put })
    (no_works_out l asked)
    (λ r h. conflict_is l asked next (pos birth) (pos identifier) r (apart db 7 r whole.inbound h))
    (λ top. ap (with_rowid Chosen (db 7)) (cast_put birth identifier Null cast_null))
    h
