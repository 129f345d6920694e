-- INSERT OR REPLACE INTO sub, from its text on.
use Rattle.std.proofs.Common.{◌≡◌, ℕ, ℤ, pos, Bool, true, false, ◌&&◌, ◌||◌, List, [], ◌∷◌, codes, None, Ok, Err, Result, OnOk, refl, sym, ap, ◌∙◌}
use Rattle.sqlite_value.specs.declared.value.Value.{Value}
use Rattle.sqlite_value.specs.declared.value.Value.TheVariants.{Null, Int}
use Rattle.sqlite_value.specs.declared.keys.Collation.TheVariants.{Binary}
use Rattle.sqlite_value.specs.Keys.{first_key, joined}
use Rattle.sqlite_value.specs.Order.{Row}
use Rattle.sqlite_trees.specs.Tree.{rowid}
use Rattle.sqlite_schema.specs.Names.{same_name}
use Rattle.sqlite_schema.specs.Rules.{equal}
use Rattle.sqlite_schema.specs.declared.schema.Keys.TheVariants.{Enforced}
use Rattle.sqlite_schema.specs.declared.schema.Kind.TheVariants.{Integer}
use Rattle.sqlite_schema.specs.declared.command.Conflict.TheVariants.{Replace}
use Rattle.sqlite.specs.Source.TheVariants.{Values}
use Rattle.sqlite_rules.specs.Keys.{conflicts}
use Rattle.sqlite_rules.specs.Cast.{cast, cast_row}
use Rattle.sqlite_rules.specs.Edit.{with_rowid, next_rowid}
use Rattle.sqlite_rules.specs.Action.{works}
use Rattle.sqlite_rules.specs.declared.error.Rowids.TheVariants.{Chosen}
use Rattle.sqlite.specs.Command.TheVariants.{InsertOr}
use Rattle.sqlite.specs.Term.{Term, lit, col}
use Rattle.sqlite.specs.declared.error.Error.{Error}
use Rattle.sqlite.specs.Listing.{understood}
use Rattle.sqlite.specs.State.{State, ExecutesInside}
use Rattle.sqlite_tied.specs.Compute.{everything}
use Rattle.sqlite.proofs.Callers.{IsPlain, command_of}
use Rattle.mqtt_store_tables.specs.forms.Tables.{sub}
use Rattle.mqtt_store_tables.specs.statements.Layout.{Layout, IsLayout, schema_of}
use Rattle.mqtt_store_tables.specs.statements.Content.{is_text, IsWhole}
use Rattle.mqtt_store_tables.specs.statements.Removal.{is_subscription}
use Rattle.mqtt_store_tables.specs.statements.Columns.{subscription_row}
use Rattle.mqtt_store_tables.specs.declared.statements.subscriptions.SubscriptionColumns.{SubscriptionColumns}
use Rattle.mqtt_store_tables.specs.statements.Put.{PutsInto, numbered}
use Rattle.mqtt_store_tables.proofs.statements_lemmas.tables.Numbers.{cast_int, cast_null}
use Rattle.mqtt_store_tables.proofs.statements_lemmas.tables.Fresh.{apart, and_true, or_false}
use Rattle.mqtt_store_tables.proofs.statements_lemmas.puts.Replace.{replaces}

abbrev pub put_text : List ℕ
put_text = codes "INSERT OR REPLACE INTO sub VALUES (?1, ?2, ?3, ?4, ?5, ?6, ?7, ?8)"

abbrev terms : List Term
terms = lit Null ∷ col 0 0 ∷ col 0 1 ∷ col 0 2 ∷ col 0 3 ∷ col 0 4 ∷ col 0 5 ∷ col 0 6 ∷ col 0 7 ∷ []

put_is : (l : Layout) → command_of (understood (schema_of l) put_text) ≡ InsertOr 3 Replace (Values terms 9) []
unfolding understood everything
put_is l = refl

put_plain : (l : Layout) → IsPlain (understood (schema_of l) put_text)
unfolding understood everything
put_plain l = (refl, refl)

no_works : (l : Layout) → IsLayout l → (olds : List Row) (new : Row) → works (schema_of l) Enforced 0 5 olds (new ∷ []) ≡ []
unfolding same_name joined
no_works l asked olds new = asked.childless.1.1.0.put 0 olds new

no_works_out : (l : Layout) → IsLayout l → (olds : List Row) → works (schema_of l) Enforced 0 5 olds [] ≡ []
unfolding same_name joined
no_works_out l asked olds = asked.childless.1.1.0.out 0 olds

cast_put : (birth : ℕ) (text : List ℕ) (m : SubscriptionColumns) (v : Value) → cast Integer v ≡ v → cast_row sub (v ∷ subscription_row birth text m) ≡ v ∷ subscription_row birth text m
cast_put birth text m v is = rw (is, cast_int (pos birth), cast_int (pos m.place), cast_int (pos m.qos), cast_int (pos (Rattle.std.proofs.Common.cond m.no_local 1 0)), cast_int (pos (Rattle.std.proofs.Common.cond m.retain_as_published 1 0)), cast_int (pos m.handling), cast_int (pos m.identifier))

conflict_is : (l : Layout) → IsLayout l → (next : ℤ) (birth : ℕ) (text : List ℕ) (m : SubscriptionColumns) (r : Row) → equal Binary (rowid r) (Int next) ≡ false → conflicts None (schema_of l).indexes sub (Int next ∷ subscription_row birth text m) r ≡ is_subscription (pos birth) text r
unfolding first_key joined
conflict_is l asked next birth text m r other = rw (other, and_true (is_text 2 text r), asked.keyless.1.1.1.0 None (Int next ∷ subscription_row birth text m) r) (or_false (is_subscription (pos birth) text r))

-- the INSERT of a subscription puts its row, with the next number, in place of that of its session and filter
pub puts : (l : Layout) → IsLayout l → (birth : ℕ) (text : List ℕ) (m : SubscriptionColumns) (old new : State) (r : Result ℕ Error) → IsWhole l old → ExecutesInside 0 put_text (subscription_row birth text m) old new r
    → OnOk r (PutsInto l 5 (numbered 5 (subscription_row birth text m) old.now.trees) (is_subscription (pos birth) text) old.now.trees new.now.trees) × OnOk r (IsWhole l new)
puts l asked birth text m old new r whole h =
    let db = old.now.trees in
    let next = next_rowid (db 5) in
    let row = subscription_row birth text m in
    let put = numbered 5 row db in
    replaces l asked put_text 3 sub terms 9 row (Null ∷ row) (is_subscription (pos birth) text) (put_is l) (put_plain l) refl refl put old new r whole whole.sub
    (record { uncounted = refl; kept = cast_put birth text m (Int next) (cast_int next); int = refl; childless = λ olds. no_works l asked olds put })
    (no_works_out l asked)
    (λ r h. conflict_is l asked next birth text m r (apart db 5 r whole.sub h))
    (λ top. ap (with_rowid Chosen (db 5)) (cast_put birth text m Null cast_null))
    h
