-- A row of a table is its columns, each in its place.
use Rattle.std.proofs.Common.{◌≡◌, ℕ, pos, IsTrue, zero, suc, ◌+◌, ◌<◌, Bool, true, false, ◌&&◌, List, [], ◌∷◌, length, drop, nat_lt, refl, sym, ap, ◌∙◌, arith, inl, inr, true≢false}
use Rattle.std.specs.Prelude.{Option, Some}
use Rattle.std.proofs.lemmas.Bool.{cases_Bool, ltb-true, ltb-false}
use Rattle.std.proofs.lemmas.List.{get_or_past}
use Rattle.sqlite_value.specs.declared.value.Value.{Value}
use Rattle.sqlite_value.specs.declared.value.Value.TheVariants.{Null, Int, Real, Text, Blob}
use Rattle.sqlite_value.specs.Order.{Row, column}
use Rattle.sqlite_sql.specs.Ops.{is_null}
use Rattle.sqlite_trees.specs.Tree.{Trees, rowid}
use Rattle.sqlite_trees.specs.View.{is_int}
use Rattle.sqlite_schema.specs.declared.schema.Column.{Column}
use Rattle.sqlite_schema.specs.declared.schema.Schema.{Schema}
use Rattle.sqlite_schema.specs.declared.schema.Table.{Table}
use Rattle.sqlite_schema.specs.declared.schema.Constraint.TheVariants.{Datatype}
use Rattle.sqlite_schema.specs.Rules.{are_typed, has_computed, Obeys}
use Rattle.sqlite_rules.specs.Edit.{id_in}
use Rattle.sqlite_rules.specs.Lists.{Has}
use Rattle.sqlite_rules.proofs.ListLemmas.{all_has}
use Rattle.sqlite_rules.proofs.TableLemmas.{int_is}
use Rattle.sqlite_rules.proofs.RowLemmas.{untyped}
use Rattle.sqlite_rules.proofs.RuleLemmas.{keeps_at}
use Rattle.mqtt_store_tables.specs.statements.Content.{IsShapedAt}

-- ---- a row by its columns

-- so many columns from a place on
abbrev pub columns_from : ℕ → ℕ → Row → Row
columns_from zero at row = []
columns_from (suc n) at row = column row at ∷ columns_from n (at + 1) row

next_column : (v : Value) (row : Row) (at : ℕ) → column (v ∷ row) (at + 1) ≡ column row at
next_column v row at = rw Rattle.std.proofs.Common.add-one refl

shifted : (n at : ℕ) (v : Value) (row : Row) → columns_from n (at + 1) (v ∷ row) ≡ columns_from n at row
shifted zero at v row = refl
shifted (suc n) at v row = rw (next_column v row at, shifted n (at + 1) v row) refl

all_columns : (row : Row) → columns_from (length row) 0 row ≡ row
all_columns [] = refl
all_columns (v ∷ row) = ap (λ (vs : Row). v ∷ vs) (shifted (length row) 0 v row ∙ all_columns row)

-- a row of so many columns is these columns, in order
pub by_columns : (n : ℕ) (row : Row) → length row ≡ n → row ≡ columns_from n 0 row
by_columns n row long = sym (sym (ap (λ (m : ℕ). columns_from m 0 row) long) ∙ all_columns row)

-- ---- how many columns a row has

both : (a b : Bool) → (a && b) ≡ true → (a ≡ true) × (b ≡ true)
both true b h = (refl, h)
both false b h = absurd cc

-- a row of a table passes the types of its columns
pub typed_row : (schema : Schema) (db : Trees) (t : Table) (row : Row) → Obeys schema db → Has schema.tables t → Has (db t.tree) row → are_typed t.key 0 t.columns (drop 1 row) ≡ true
typed_row schema db t row obeys listed there =
    (both (are_typed t.key 0 t.columns (drop 1 row)) (has_computed t row) (keeps_at Datatype schema db t row (obeys.rules Datatype) listed there)).0

-- one that has something in the last of them has all of them, and no more
pub as_long : (key : Option ℕ) (cs : List Column) (row : Row) → are_typed key 0 cs (drop 1 row) ≡ true → (column row (length cs) ≡ Null → ⊥) → length row ≡ length cs + 1
as_long key cs [] typed last = absurd (last refl)
as_long key cs (v ∷ vs) typed last = elim (cases_Bool (nat_lt (length cs) (length vs))) [
  | inl more ↦ absurd (true≢false (sym typed ∙ untyped key 0 cs vs (ltb-true (length cs) (length vs) more)))
  | inr few ↦ elim (cases_Bool (nat_lt (length vs) (length cs))) [
    | inl less ↦ let short = ltb-true (length vs) (length cs) less in absurd (last (get_or_past (v ∷ vs) (length cs) Null (omega (arith, short))))
    | inr not_less ↦ let low = ltb-false (length cs) (length vs) few in let high = ltb-false (length vs) (length cs) not_less in omega (arith, low, high)
  ]
]

-- what is told null is NULL
pub null_is : (v : Value) → is_null v ≡ true → v ≡ Null
null_is Null h = refl
null_is (Int n) h = absurd cc
null_is (Real x) h = absurd cc
null_is (Text t) h = absurd cc
null_is (Blob b) h = absurd cc

-- the column for which the number of the row stands
pub key_null : (cs : List Column) (row : Row) → are_typed (Some 0) 0 cs (drop 1 row) ≡ true → column row 1 ≡ Null
key_null cs [] typed = refl
key_null cs (v ∷ []) typed = refl
key_null [] (v ∷ w ∷ vs) typed = absurd cc
key_null (c ∷ cs) (v ∷ w ∷ vs) typed = null_is w (both (is_null w) (are_typed (Some 0) 1 cs vs) typed).0

-- ---- a row that shows a line

-- a column that holds what is something holds something
pub something : (v w : Value) → v ≡ w → (w ≡ Null → ⊥) → v ≡ Null → ⊥
something v w is some none = some (sym is ∙ none)

-- a number is something
pub int_there : (n : ℕ) → Int (pos n) ≡ Null → ⊥
int_there n e = absurd cc

-- a blob is something
pub blob_there : (b : List ℕ) → Blob b ≡ Null → ⊥
blob_there b e = absurd cc

-- a row of a table whose rows rise by their numbers has such a number
pub int_of : (db : Trees) (tree : ℕ) (row : Row) → IsShapedAt db tree → Has (db tree) row → IsTrue (is_int (rowid row))
int_of db tree row shaped h = all_has _ (db tree) row shaped.ints h

-- in a table that numbers its rows itself, a row is its line behind its number
pub numbered_is : (row shows line : Row) → row ≡ rowid row ∷ shows → shows ≡ line → IsTrue (is_int (rowid row)) → row ≡ Int (id_in (rowid row)) ∷ line
numbered_is row shows line whole is int = whole ∙ (ap (λ (v : Value). v ∷ shows) (int_is (rowid row) int) ∙ ap (λ (l : Row). Int (id_in (rowid row)) ∷ l) is)

-- NULL stands in the column of the key
abbrev pub keyed : Row → Row
keyed l = column l 0 ∷ Null ∷ drop 1 l

-- in a table whose key is the number, a row is its line, so keyed
pub keyed_is : (row shows line : Row) → row ≡ column shows 0 ∷ column row 1 ∷ drop 1 shows → column row 1 ≡ Null → shows ≡ line → row ≡ keyed line
keyed_is row shows line whole none is = whole ∙ (ap (λ (v : Value). column shows 0 ∷ v ∷ drop 1 shows) none ∙ ap keyed is)
