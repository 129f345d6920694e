-- The DELETE of a session: its text, its row, and the key that the row loses.
use Rattle.std.proofs.Common.{◌≡◌, ℕ, ℤ, Bool, true, false, ◌&&◌, List, [], ◌∷◌, refl, sym, ap, ◌∙◌, codes, Equal}
use Rattle.std.specs.Ordering.{is_eq}
use Rattle.std.proofs.lemmas.Cmp.{tied_itself, alike_right}
use Rattle.sqlite_value.specs.declared.value.Value.{Value}
use Rattle.sqlite_value.specs.declared.value.Value.TheVariants.{Int}
use Rattle.sqlite_value.specs.Keys.{plain, first_key}
use Rattle.sqlite_value.specs.Order.{Row, value_cmp}
use Rattle.sqlite_value.proofs.OrderLemmas.{value_cmp_total}
use Rattle.sqlite_trees.specs.Tree.{rowid}
use Rattle.sqlite_trees.specs.View.{is_int}
use Rattle.sqlite_sql.specs.Ops.{binary}
use Rattle.sqlite_schema.specs.Rules.{equal}
use Rattle.sqlite_rules.specs.Action.{loses}
use Rattle.mqtt_store_tables.specs.forms.Tables.{session}
use Rattle.mqtt_store_tables.specs.statements.Content.{is_of}
use Rattle.mqtt_store_tables.proofs.statements_lemmas.tables.Rows.{equal_is}
use Rattle.mqtt_store_tables.proofs.statements_lemmas.deletes.RemoveSession.{equal_ids}

-- and true changes nothing
pub and_true : (b : Bool) → (b && true) ≡ b
and_true true = refl
and_true false = refl

-- its row, whose number is the session's
pub tied_ids : (a b : Value) (n : ℤ) → is_int a ≡ true → is_int b ≡ true → equal Rattle.sqlite_value.specs.declared.keys.Collation.TheVariants.Binary a (Int n) ≡ true
    → equal Rattle.sqlite_value.specs.declared.keys.Collation.TheVariants.Binary b (Int n) ≡ true → value_cmp a b ≡ Equal
tied_ids a b n ia ib ea eb =
    let p = equal_is (value_cmp a (Int n)) (sym (equal_ids a n ia) ∙ ea) in
    let q = equal_is (value_cmp b (Int n)) (sym (equal_ids b n ib) ∙ eb) in
    alike_right value_cmp_total b (Int n) a q ∙ p

abbrev pub remove_session_text : List ℕ
remove_session_text = codes "DELETE FROM session WHERE birth = ?1"

-- a session's row is found by its birth
pub is_own : (one : Row) (birth : ℤ) → rowid one ≡ Int birth → is_of 0 birth one ≡ true
is_own one birth is = rw is (equal_ids (Int birth) birth refl ∙ ap is_eq (tied_itself value_cmp_total (Int birth)))

-- a session's row that goes loses its key
pub lost : (one : Row) (birth : ℤ) → rowid one ≡ Int birth → loses plain (0 ∷ []) (one, []) ≡ true
unfolding first_key binary
lost one birth is = rw is (rw (ap is_eq (tied_itself value_cmp_total (Int birth))))
