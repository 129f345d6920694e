-- Which rows a session that goes takes along.
use Rattle.std.proofs.Common.{◌≡◌, ℕ, ℤ, Bool, true, false, ◌&&◌, ◌||◌, List, [], ◌∷◌, filter, Some, refl, sym, ap, ◌∙◌, inl, inr}
use Rattle.std.specs.List.{list_any}
use Rattle.std.specs.Ordering.{is_eq}
use Rattle.sqlite_value.specs.declared.value.Value.{Value}
use Rattle.sqlite_value.specs.declared.value.Value.TheVariants.{Null, Int, Real, Text, Blob}
use Rattle.sqlite_value.specs.declared.keys.Collation.TheVariants.{Binary}
use Rattle.sqlite_value.specs.Keys.{plain, first_key}
use Rattle.sqlite_value.specs.Order.{Row, column, value_cmp}
use Rattle.sqlite_trees.specs.Tree.{IsTable, rowid}
use Rattle.sqlite_trees.specs.View.{is_int}
use Rattle.sqlite_sql.specs.Ops.{is_true, from_truth, binary}
use Rattle.sqlite_schema.specs.Rules.{equal}
use Rattle.sqlite_schema.specs.declared.schema.Table.{Table}
use Rattle.sqlite_rules.specs.Lists.{Has}
use Rattle.sqlite_rules.specs.Action.{is_child_of, loses}
use Rattle.mqtt_store_tables.specs.statements.Content.{is_of}
use Rattle.sqlite_value.proofs.OrderLemmas.{value_cmp_total}
use Rattle.sqlite_trees.proofs.ListLemmas.{filter_none}
use Rattle.sqlite_rules.proofs.ListLemmas.{all_has, all_from}
use Rattle.mqtt_store_tables.proofs.statements_lemmas.deletes.Cascade.{work}

truth_of : (b : Bool) → is_true (from_truth (Some b)) ≡ b
truth_of true = refl
truth_of false = refl

-- SQL's = of a whole number and another is the order's
pub equal_ids : (v : Value) (n : ℤ) → is_int v ≡ true → equal Binary v (Int n) ≡ is_eq (value_cmp v (Int n))
unfolding binary
equal_ids Null n h = absurd (cc)
equal_ids (Int m) n h = truth_of (is_eq (value_cmp (Int m) (Int n)))
equal_ids (Real x) n h = absurd (cc)
equal_ids (Text t) n h = absurd (cc)
equal_ids (Blob b) n h = absurd (cc)

tidy : (l x : Bool) → l ≡ true → ((l && (x && true)) || false) ≡ x
tidy true true h = refl
tidy true false h = refl
tidy false x h = absurd (cc)

-- the children of a session that goes are those that name it
pub children_are : (child : Table) (at : ℕ) (parent : Row) (birth : ℤ) (r : Row) → rowid parent ≡ Int birth → loses plain (0 ∷ []) (parent, []) ≡ true
    → list_any (is_child_of (work child at parent) r) (work child at parent).moves ≡ is_of at birth r
unfolding first_key
children_are child at parent birth r is lost = tidy (loses plain (0 ∷ []) (parent, [])) (equal Binary (column r at) (rowid parent)) lost ∙ ap (equal Binary (column r at)) is

-- the only row with a rowid
pub only_row : (rows : List Row) (p : Row → Bool) (one : Row) → IsTable rows → Has rows one → p one ≡ true → ((r : Row) → Has rows r → p r ≡ true → value_cmp (rowid r) (rowid one) ≡ Rattle.std.proofs.Common.Equal) → filter p rows ≡ one ∷ []
only_row [] p one up has here tie = absurd has
only_row (x ∷ rows) p one up (inl same) here tie =
    let none : filter p rows ≡ [] = filter_none p rows (all_from (λ r. p r ≡ false) rows (λ r h. Rattle.std.proofs.lemmas.Bool.false_from_ne_true (p r) (λ passes.
    let lower = all_has _ rows r up.0 h in
    let tied = tie r (inr h) passes in
    let back = value_cmp_total.antisymm (rowid x) (rowid r) in
    let here : value_cmp (rowid r) (rowid x) ≡ Rattle.std.proofs.Common.Equal = rw (← same) tied in cc))) in
    let first : p x ≡ true = rw (← same) here in
    rw (first, none) (ap (λ r. r ∷ []) (sym same))
only_row (x ∷ rows) p one up (inr later) here tie =
    let lower = all_has _ rows one up.0 later in
    let not_first : p x ≡ false = Rattle.std.proofs.lemmas.Bool.false_from_ne_true (p x) (λ passes. let tied = tie x (inl refl) passes in cc) in
    rw not_first (only_row rows p one up.1 later here (λ r h. tie r (inr h)))
