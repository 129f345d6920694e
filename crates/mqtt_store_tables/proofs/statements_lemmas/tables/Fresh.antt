-- The number that a table gives a row is no other row's.
use Rattle.std.proofs.Common.{◌≡◌, ℕ, pos, cond, Bool, true, false, ◌&&◌, ◌||◌, [], refl, sym, ◌∙◌, true≢false}
use Rattle.std.specs.Ordering.{is_eq}
use Rattle.std.proofs.lemmas.Bool.{false_from_ne_true}
use Rattle.sqlite_value.specs.declared.value.Value.TheVariants.{Int}
use Rattle.sqlite_value.specs.declared.keys.Collation.TheVariants.{Binary}
use Rattle.sqlite_value.specs.Order.{Row, value_cmp}
use Rattle.sqlite_trees.specs.Tree.{Trees, rowid}
use Rattle.sqlite_schema.specs.Rules.{equal}
use Rattle.sqlite_rules.specs.Lists.{Has}
use Rattle.sqlite_rules.specs.Edit.{next_rowid}
use Rattle.sqlite_rules.specs.declared.error.Rowids.TheVariants.{Chosen}
use Rattle.sqlite_rules.proofs.ListLemmas.{all_has, some_from}
use Rattle.sqlite_rules.proofs.PlaceLemmas.{next_is_free}
use Rattle.mqtt_store_tables.specs.statements.Content.{IsShapedAt}
use Rattle.mqtt_store_tables.specs.statements.Columns.{flag}
use Rattle.mqtt_store_tables.proofs.statements_lemmas.deletes.RemoveSession.{equal_ids}

-- the number that a table gives is no row's of it
pub apart : (db : Trees) (tree : ℕ) (r : Row) → IsShapedAt db tree → Has (db tree) r → equal Binary (rowid r) (Int (next_rowid (db tree))) ≡ false
apart db tree r shaped h =
    let next = next_rowid (db tree) in
    let free : is_eq (value_cmp (rowid r) (Int next)) ≡ false = false_from_ne_true _ (λ t. true≢false (sym (some_from (λ y. is_eq (value_cmp (rowid y) (Int next))) (db tree) r h t) ∙ next_is_free Chosen (db tree) [] shaped.up shaped.ints)) in
    equal_ids (rowid r) next (all_has _ (db tree) r shaped.ints h) ∙ free

-- and true changes nothing
pub and_true : (b : Bool) → (b && true) ≡ b
and_true true = refl
and_true false = refl

-- or false changes nothing
pub or_false : (b : Bool) → (b || false) ≡ b
or_false true = refl
or_false false = refl

-- a bool as it is bound
pub flag_is : (b : Bool) → Int (cond b (pos 1) (pos 0)) ≡ flag b
flag_is true = refl
flag_is false = refl
