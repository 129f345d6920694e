-- What the INSERT of a new store's numbers makes of a database of schema 2.
use Rattle.std.proofs.Common.{◌≡◌, arith, ℕ, [], drop, Ok, Err, Result, OnOk, refl, sym, ap, subst, ◌∙◌, IsTrue}
use Rattle.sqlite_value.specs.Order.{value_cmp}
use Rattle.sqlite_value.specs.Keys.{joined}
use Rattle.sqlite_schema.specs.Names.{same_name}
use Rattle.sqlite_sql.specs.Ops.{unary}
use Rattle.sqlite.specs.declared.error.Error.{Error}
use Rattle.sqlite_catalog.specs.Listing.{Lists}
use Rattle.sqlite_trees.specs.Objects.{catalog_tree}
use Rattle.sqlite_trees.specs.Tree.{Trees}
use Rattle.sqlite.specs.Effect.{Database}
use Rattle.mqtt_store_tables.specs.forms.Creation.{AreEmpty}
use Rattle.sqlite.specs.Listing.{understood}
use Rattle.sqlite.specs.State.{State, ExecutesInside}
use Rattle.sqlite_tied.specs.Compute.{everything}
use Rattle.mqtt_store_tables.proofs.forms_lemmas.Fills.{FillsMeta, writes_numbers, stay_empty}
use Rattle.mqtt_store_tables.specs.schema.Tables.{second_schema}
use Rattle.mqtt_store_tables.specs.schema.Creation.{fill_text, IsBare, IsNewSecond}
use Rattle.mqtt_store_tables.specs.declared.schema.tables.Making.TheVariants.{New}

fills_meta : FillsMeta (second_schema New) 2 fill_text
unfolding understood unary value_cmp lib.Ieee.is_nan lib.Ieee.lt same_name joined everything
fills_meta = record { command = refl; plain = (refl, refl); numbered_are = refl; unworked = λ olds. refl }

-- the text that fills meta leaves a new store of schema 2, inside the transaction
pub fills : (old new : State) (r : Result ℕ Error) → IsBare old → ExecutesInside 0 fill_text [] old new r → OnOk r (IsNewSecond new.now × IsTrue new.in_transaction)
fills old new (Err e) has h = tt
fills old new (Ok count) has h =
    let it = writes_numbers _ _ 2 fill_text fills_meta old new (Ok count) has.schema has.empty.0 h in (
      record {
        schema = it.schema_is;
        lists = it.sound.lists;
        meta_rows = it.numbers;
        empty = stay_empty (drop 1 (second_schema New).tables) old.now.trees new.now.trees it.others.1 (omega arith, (omega arith, (omega arith, (omega arith, (omega arith, (omega arith, (omega arith, tt))))))) has.empty.1;
      },
      it.inside,
    )

-- trees of a database that is a new store are those of one
pub new_trees : (d : Database) (db : Trees) → db ≡ d.trees → IsNewSecond d → IsNewSecond (record { schema = second_schema New; trees = db })
new_trees d db is h = record {
  schema = refl;
  lists = subst (Lists (db catalog_tree)) h.schema (subst (λ (t : Trees). Lists (t catalog_tree) d.schema) (sym is) h.lists);
  meta_rows = ap (λ (t : Trees). t 0) is ∙ h.meta_rows;
  empty = subst (AreEmpty (drop 1 (second_schema New).tables)) (sym is) h.empty;
}
