-- Rows that rise in each table are in the order that each schema's laws ask for.
use Rattle.std.proofs.Common.{◌≡◌, ℕ, [], refl, sym, subst, ◌∙◌}
use Rattle.std.specs.List.{AllByRecursion}
use Rattle.sqlite_schema.specs.declared.schema.Schema.{Schema}
use Rattle.sqlite_trees.specs.Tree.{Trees}
use Rattle.sqlite.specs.Effect.{Database}
use Rattle.sqlite.specs.State.{State}
use Rattle.mqtt_store_tables.specs.forms.Tables.{keep_schema}
use Rattle.mqtt_store_tables.specs.schema.Tables.{second_schema}
use Rattle.mqtt_store_tables.specs.declared.schema.tables.Making.{Making}
use Rattle.mqtt_store_tables.specs.declared.schema.tables.Making.TheVariants.{New, TakenOver}
use Rattle.mqtt_store_tables.specs.statements.Content.{IsShapedAt}
use Rattle.mqtt_store_tables.specs.statements.Layout.{second_layout, schema_of}
use Rattle.mqtt_store_database.specs.taking_over.Written.{AreInOrder}
use Rattle.mqtt_store_database.specs.row_laws.Written.{AreInOrderTwo, HasNoOldRows}
use Rattle.mqtt_store_database.specs.committing.Settled.{IsSettled}
use Rattle.mqtt_store_database.specs.loading.Keeping.{AreOrdered}

-- the rows of each of these tables rise by their numbers
abbrev pub AllShaped : Schema → Trees → Type 0
AllShaped schema db = AllByRecursion (λ t. IsShapedAt db t.tree) schema.tables

-- in a database of that schema
pub shaped_in : (schema : Schema) (db : Database) → db.schema ≡ schema → AreOrdered db → AllShaped schema db.trees
shaped_in schema db is order = subst (λ s. AllShaped s db.trees) is order

-- and such rows are in order in a database of that schema
pub ordered_in : (schema : Schema) (db : Database) → schema ≡ db.schema → AllShaped schema db.trees → AreOrdered db
ordered_in schema db is order = subst (λ s. AllShaped s db.trees) is order

-- so are those of schema 1, as its laws say it
pub first_order : (db : Trees) → AllShaped keep_schema db → AreInOrder db
first_order db h = record {
  shaped = record { session = h.1.0; will = h.1.1.0; sub = h.1.1.1.0; inbound = h.1.1.1.1.0; copy = h.1.1.1.1.1.0 };
  meta = h.0;
  retained = h.1.1.1.1.1.1.0;
}

-- and those of schema 2
pub second_order : (making : Making) (db : Trees) → AllShaped (second_schema making) db → AreInOrderTwo making db
second_order New db h = record {
  meta = h.0;
  session = h.1.0;
  will = h.1.1.0;
  sub = h.1.1.1.0;
  inbound = h.1.1.1.1.0;
  message = h.1.1.1.1.1.0;
  queued = h.1.1.1.1.1.1.0;
  kept = h.1.1.1.1.1.1.1.0;
}
second_order TakenOver db h = record {
  meta = h.0;
  session = h.1.0;
  will = h.1.1.0;
  sub = h.1.1.1.0;
  inbound = h.1.1.1.1.0;
  message = h.1.1.1.1.1.1.1.0;
  queued = h.1.1.1.1.1.1.1.1.0;
  kept = h.1.1.1.1.1.1.1.1.1.0;
}

-- what stands behind the five tables that both schemas have
pub behind : (making : Making) (db : Trees) → AllShaped (second_schema making) db → AllByRecursion (λ t. IsShapedAt db t.tree) (second_layout making).tables
behind New db h = h.1.1.1.1.1
behind TakenOver db h = h.1.1.1.1.1

-- rows in the order that the laws of schema 2 ask for rise in each table, if the old ones have none
pub all_shaped : (making : Making) (db : Trees) → AreInOrderTwo making db → HasNoOldRows making db → AllShaped (second_schema making) db
all_shaped New db h old = (h.meta, (h.session, (h.will, (h.sub, (h.inbound, (h.message, (h.queued, (h.kept, tt))))))))
all_shaped TakenOver db h old =
    let none = λ (t : ℕ) (is : db t ≡ []). let shaped : IsShapedAt db t = record { up = rw is tt; ints = rw is tt } in shaped in
    (h.meta, (h.session, (h.will, (h.sub, (h.inbound, (none 9 old.0, (none 11 old.1, (h.message, (h.queued, (h.kept, tt))))))))))

-- the tables of schema 2 as laid out
pub laid_out : (making : Making) → second_schema making ≡ schema_of (second_layout making)
laid_out New = refl
laid_out TakenOver = refl

-- ---- between two steps

all_settled : (making : Making) (s : State) → IsSettled making s → AllShaped (second_schema making) s.now.trees
all_settled New s h = (h.meta, (h.session, (h.will, (h.sub, (h.inbound, h.behind)))))
all_settled TakenOver s h = (h.meta, (h.session, (h.will, (h.sub, (h.inbound, h.behind)))))

-- between two steps of schema 2 the rows of each table are in order
pub order_of : (making : Making) (s : State) → IsSettled making s → AreOrdered s.now
order_of making s h = ordered_in (second_schema making) s.now (laid_out making ∙ sym h.schema) (all_settled making s h)
