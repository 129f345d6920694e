-- The rows rise by their numbers after each statement.
use Rattle.std.proofs.Common.{◌≡◌, ℕ, ℤ, pos, Bool, not, ◌&&◌, List, [], ◌∷◌, filter, refl, sym, subst, inl, inr, IsTrue}
use Rattle.std.specs.List.{list_any}
use Rattle.std.proofs.lemmas.Bool.{cases_Bool}
use Rattle.sqlite_value.specs.declared.value.Value.TheVariants.{Int}
use Rattle.sqlite_value.specs.Order.{Row}
use Rattle.sqlite_trees.specs.Tree.{Trees, rowid, put_row}
use Rattle.sqlite_trees.specs.View.{is_int}
use Rattle.sqlite_trees.specs.declared.store.Shape.TheVariants.{Table as TableShape}
use Rattle.sqlite_trees.proofs.TreeLemmas.{IsShaped-filter, IsShaped-put_row}
use Rattle.sqlite_rules.specs.Edit.{IsNoIndex}
use Rattle.mqtt_store_tables.specs.declared.schema.tables.Making.{Making}
use Rattle.mqtt_store_tables.specs.statements.Layout.{second_layout, schema_of}
use Rattle.mqtt_store_tables.specs.statements.Content.{IsShapedAt, is_of}
use Rattle.mqtt_store_tables.specs.statements.Put.{PutsInto}
use Rattle.mqtt_store_tables.specs.statements.Removal.{RemovesFrom}
use Rattle.mqtt_store_tables.proofs.statements_lemmas.deletes.Removal.{shaped_left}
use Rattle.mqtt_store_tables.proofs.statements_lemmas.tables.Spared.{meta_spared, session_spared, will_spared, sub_spared, inbound_spared}
use Rattle.mqtt_store_tables.proofs.statements_lemmas.tables.Whole.{Spares, at_tree, kept_shape}
use Rattle.mqtt_store_tables.specs.messages.Places.{message_tree}
use Rattle.mqtt_store_tables.specs.messages.Rows.{message_row}
use Rattle.mqtt_store_tables.specs.messages.Messages.{is_referred}
use Rattle.mqtt_store_tables.specs.messages.Letting.{is_let_go}
use Rattle.mqtt_store_tables.proofs.messages_lemmas.Behind.{asked}
use Rattle.mqtt_records.specs.state.Contents.{StoredMessage}
use Rattle.mqtt_store_database.specs.row_laws.Items.{message_columns}
use Rattle.mqtt_store_database.specs.row_laws.Written.{AreInOrderTwo}
use Rattle.mqtt_store_database.specs.row_laws.Steps.{SweepsEach, PutsMessageOf, DropsLast}
use Rattle.mqtt_store_database.proofs.row_laws_lemmas.tables.Places.{message_spared, queued_spared, kept_spared}

module _ (making : Making) where
  -- a statement leaves all tables in order if it leaves its own so
  pub in_order : (tree : ℕ) (old new : Trees) → Spares (second_layout making) tree old new → IsShapedAt new tree → AreInOrderTwo making old → AreInOrderTwo making new
  in_order tree old new others own h =
      let l = second_layout making in
      let fits = asked making in
      let at = λ (t : ℕ) (spared : IsNoIndex (schema_of l) t) (was : IsShapedAt old t). kept_shape l tree t old new others own spared was in
      record {
        meta = at 0 (meta_spared l fits) h.meta;
        session = at 2 (session_spared l fits) h.session;
        will = at 4 (will_spared l fits) h.will;
        sub = at 5 (sub_spared l fits) h.sub;
        inbound = at 7 (inbound_spared l fits) h.inbound;
        message = at _ (message_spared making) h.message;
        queued = at _ (queued_spared making) h.queued;
        kept = at _ (kept_spared making) h.kept;
      }

  -- a row that is put leaves its table in order
  pub shaped_put : (tree : ℕ) (id : ℤ) (put : Row) (gone : Row → Bool) (old new : Trees) → rowid put ≡ Int id → PutsInto (second_layout making) tree put gone old new → IsShapedAt old tree → IsShapedAt new tree
  shaped_put tree id put gone old new is h shaped =
      let rest = IsShaped-filter TableShape (λ r. not (gone r)) (old tree) (shaped.up, shaped.ints) in
      let int : IsTrue (is_int (rowid put)) = rw is refl in
      let both = IsShaped-put_row put (filter (λ r. not (gone r)) (old tree)) int rest in
      record { up = rw h.rows both.0; ints = rw h.rows both.1 }

  -- a row that is put leaves all tables in order
  pub order_put : (tree : ℕ) (id : ℤ) (put : Row) (gone : Row → Bool) (old new : Trees) → rowid put ≡ Int id → PutsInto (second_layout making) tree put gone old new → IsShapedAt old tree
      → AreInOrderTwo making old → AreInOrderTwo making new
  order_put tree id put gone old new is h shaped all = in_order tree old new h.others (shaped_put tree id put gone old new is h shaped) all

  -- rows that are removed leave all tables in order
  pub order_removed : (tree : ℕ) (gone : Row → Bool) (old new : Trees) → RemovesFrom (second_layout making) tree gone old new → IsShapedAt old tree → AreInOrderTwo making old → AreInOrderTwo making new
  order_removed tree gone old new h shaped all = in_order tree old new h.others (shaped_left old new tree gone h.rows shaped) all

  -- a message that is said leaves its table in order
  shaped_said : (m : StoredMessage) (old new : Trees) → PutsMessageOf making m old new → IsShapedAt old (message_tree making) → IsShapedAt new (message_tree making)
  shaped_said m old new h shaped = elim (cases_Bool (list_any (is_of 0 (pos m.publication)) (old (message_tree making)))) [
    | inl stands ↦ let same : new (message_tree making) ≡ old (message_tree making) = rw stands at h.rows in at_tree old new (message_tree making) same shaped
    | inr missed ↦
        let put = message_row m.publication (message_columns m) in
        let same : new (message_tree making) ≡ put_row put (old (message_tree making)) = rw missed at h.rows in
        let both = IsShaped-put_row put (old (message_tree making)) refl (shaped.up, shaped.ints) in
        record { up = rw same both.0; ints = rw same both.1 }
  ]

  -- and all tables
  pub order_said : (m : StoredMessage) (old new : Trees) → PutsMessageOf making m old new → AreInOrderTwo making old → AreInOrderTwo making new
  order_said m old new h all = in_order (message_tree making) old new h.others (shaped_said m old new h all.message) all

  -- sweeps leave all tables in order
  pub order_swept : (numbers : List ℕ) (old new : Trees) → SweepsEach making numbers old new → AreInOrderTwo making old → AreInOrderTwo making new
  order_swept [] old new same all = subst (AreInOrderTwo making) (sym same) all
  order_swept (n ∷ more) old new sweeps all =
      let gone = λ (r : Row). is_of 0 (pos n) r && not (is_referred making (pos n) old) in
      order_swept more sweeps.0 new sweeps.2 (order_removed (message_tree making) gone old sweeps.0 sweeps.1 all.message all)

  -- so do messages that go to which nothing refers now
  pub order_dropped : (old mid new : Trees) → DropsLast making old mid new → AreInOrderTwo making mid → AreInOrderTwo making new
  order_dropped old mid new drops all = order_removed (message_tree making) (is_let_go making old mid) mid new drops all.message all
