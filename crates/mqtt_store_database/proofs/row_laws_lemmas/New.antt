-- The tables of a new database of schema 2 keep nothing, and are in order.
use Rattle.std.proofs.Common.{◌≡◌, ℕ, ◌<◌, pos, int_cmp, Less, arith, bytes_eq, List, [], ◌∷◌, filter, refl, sym, ap, subst, ◌∙◌, inl, inr}
use Rattle.std.specs.List.{AllByRecursion}
use Rattle.std.specs.Prelude.{codes, IsTrue}
use Rattle.std.proofs.lemmas.Bool.{lt-ltb}
use Rattle.sqlite_value.specs.declared.value.Value.{Value}
use Rattle.sqlite_value.specs.declared.value.Value.TheVariants.{Int}
use Rattle.sqlite_value.specs.Order.{Row, column, bytes, value_cmp}
use Rattle.sqlite_value.proofs.OrderLemmas.{value_cmp-Int}
use Rattle.sqlite_trees.specs.Tree.{Trees, IsTable, rowid}
use Rattle.sqlite_trees.specs.View.{is_int}
use Rattle.sqlite_rules.specs.Lists.{Has}
use Rattle.sqlite.specs.Effect.{Database}
use Rattle.mqtt_records.specs.state.Records.{nothing}
use Rattle.mqtt_records.specs.state.Members.{Has as HasItem}
use Rattle.mqtt_records.specs.state.Contents.{StoredMessage, IsMessageOf}
use Rattle.mqtt_store_tables.specs.forms.Creation.{number_row, numbers_of}
use Rattle.mqtt_store_tables.specs.schema.Creation.{IsNewSecond}
use Rattle.mqtt_store_tables.specs.declared.schema.tables.Making.TheVariants.{New}
use Rattle.mqtt_store_tables.specs.statements.Content.{IsShapedAt}
use Rattle.mqtt_store_database.specs.item_laws.Items.{IsNumberRow, IsSessionRow, IsWillRow, IsSubscriptionRow, IsOpenRow}
use Rattle.mqtt_store_database.specs.item_laws.Written.{AreWritten}
use Rattle.mqtt_store_database.specs.row_laws.Items.{IsMessageRow, IsQueuedRow, IsKeptRow}
use Rattle.mqtt_store_database.specs.row_laws.Written.{KeepsRowsTwo, AreInOrderTwo, second_numbers}

-- no rows of no items
none_written : {X : Type 0} (IsRow : X → Row → Type 0) (Item : X → Type 0) (rows : List Row) → rows ≡ [] → ((x : X) → Item x → ⊥) → AreWritten IsRow Item rows
none_written IsRow Item rows none empty = record {
  each = λ x item. absurd (empty x item);
  only = λ row there. absurd (subst (λ (l : List Row). Has l row) none there);
}

abbrev IsFirst : List ℕ × ℕ → Type 0
IsFirst x = (row : Row) × Has (numbers_of 2) row × IsNumberRow x row

first_each : (x : List ℕ × ℕ) → HasItem (second_numbers nothing) x → IsFirst x
first_each x (inl e) = subst IsFirst (sym e) (number_row 2 (codes "births") 0, inr (inl refl), (pos 2, refl))
first_each x (inr (inl e)) = subst IsFirst (sym e) (number_row 3 (codes "publications") 0, inr (inr (inl refl)), (pos 3, refl))
first_each x (inr (inr (inl e))) = subst IsFirst (sym e) (number_row 4 (codes "subscribes") 0, inr (inr (inr (inl refl))), (pos 4, refl))
first_each x (inr (inr (inr (inl e)))) = subst IsFirst (sym e) (number_row 5 (codes "autos") 0, inr (inr (inr (inr (inl refl)))), (pos 5, refl))
first_each x (inr (inr (inr (inr (inl e))))) = subst IsFirst (sym e) (number_row 6 (codes "moment") 0, inr (inr (inr (inr (inr (inl refl))))), (pos 6, refl))
first_each x (inr (inr (inr (inr (inr (inl e)))))) = subst IsFirst (sym e) (number_row 1 (codes "schema") 2, inl refl, (pos 1, refl))
first_each x (inr (inr (inr (inr (inr (inr none)))))) = absurd none

abbrev IsItem : Row → Type 0
IsItem row = (x : List ℕ × ℕ) × HasItem (second_numbers nothing) x × IsNumberRow x row

first_only : (row : Row) → Has (numbers_of 2) row → IsItem row
first_only row (inl e) = subst IsItem (sym e) ((codes "schema", 2), inr (inr (inr (inr (inr (inl refl))))), (pos 1, refl))
first_only row (inr (inl e)) = subst IsItem (sym e) ((codes "births", 0), inl refl, (pos 2, refl))
first_only row (inr (inr (inl e))) = subst IsItem (sym e) ((codes "publications", 0), inr (inl refl), (pos 3, refl))
first_only row (inr (inr (inr (inl e)))) = subst IsItem (sym e) ((codes "subscribes", 0), inr (inr (inl refl)), (pos 4, refl))
first_only row (inr (inr (inr (inr (inl e))))) = subst IsItem (sym e) ((codes "autos", 0), inr (inr (inr (inl refl))), (pos 5, refl))
first_only row (inr (inr (inr (inr (inr (inl e)))))) = subst IsItem (sym e) ((codes "moment", 0), inr (inr (inr (inr (inl refl)))), (pos 6, refl))
first_only row (inr (inr (inr (inr (inr (inr none)))))) = absurd none

-- ---- the six names differ

-- the rows of that name
abbrev called : Value → List Row
called v = filter (λ r. bytes_eq (bytes (column r 1)) (bytes v)) (numbers_of 2)

abbrev IsAlone : Row → Type 0
IsAlone row = row ∷ [] ≡ called (column row 1)

alone : (row : Row) → Has (numbers_of 2) row → IsAlone row
alone row (inl e) = subst IsAlone (sym e) refl
alone row (inr (inl e)) = subst IsAlone (sym e) refl
alone row (inr (inr (inl e))) = subst IsAlone (sym e) refl
alone row (inr (inr (inr (inl e)))) = subst IsAlone (sym e) refl
alone row (inr (inr (inr (inr (inl e))))) = subst IsAlone (sym e) refl
alone row (inr (inr (inr (inr (inr (inl e)))))) = subst IsAlone (sym e) refl
alone row (inr (inr (inr (inr (inr (inr none)))))) = absurd none

number_names : (a b : Row) → Has (numbers_of 2) a → Has (numbers_of 2) b → column a 1 ≡ column b 1 → a ≡ b
number_names a b ha hb same = let both : ◌≡◌ {A = List Row} (a ∷ []) (b ∷ []) = alone a ha ∙ (ap called same ∙ sym (alone b hb)) in cc

-- ---- all tables

none_said : (m : StoredMessage) → IsMessageOf nothing m → ⊥
none_said m (inl it) = absurd it.2.1
none_said m (inr it) = absurd it.1

-- the tables of a new database of schema 2 are written from records of nothing
pub new_keeps : (db : Database) → IsNewSecond db → KeepsRowsTwo New db.trees nothing
new_keeps db h = record {
  rows = record {
    meta = subst (AreWritten IsNumberRow (HasItem (second_numbers nothing))) (sym h.meta_rows) (record { each = first_each; only = first_only });
    sessions = none_written IsSessionRow _ (db.trees 2) h.empty.0 (λ x it. it.1);
    wills = none_written IsWillRow _ (db.trees 4) h.empty.1.0 (λ x it. it.1);
    subscriptions = none_written IsSubscriptionRow _ (db.trees 5) h.empty.1.1.0 (λ x it. it.1);
    inbound = none_written IsOpenRow _ (db.trees 7) h.empty.1.1.1.0 (λ x it. it.1);
    messages = none_written IsMessageRow _ (db.trees 9) h.empty.1.1.1.1.0 none_said;
    queued = none_written IsQueuedRow _ (db.trees 10) h.empty.1.1.1.1.1.0 (λ x it. it.1);
    kept = none_written IsKeptRow _ (db.trees 12) h.empty.1.1.1.1.1.1.0 (λ x it. it);
    old = tt;
  };
  single = record {
    numbers = λ a b ha hb same. number_names a b (subst (λ (l : List Row). Has l a) h.meta_rows ha) (subst (λ (l : List Row). Has l b) h.meta_rows hb) same;
    queued = λ a b ha hb one two. absurd (subst (λ (l : List Row). Has l a) h.empty.1.1.1.1.1.0 ha);
  };
  ordered = record { sessions = tt; lists = tt };
  by_place = tt;
  sayable = record {
    wills = λ b x it. absurd it.1;
    subscriptions = λ b x it. absurd it.1;
    own = λ b x it. absurd it.1;
    copies = λ b x it. absurd it.1;
    retained = λ x it. absurd it;
  };
  shared = λ m h. absurd (none_said m h);
}

-- ---- their order

abbrev HasInts : List Row → Type 0
HasInts rows = AllByRecursion (λ r. IsTrue (is_int (rowid r))) rows

less : (m n : ℕ) → m < n → value_cmp (Int (pos m)) (Int (pos n)) ≡ Less
less m n h =
    let below : int_cmp (pos m) (pos n) ≡ Less = rw (lt-ltb m n h) refl in
    value_cmp-Int (pos m) (pos n) ∙ below

numbers_rise : IsTable (numbers_of 2)
numbers_rise = ((less 1 2 (omega arith), (less 1 3 (omega arith), (less 1 4 (omega arith), (less 1 5 (omega arith), (less 1 6 (omega arith), tt))))), ((less 2 3 (omega arith), (less 2 4 (omega arith), (less 2 5 (omega arith), (less 2 6 (omega arith), tt)))), ((less 3 4 (omega arith), (less 3 5 (omega arith), (less 3 6 (omega arith), tt))), ((less 4 5 (omega arith), (less 4 6 (omega arith), tt)), ((less 5 6 (omega arith), tt), (tt, tt))))))

numbers_are_ints : HasInts (numbers_of 2)
numbers_are_ints = (refl, (refl, (refl, (refl, (refl, (refl, tt))))))

none_in_order : (db : Trees) (tree : ℕ) → db tree ≡ [] → IsShapedAt db tree
none_in_order db tree none = record { up = subst IsTable (sym none) tt; ints = subst HasInts (sym none) tt }

-- the rows of a new database of schema 2 rise by their numbers
pub new_in_order : (db : Database) → IsNewSecond db → AreInOrderTwo New db.trees
new_in_order db h = record {
  meta = record { up = subst IsTable (sym h.meta_rows) numbers_rise; ints = subst HasInts (sym h.meta_rows) numbers_are_ints };
  session = none_in_order db.trees 2 h.empty.0;
  will = none_in_order db.trees 4 h.empty.1.0;
  sub = none_in_order db.trees 5 h.empty.1.1.0;
  inbound = none_in_order db.trees 7 h.empty.1.1.1.0;
  message = none_in_order db.trees 9 h.empty.1.1.1.1.0;
  queued = none_in_order db.trees 10 h.empty.1.1.1.1.1.0;
  kept = none_in_order db.trees 12 h.empty.1.1.1.1.1.1.0;
}
