-- All tables after a number is set.
use Rattle.std.proofs.Common.{◌≡◌, ℕ, ℤ, ◌∷◌, map, refl, arith, inl, inr}
use Rattle.sqlite_value.specs.declared.value.Value.TheVariants.{Int}
use Rattle.sqlite_trees.specs.Tree.{Trees, has_rowid}
use Rattle.sqlite_rules.specs.Lists.{Has}
use Rattle.mqtt_records.specs.declared.state.change.Counter.{Counter}
use Rattle.mqtt_records.specs.declared.state.change.Counter.TheVariants.{Births, Publications, Subscribes, Autos, Moment}
use Rattle.mqtt_records.specs.declared.state.change.Change.TheVariants.{SetCounter}
use Rattle.mqtt_records.specs.declared.state.records.Records.{Records}
use Rattle.mqtt_records.specs.state.Records.{changed, with_counter, counter_of}
use Rattle.mqtt_records.specs.state.Members.{Has as HasItem}
use Rattle.mqtt_store_tables.specs.declared.schema.tables.Making.{Making}
use Rattle.mqtt_store_tables.specs.statements.Layout.{second_layout}
use Rattle.mqtt_store_tables.specs.statements.Numbers.{number_row, SetsNumber}
use Rattle.mqtt_store_database.specs.item_laws.Members.{HasColumns, AllOrdered}
use Rattle.mqtt_store_database.specs.item_laws.Items.{IsNumberRow, IsSessionRow, IsWillRow, IsSubscriptionRow, IsOpenRow}
use Rattle.mqtt_store_database.specs.item_laws.Counters.{counter_name}
use Rattle.mqtt_store_database.specs.item_laws.Written.{AreWritten, IsWillOf, IsSubscriptionOf, IsOpenOf}
use Rattle.mqtt_store_database.proofs.item_laws_lemmas.records.Ordered.{counted_sessions, ordered_after}
use Rattle.mqtt_store_database.proofs.item_laws_lemmas.tables.Kept.{moved}
use Rattle.mqtt_store_database.proofs.item_laws_lemmas.tables.Numbers.{set_one, number_set, number_named}
use Rattle.mqtt_store_database.specs.row_laws.Written.{KeepsRowsTwo, AreInOrderTwo, second_numbers}
use Rattle.mqtt_store_database.proofs.row_laws_lemmas.messages.Others.{SameItems, counter_items}
use Rattle.mqtt_store_database.proofs.row_laws_lemmas.tables.Order.{order_put}
use Rattle.mqtt_store_database.proofs.row_laws_lemmas.changes.First.{session_same, will_same, sub_same, inbound_same}
use Rattle.mqtt_store_database.proofs.row_laws_lemmas.changes.Rest.{rest_keeps}

numbers_set : (counter : Counter) (value : ℕ) (r : Records) → second_numbers (with_counter counter value r) ≡ map (set_one (counter_name counter) value) (second_numbers r)
numbers_set Births value r = refl
numbers_set Publications value r = refl
numbers_set Subscribes value r = refl
numbers_set Autos value r = refl
numbers_set Moment value r = refl

-- each of the five numbers is there under its name
pub number_there : (counter : Counter) (r : Records) → HasItem (second_numbers r) (counter_name counter, counter_of counter r)
number_there Births r = inl refl
number_there Publications r = inr (inl refl)
number_there Subscribes r = inr (inr (inl refl))
number_there Autos r = inr (inr (inr (inl refl)))
number_there Moment r = inr (inr (inr (inr (inl refl))))

module _ (making : Making) (db next : Trees) (r : Records) (keeps : KeepsRowsTwo making db r) (order : AreInOrderTwo making db) (counter : Counter) (value n : ℕ) (id : ℤ)
    (stood : Has (db 0) (Int id ∷ number_row (counter_name counter) n)) (sets : SetsNumber (second_layout making) (counter_name counter) value id db next) where
  -- what is left alone is that of any records with these sessions
  module _ (q : Records) (sessions : q.sessions ≡ r.sessions) (items : SameItems r q) (ordered : AllOrdered q) where
    numbered_keeps : AreWritten IsNumberRow (HasItem (second_numbers q)) (next 0) → KeepsRowsTwo making next q
    numbered_keeps numbers = rest_keeps making db next r q keeps 0 (omega arith) sets.others items numbers
        (number_named db next (second_numbers r) keeps.rows.meta keeps.single.numbers order.meta (counter_name counter) value n (counter_of counter r) id stood sets (number_there counter r))
        (rw sessions (moved IsSessionRow (HasColumns r) (db 2) (next 2) (session_same making 0 db next sets.others (omega arith)) keeps.rows.sessions))
        (rw sessions (moved IsWillRow (IsWillOf r) (db 4) (next 4) (will_same making 0 db next sets.others (omega arith)) keeps.rows.wills))
        (rw sessions (moved IsSubscriptionRow (IsSubscriptionOf r) (db 5) (next 5) (sub_same making 0 db next sets.others (omega arith)) keeps.rows.subscriptions))
        (rw sessions (moved IsOpenRow (IsOpenOf r) (db 7) (next 7) (inbound_same making 0 db next sets.others (omega arith)) keeps.rows.inbound))
        (rw sessions keeps.sayable.wills)
        (rw sessions keeps.sayable.subscriptions)
        ordered

  -- after a number is set, the tables keep the changed records
  pub set_keeps : KeepsRowsTwo making next (changed (SetCounter counter value) r)
  set_keeps = numbered_keeps (with_counter counter value r) (counted_sessions counter value r) (counter_items counter value r) (ordered_after (SetCounter counter value) r keeps.ordered)
      (rw (numbers_set counter value r) (number_set db next (second_numbers r) keeps.rows.meta keeps.single.numbers order.meta (counter_name counter) value n (counter_of counter r) id stood sets (number_there counter r)))

  -- and are in order
  pub set_order : AreInOrderTwo making next
  set_order = order_put making 0 id (Int id ∷ number_row (counter_name counter) value) (has_rowid id) db next refl (record { rows = sets.rows; others = sets.others }) order.meta order
