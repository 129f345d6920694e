-- All tables after each change of the tables that is that of a change of records, and what it asks.
use Rattle.std.proofs.Common.{◌≡◌, ℕ, ℤ, pos, List, [], ◌∷◌, sym, subst}
use Rattle.sqlite_value.specs.declared.value.Value.TheVariants.{Int}
use Rattle.sqlite_trees.specs.Tree.{Trees}
use Rattle.sqlite_rules.specs.Lists.{Has}
use Rattle.mqtt_records.specs.declared.state.change.Change.{Change}
use Rattle.mqtt_records.specs.declared.state.change.Change.TheVariants as change
use Rattle.mqtt_records.specs.declared.state.change.Counter.{Counter}
use Rattle.mqtt_records.specs.declared.state.records.Records.{Records}
use Rattle.mqtt_records.specs.declared.state.subscription.Subscription.{Subscription}
use Rattle.mqtt_records.specs.state.Records.{changed, changed_all, Fits, FitAll}
use Rattle.mqtt_records.specs.state.Contents.{FitsContents, FitContents}
use Rattle.mqtt_store_tables.specs.declared.schema.tables.Making.{Making}
use Rattle.mqtt_store_tables.specs.statements.Columns.{subscription_row}
use Rattle.mqtt_store_tables.specs.statements.Layout.{second_layout}
use Rattle.mqtt_store_tables.specs.statements.Numbers.{number_row, SetsNumber}
use Rattle.mqtt_store_tables.specs.statements.Put.{PutsNumbered}
use Rattle.mqtt_store_tables.specs.statements.Removal.{is_subscription, RemovesFrom}
use Rattle.mqtt_store_tables.specs.declared.statements.subscriptions.SubscriptionColumns.{SubscriptionColumns}
use Rattle.mqtt_store_tables.specs.messages.Step.{Asks, Does, AskAll, DoAll}
use Rattle.mqtt_store_tables.specs.declared.messages.change.TableChange.{TableChange}
use Rattle.mqtt_store_tables.specs.declared.messages.change.TableChange.TheVariants.{SetNumber, PutSubscription, RemoveSubscription}
use Rattle.mqtt_store_database.specs.item_laws.Items.{subscription_columns}
use Rattle.mqtt_store_database.specs.item_laws.Counters.{counter_name}
use Rattle.mqtt_store_database.specs.item_laws.Written.{IsSayable, AllSayable}
use Rattle.mqtt_store_database.specs.row_laws.Steps.{SetsPhase}
use Rattle.mqtt_store_database.specs.row_laws.TableChanges.{IsNumberChange, IsSubscriptionChange, IsSubscriptionRemoval, IsTableChangeFor, AreTableChangesFor}
use Rattle.mqtt_store_database.specs.row_laws.Written.{KeepsRowsTwo, AreInOrderTwo}
use Rattle.mqtt_store_database.proofs.row_laws_lemmas.changes.Asked.{copy_asked, number_asked}
use Rattle.mqtt_store_database.proofs.row_laws_lemmas.changes.Dropped.{copy_put, copy_removed, session_removed, retained_put, retained_removed}
use Rattle.mqtt_store_database.proofs.row_laws_lemmas.changes.First as first
use Rattle.mqtt_store_database.proofs.row_laws_lemmas.changes.Numbers as numbers
use Rattle.mqtt_store_database.proofs.row_laws_lemmas.changes.SetCopy as set

-- ---- those that name something by a text

module _ (making : Making) (db next : Trees) where
  number_done : (name : List ℕ) (value : ℕ) (it : TableChange) → IsNumberChange name value it → Does making it db next
      → (id : ℤ) × (n : ℕ) × Has (db 0) (Int id ∷ number_row name n) × SetsNumber (second_layout making) name value id db next
  number_done name value (SetNumber text v) is does = (
    does.0,
    does.1,
    subst (λ (t : List ℕ). Has (db 0) (Int does.0 ∷ number_row t does.1)) is.0 does.2,
    subst (λ (w : ℕ). SetsNumber (second_layout making) name w does.0 db next) is.1 (subst (λ (t : List ℕ). SetsNumber (second_layout making) t v does.0 db next) is.0 does.3),
  )
  number_done name value _ is does = absurd is

  abbrev Puts : ℕ → List ℕ → SubscriptionColumns → Type 0
  Puts b text c = PutsNumbered (second_layout making) 5 (subscription_row b text c) (is_subscription (pos b) text) db next

  abbrev Removes : ℕ → List ℕ → Type 0
  Removes b text = RemovesFrom (second_layout making) 5 (is_subscription (pos b) text) db next

  subscription_done : (birth : ℕ) (put : Subscription) (it : TableChange) → IsSubscriptionChange birth put it → Does making it db next → Puts birth put.filter (subscription_columns put)
  subscription_done birth put (PutSubscription b text c) is does =
      subst (λ (d : SubscriptionColumns). Puts birth put.filter d) is.2 (subst (λ (t : List ℕ). Puts birth t c) is.1 (subst (λ (a : ℕ). Puts a text.now c) is.0 does))
  subscription_done birth put _ is does = absurd is

  removal_done : (birth : ℕ) (name : List ℕ) (it : TableChange) → IsSubscriptionRemoval birth name it → Does making it db next → Removes birth name
  removal_done birth name (RemoveSubscription b text) is does = subst (λ (t : List ℕ). Removes birth t) is.1 (subst (λ (a : ℕ). Removes a text.now) is.0 does)
  removal_done birth name _ is does = absurd is

  -- what a change of the tables does, if it is known which it is
  done_as : (it known : TableChange) → it ≡ known → Does making it db next → Does making known db next
  done_as it known same does = subst (λ (t : TableChange). Does making t db next) same does

-- ---- one change

module _ (making : Making) where
  abbrev Law : Change → TableChange → Trees → Trees → Records → Type 0
  Law c it db next r = KeepsRowsTwo making db r → AreInOrderTwo making db → Fits c r → FitsContents c r → IsSayable c → IsTableChangeFor c it → Does making it db next
      → KeepsRowsTwo making next (changed c r) × AreInOrderTwo making next

  -- the change of the tables that is that of a change of records makes of their rows those of the changed ones, and leaves them in order
  pub does_keep : (c : Change) (it : TableChange) (db next : Trees) (r : Records) → Law c it db next r
  does_keep (change.SetCounter counter value) it db next r k o fits agrees says is does =
      let h = number_done making db next (counter_name counter) value it is does in
      (numbers.set_keeps making db next r k o counter value h.1 h.0 h.2 h.3, numbers.set_order making db next r k o counter value h.1 h.0 h.2 h.3)
  does_keep (change.PutSession row) it db next r k o fits agrees says is does =
      let h = done_as making db next it _ is does in
      (first.session_put_keeps making db next r k o row h fits, first.session_put_order making db next r k o row h)
  does_keep (change.SetSession row) it db next r k o fits agrees says is does =
      let h = done_as making db next it _ is does in
      (first.session_set_keeps making db next r k o row h fits, first.session_put_order making db next r k o row h)
  does_keep (change.RemoveSession birth) it db next r k o fits agrees says is does =
      let h = done_as making db next it _ is does in
      session_removed making db h.0 next r k o h.2 birth h.1
  does_keep (change.PutWill birth will) it db next r k o fits agrees says is does =
      let h = done_as making db next it _ is does in
      (first.will_put_keeps making db next r k o birth will fits says h, first.will_put_order making db next r k o birth will h)
  does_keep (change.RemoveWill birth) it db next r k o fits agrees says is does =
      let h = done_as making db next it _ is does in
      (first.will_removal_keeps making db next r k o birth h, first.will_removal_order making db next r k o birth h)
  does_keep (change.PutSubscription birth put) it db next r k o fits agrees says is does =
      let h = subscription_done making db next birth put it is does in
      (first.subscription_put_keeps making db next r k o birth put fits says h, first.subscription_put_order making db next r k o birth put h)
  does_keep (change.RemoveSubscription birth text) it db next r k o fits agrees says is does =
      let h = removal_done making db next birth text it is does in
      (first.subscription_removal_keeps making db next r k o birth text h, first.subscription_removal_order making db next r k o birth text h)
  does_keep (change.PutInbound birth n) it db next r k o fits agrees says is does =
      let h = done_as making db next it _ is does in
      (first.open_put_keeps making db next r k o birth n fits h, first.open_put_order making db next r k o birth n h)
  does_keep (change.RemoveInbound birth n) it db next r k o fits agrees says is does =
      let h = done_as making db next it _ is does in
      (first.open_removal_keeps making db next r k o birth n h, first.open_removal_order making db next r k o birth n h)
  does_keep (change.PutCopy birth row) it db next r k o fits agrees says is does =
      let h = done_as making db next it _ is does in
      copy_put making db h.0 next r k o h.2 birth row h.1.0 fits agrees says h.1.1 h.1.2
  does_keep (change.SetCopy birth place phase) it db next r k o fits agrees says is does =
      let h = done_as making db next it _ is does in
      let sets : SetsPhase making birth place phase db next = record { id = h.0; columns = h.1; stood = h.2; sets = h.3 } in
      (set.set_keeps making db next r k o birth place phase sets, set.set_order making db next r k o birth place phase sets)
  does_keep (change.RemoveCopy birth place) it db next r k o fits agrees says is does =
      let h = done_as making db next it _ is does in
      copy_removed making db h.0 next r k o h.2 birth place h.1
  does_keep (change.PutRetained kept) it db next r k o fits agrees says is does =
      let h = done_as making db next it _ is does in
      retained_put making db h.0 next r k o h.2 kept h.1.0 fits agrees says h.1.1 h.1.2
  does_keep (change.RemoveRetained place) it db next r k o fits agrees says is does =
      let h = done_as making db next it _ is does in
      retained_removed making db h.0 next r k o h.2 place h.1

-- ---- what is set stands

module _ (making : Making) (db : Trees) (r : Records) (keeps : KeepsRowsTwo making db r) where
  number_asks : (counter : Counter) (value : ℕ) (it : TableChange) → IsNumberChange (counter_name counter) value it → Asks making it db
  number_asks counter value (SetNumber text v) is =
      let row = number_asked making db r keeps counter in
      (row.0, row.1, subst (λ (t : List ℕ). Has (db 0) (Int row.0 ∷ number_row t row.1)) (sym is.0) row.2)
  number_asks counter value _ is = absurd is

  subscription_asks : (birth : ℕ) (put : Subscription) (it : TableChange) → IsSubscriptionChange birth put it → Asks making it db
  subscription_asks birth put (PutSubscription b text c) is = tt
  subscription_asks birth put _ is = absurd is

  removal_asks : (birth : ℕ) (name : List ℕ) (it : TableChange) → IsSubscriptionRemoval birth name it → Asks making it db
  removal_asks birth name (RemoveSubscription b text) is = tt
  removal_asks birth name _ is = absurd is

  asks_as : (it known : TableChange) → it ≡ known → Asks making known db → Asks making it db
  asks_as it known same asks = subst (λ (t : TableChange). Asks making t db) (sym same) asks

  -- what it asks stands, if the change of records fits
  pub asks_stand : (c : Change) (it : TableChange) → Fits c r → IsTableChangeFor c it → Asks making it db
  asks_stand (change.SetCounter counter value) it fits is = number_asks counter value it is
  asks_stand (change.PutSession row) it fits is = asks_as it _ is tt
  asks_stand (change.SetSession row) it fits is = asks_as it _ is tt
  asks_stand (change.RemoveSession birth) it fits is = asks_as it _ is tt
  asks_stand (change.PutWill birth will) it fits is = asks_as it _ is tt
  asks_stand (change.RemoveWill birth) it fits is = asks_as it _ is tt
  asks_stand (change.PutSubscription birth put) it fits is = subscription_asks birth put it is
  asks_stand (change.RemoveSubscription birth text) it fits is = removal_asks birth text it is
  asks_stand (change.PutInbound birth n) it fits is = asks_as it _ is tt
  asks_stand (change.RemoveInbound birth n) it fits is = asks_as it _ is tt
  asks_stand (change.PutCopy birth row) it fits is = asks_as it _ is tt
  asks_stand (change.SetCopy birth place phase) it fits is = asks_as it _ is (copy_asked making db r keeps birth place phase fits)
  asks_stand (change.RemoveCopy birth place) it fits is = asks_as it _ is tt
  asks_stand (change.PutRetained kept) it fits is = asks_as it _ is tt
  asks_stand (change.RemoveRetained place) it fits is = asks_as it _ is tt

-- ---- one after the other

module _ (making : Making) where
  -- so do those of changes, one after the other
  pub do_keep : (cs : List Change) (them : List TableChange) (db next : Trees) (r : Records) → KeepsRowsTwo making db r → AreInOrderTwo making db → FitAll cs r → FitContents cs r → AllSayable cs
      → AreTableChangesFor cs them → DoAll making them db next → KeepsRowsTwo making next (changed_all cs r) × AreInOrderTwo making next
  do_keep [] [] db next r k o fits agrees says are does = (subst (λ (t : Trees). KeepsRowsTwo making t r) (sym does) k, subst (AreInOrderTwo making) (sym does) o)
  do_keep [] (it ∷ more) db next r k o fits agrees says are does = absurd are
  do_keep (c ∷ cs) [] db next r k o fits agrees says are does = absurd are
  do_keep (c ∷ cs) (it ∷ more) db next r k o fits agrees says are does =
      let one = does_keep making c it db does.0 r k o fits.0 agrees.0 says.0 are.0 does.1 in
      do_keep cs more does.0 next (changed c r) one.0 one.1 fits.1 agrees.1 says.1 are.1 does.2

  -- what each of them asks stands when its turn comes
  pub ask_stand : (cs : List Change) (them : List TableChange) (db : Trees) (r : Records) → KeepsRowsTwo making db r → AreInOrderTwo making db → FitAll cs r → FitContents cs r → AllSayable cs
      → AreTableChangesFor cs them → AskAll making them db
  ask_stand [] [] db r k o fits agrees says are = tt
  ask_stand [] (it ∷ more) db r k o fits agrees says are = absurd are
  ask_stand (c ∷ cs) [] db r k o fits agrees says are = absurd are
  ask_stand (c ∷ cs) (it ∷ more) db r k o fits agrees says are = (
    asks_stand making db r k c it fits.0 are.0,
    λ mid does.
        let one = does_keep making c it db mid r k o fits.0 agrees.0 says.0 are.0 does in
        ask_stand cs more mid (changed c r) one.0 one.1 fits.1 agrees.1 says.1 are.1,
  )
