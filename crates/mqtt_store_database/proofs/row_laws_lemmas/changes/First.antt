-- All tables after a session's own row, its Will, a subscription or an open identifier is put or removed.
use Rattle.std.proofs.Common.{◌≡◌, ◌≢◌, ℕ, ◌≤◌, pos, List, refl, sym, subst, arith, inl, inr}
use Rattle.std.specs.Prelude.{Some, None}
use Rattle.sqlite_trees.specs.Tree.{Trees}
use Rattle.sqlite_rules.specs.Edit.{next_rowid}
use Rattle.mqtt_records.specs.declared.messages.message.Will.{Will}
use Rattle.mqtt_records.specs.declared.state.session.Session.{Session}
use Rattle.mqtt_records.specs.declared.state.session.Columns.{Columns}
use Rattle.mqtt_records.specs.declared.state.subscription.Subscription.{Subscription}
use Rattle.mqtt_records.specs.declared.state.records.Records.{Records}
use Rattle.mqtt_records.specs.declared.state.change.Change.TheVariants.{PutSession, SetSession, PutWill, RemoveWill, PutSubscription, RemoveSubscription, PutInbound, RemoveInbound}
use Rattle.mqtt_records.specs.state.Records.{changed, in_session, Fits}
use Rattle.mqtt_records.specs.state.Session.{columns_of, with_columns, with_will, with_subscription, without_subscription, with_open, without_open}
use Rattle.mqtt_records.specs.state.Members.{Has as HasItem, InPart, queue_of}
use Rattle.mqtt_store_tables.specs.declared.schema.tables.Making.{Making}
use Rattle.mqtt_store_tables.specs.statements.Layout.{second_layout}
use Rattle.mqtt_store_tables.specs.statements.Columns.{session_row, will_row, subscription_row}
use Rattle.mqtt_store_tables.specs.statements.Content.{is_of}
use Rattle.mqtt_store_tables.specs.statements.Put.{PutsInto, PutsNumbered, numbered, open_row}
use Rattle.mqtt_store_tables.specs.statements.Removal.{RemovesFrom, is_keyed, is_subscription}
use Rattle.mqtt_store_tables.proofs.statements_lemmas.tables.Spared.{meta_spared, session_spared, will_spared, sub_spared, inbound_spared}
use Rattle.mqtt_store_tables.proofs.statements_lemmas.tables.Whole.{Spares}
use Rattle.mqtt_store_tables.proofs.messages_lemmas.Behind.{asked}
use Rattle.mqtt_store_database.specs.item_laws.Members.{HasColumns, AllOrdered, will_of, subscriptions_of, inbound_of}
use Rattle.mqtt_store_database.specs.item_laws.Items.{IsNumberRow, IsWillRow, IsSubscriptionRow, IsOpenRow, session_columns, will_columns, subscription_columns}
use Rattle.mqtt_store_database.specs.item_laws.Written.{AreWritten, IsWillOf, IsSubscriptionOf, IsOpenOf, IsSayableWill, IsSayableSubscription}
use Rattle.mqtt_store_database.proofs.item_laws_lemmas.records.Lists.{will_new, will_out_new, subscription_new, subscription_out_new}
use Rattle.mqtt_store_database.proofs.item_laws_lemmas.records.Ordered.{ordered_after}
use Rattle.mqtt_store_database.proofs.item_laws_lemmas.records.Owns.{columns_put_new, columns_put_old, columns_set_new, columns_set_old, any_some}
use Rattle.mqtt_store_database.proofs.item_laws_lemmas.records.Parts.{put_part_new, put_part_old}
use Rattle.mqtt_store_database.proofs.item_laws_lemmas.tables.Edited.{sessions_stay, wills_stay, subscriptions_stay, inbound_stays, wills_said, subscriptions_said}
use Rattle.mqtt_store_database.proofs.item_laws_lemmas.tables.Five.{session_put, will_put, will_removed, subscription_put, subscription_removed, open_put, open_removed}
use Rattle.mqtt_store_database.proofs.item_laws_lemmas.tables.Kept.{moved}
use Rattle.mqtt_store_database.proofs.item_laws_lemmas.tables.Tables.{unchanged}
use Rattle.mqtt_store_database.specs.row_laws.Written.{KeepsRowsTwo, AreInOrderTwo, second_numbers}
use Rattle.mqtt_store_database.proofs.row_laws_lemmas.messages.Others.{edited_items, session_items}
use Rattle.mqtt_store_database.proofs.row_laws_lemmas.tables.Order.{order_put, order_removed}
use Rattle.mqtt_store_database.proofs.row_laws_lemmas.changes.Rest.{rest_keeps}

module _ (making : Making) (tree : ℕ) (old new : Trees) (others : Spares (second_layout making) tree old new) where
  -- a statement on another table leaves that of numbers alone
  pub meta_same : 0 ≢ tree → new 0 ≡ old 0
  meta_same other = others 0 other (meta_spared (second_layout making) (asked making))

  -- and that of sessions
  pub session_same : 2 ≢ tree → new 2 ≡ old 2
  session_same other = others 2 other (session_spared (second_layout making) (asked making))

  -- and that of Wills
  pub will_same : 4 ≢ tree → new 4 ≡ old 4
  will_same other = others 4 other (will_spared (second_layout making) (asked making))

  -- and that of subscriptions
  pub sub_same : 5 ≢ tree → new 5 ≡ old 5
  sub_same other = others 5 other (sub_spared (second_layout making) (asked making))

  -- and that of open identifiers
  pub inbound_same : 7 ≢ tree → new 7 ≡ old 7
  inbound_same other = others 7 other (inbound_spared (second_layout making) (asked making))

module _ (making : Making) (db next : Trees) (r : Records) (keeps : KeepsRowsTwo making db r) (order : AreInOrderTwo making db) where
  -- ---- a session's own row

  module _ (row : Columns) (h : PutsInto (second_layout making) 2 (session_row row.birth (session_columns row)) (is_of 0 (pos row.birth)) db next) where
    meta_left : next 0 ≡ db 0
    meta_left = meta_same making 2 db next h.others (omega arith)

    -- after a session's own row is put, the tables have the rows of the changed records
    pub session_put_keeps : Fits (PutSession row) r → KeepsRowsTwo making next (changed (PutSession row) r)
    session_put_keeps fits =
        let up = keeps.ordered.sessions in
        let after = changed (PutSession row) r in
        rest_keeps making db next r after keeps 2 (omega arith) h.others (session_items row r up fits)
        (moved IsNumberRow (HasItem (second_numbers r)) (db 0) (next 0) meta_left keeps.rows.meta)
        (rw meta_left keeps.single.numbers)
        (session_put db next r keeps.rows.sessions order.session row h (HasColumns after) (columns_put_new row r up fits.0) (columns_put_old row r up fits.0))
        (unchanged IsWillRow (IsWillOf r) (IsWillOf after) (db 4) (next 4) (will_same making 2 db next h.others (omega arith))
        (λ x. put_part_new row r.sessions up fits.0 will_of (λ s. refl) refl x.0 x.1) (λ x. put_part_old row r.sessions up fits.0 will_of (λ s. refl) refl x.0 x.1) keeps.rows.wills)
        (unchanged IsSubscriptionRow (IsSubscriptionOf r) (IsSubscriptionOf after) (db 5) (next 5) (sub_same making 2 db next h.others (omega arith))
        (λ x. put_part_new row r.sessions up fits.0 subscriptions_of (λ s. refl) refl x.0 x.1) (λ x. put_part_old row r.sessions up fits.0 subscriptions_of (λ s. refl) refl x.0 x.1) keeps.rows.subscriptions)
        (unchanged IsOpenRow (IsOpenOf r) (IsOpenOf after) (db 7) (next 7) (inbound_same making 2 db next h.others (omega arith))
        (λ x. put_part_new row r.sessions up fits.0 inbound_of (λ s. refl) refl x.0 x.1) (λ x. put_part_old row r.sessions up fits.0 inbound_of (λ s. refl) refl x.0 x.1) keeps.rows.inbound)
        (λ b x there. keeps.sayable.wills b x (put_part_new row r.sessions up fits.0 will_of (λ s. refl) refl b x there))
        (λ b x there. keeps.sayable.subscriptions b x (put_part_new row r.sessions up fits.0 subscriptions_of (λ s. refl) refl b x there))
        (ordered_after (PutSession row) r keeps.ordered)

    -- after a session's own row is set, the tables have the rows of the changed records
    pub session_set_keeps : Fits (SetSession row) r → KeepsRowsTwo making next (changed (SetSession row) r)
    session_set_keeps fits =
        let birth = row.birth in
        let f = with_columns row in
        let up = keeps.ordered.sessions in
        let same : (s : Session) → (f s).birth ≡ s.birth = λ s. refl in
        rest_keeps making db next r (changed (SetSession row) r) keeps 2 (omega arith) h.others (edited_items birth f r up same (λ s. refl))
        (moved IsNumberRow (HasItem (second_numbers r)) (db 0) (next 0) meta_left keeps.rows.meta)
        (rw meta_left keeps.single.numbers)
        (session_put db next r keeps.rows.sessions order.session row h (HasColumns (changed (SetSession row) r)) (columns_set_new row r up) (columns_set_old row r up (any_some _ _ fits.0)))
        (wills_stay r birth f up same db next (λ s. refl) (will_same making 2 db next h.others (omega arith)) keeps.rows.wills)
        (subscriptions_stay r birth f up same db next (λ s. refl) (sub_same making 2 db next h.others (omega arith)) keeps.rows.subscriptions)
        (inbound_stays r birth f up same db next (λ s. refl) (inbound_same making 2 db next h.others (omega arith)) keeps.rows.inbound)
        (wills_said r birth f up same keeps.sayable (λ s. refl))
        (subscriptions_said r birth f up same keeps.sayable (λ s. refl))
        (ordered_after (SetSession row) r keeps.ordered)

    -- after a session's own row is put or set, the tables are in order
    pub session_put_order : AreInOrderTwo making next
    session_put_order = order_put making 2 (pos row.birth) (session_row row.birth (session_columns row)) (is_of 0 (pos row.birth)) db next refl h order.session order

  -- ---- what a session has beside its queue, changed by f, by a statement on one table

  module _ (tree : ℕ) (low : tree ≤ 7) (other : 0 ≢ tree) (alone : 2 ≢ tree) (others : Spares (second_layout making) tree db next) (birth : ℕ) (f : Session → Session)
      (births : (s : Session) → (f s).birth ≡ s.birth) (own : (s : Session) → columns_of (f s) ≡ columns_of s) (queues : (s : Session) → queue_of (f s) ≡ queue_of s) where
    abbrev after : Records
    after = in_session birth f r

    -- with the tables of Wills, subscriptions and open identifiers written again, all tables are written
    pub part_keeps : AreWritten IsWillRow (IsWillOf after) (next 4) → AreWritten IsSubscriptionRow (IsSubscriptionOf after) (next 5) → AreWritten IsOpenRow (IsOpenOf after) (next 7)
        → ((b : ℕ) (x : Will) → InPart will_of after.sessions b x → IsSayableWill x) → ((b : ℕ) (x : Subscription) → InPart subscriptions_of after.sessions b x → IsSayableSubscription x)
        → AllOrdered after → KeepsRowsTwo making next after
    part_keeps wills subscriptions inbound will_says subscription_says ordered =
        let up = keeps.ordered.sessions in
        let meta = meta_same making tree db next others other in
        rest_keeps making db next r after keeps tree low others (edited_items birth f r up births queues)
        (moved IsNumberRow (HasItem (second_numbers r)) (db 0) (next 0) meta keeps.rows.meta)
        (rw meta keeps.single.numbers)
        (sessions_stay r birth f up births db next own (session_same making tree db next others alone) keeps.rows.sessions)
        wills subscriptions inbound will_says subscription_says ordered

  module _ (birth : ℕ) where
    -- ---- Wills

    -- after a Will is put, the tables have the rows of the changed records
    pub will_put_keeps : (will : Will) → Fits (PutWill birth will) r → IsSayableWill will → PutsInto (second_layout making) 4 (will_row birth (will_columns will)) (is_of 0 (pos birth)) db next
        → KeepsRowsTwo making next (changed (PutWill birth will) r)
    will_put_keeps will fits says h =
        let f = with_will (Some will) in
        let up = keeps.ordered.sessions in
        let same : (s : Session) → (f s).birth ≡ s.birth = λ s. refl in
        part_keeps 4 (omega arith) (omega arith) (omega arith) h.others birth f same (λ s. refl) (λ s. refl)
        (will_put db next r keeps.ordered keeps.rows.wills birth order.will will fits h)
        (subscriptions_stay r birth f up same db next (λ s. refl) (sub_same making 4 db next h.others (omega arith)) keeps.rows.subscriptions)
        (inbound_stays r birth f up same db next (λ s. refl) (inbound_same making 4 db next h.others (omega arith)) keeps.rows.inbound)
        (λ b x there. elim (will_new r keeps.ordered birth will b x there) [
          | inl new ↦ subst IsSayableWill (sym new.1) says
          | inr old ↦ keeps.sayable.wills b x old.0
        ])
        (subscriptions_said r birth f up same keeps.sayable (λ s. refl))
        (ordered_after (PutWill birth will) r keeps.ordered)

    -- after a Will is removed, the tables have the rows of the changed records
    pub will_removal_keeps : RemovesFrom (second_layout making) 4 (is_of 0 (pos birth)) db next → KeepsRowsTwo making next (changed (RemoveWill birth) r)
    will_removal_keeps h =
        let f = with_will None in
        let up = keeps.ordered.sessions in
        let same : (s : Session) → (f s).birth ≡ s.birth = λ s. refl in
        part_keeps 4 (omega arith) (omega arith) (omega arith) h.others birth f same (λ s. refl) (λ s. refl)
        (will_removed db next r keeps.ordered keeps.rows.wills birth h)
        (subscriptions_stay r birth f up same db next (λ s. refl) (sub_same making 4 db next h.others (omega arith)) keeps.rows.subscriptions)
        (inbound_stays r birth f up same db next (λ s. refl) (inbound_same making 4 db next h.others (omega arith)) keeps.rows.inbound)
        (λ b x there. keeps.sayable.wills b x (will_out_new r keeps.ordered birth b x there).0)
        (subscriptions_said r birth f up same keeps.sayable (λ s. refl))
        (ordered_after (RemoveWill birth) r keeps.ordered)

    -- ---- subscriptions

    -- after a subscription is put, the tables have the rows of the changed records
    pub subscription_put_keeps : (put : Subscription) → Fits (PutSubscription birth put) r → IsSayableSubscription put
        → PutsNumbered (second_layout making) 5 (subscription_row birth put.filter (subscription_columns put)) (is_subscription (pos birth) put.filter) db next → KeepsRowsTwo making next (changed (PutSubscription birth put) r)
    subscription_put_keeps put fits says h =
        let f = with_subscription put in
        let up = keeps.ordered.sessions in
        let same : (s : Session) → (f s).birth ≡ s.birth = λ s. refl in
        part_keeps 5 (omega arith) (omega arith) (omega arith) h.others birth f same (λ s. refl) (λ s. refl)
        (wills_stay r birth f up same db next (λ s. refl) (will_same making 5 db next h.others (omega arith)) keeps.rows.wills)
        (subscription_put db next r keeps.ordered keeps.rows.subscriptions birth order.sub put fits h)
        (inbound_stays r birth f up same db next (λ s. refl) (inbound_same making 5 db next h.others (omega arith)) keeps.rows.inbound)
        (wills_said r birth f up same keeps.sayable (λ s. refl))
        (λ b x there. elim (subscription_new r keeps.ordered birth put fits b x there) [
          | inl new ↦ subst IsSayableSubscription (sym new.1) says
          | inr old ↦ keeps.sayable.subscriptions b x old.0
        ])
        (ordered_after (PutSubscription birth put) r keeps.ordered)

    -- after a subscription is removed, the tables have the rows of the changed records
    pub subscription_removal_keeps : (text : List ℕ) → RemovesFrom (second_layout making) 5 (is_subscription (pos birth) text) db next → KeepsRowsTwo making next (changed (RemoveSubscription birth text) r)
    subscription_removal_keeps text h =
        let f = without_subscription text in
        let up = keeps.ordered.sessions in
        let same : (s : Session) → (f s).birth ≡ s.birth = λ s. refl in
        part_keeps 5 (omega arith) (omega arith) (omega arith) h.others birth f same (λ s. refl) (λ s. refl)
        (wills_stay r birth f up same db next (λ s. refl) (will_same making 5 db next h.others (omega arith)) keeps.rows.wills)
        (subscription_removed db next r keeps.ordered keeps.rows.subscriptions birth text h)
        (inbound_stays r birth f up same db next (λ s. refl) (inbound_same making 5 db next h.others (omega arith)) keeps.rows.inbound)
        (wills_said r birth f up same keeps.sayable (λ s. refl))
        (λ b x there. keeps.sayable.subscriptions b x (subscription_out_new r keeps.ordered birth text b x there).0)
        (ordered_after (RemoveSubscription birth text) r keeps.ordered)

    -- ---- open identifiers

    -- after an identifier is opened, the tables have the rows of the changed records
    pub open_put_keeps : (n : ℕ) → Fits (PutInbound birth n) r → PutsNumbered (second_layout making) 7 (open_row birth n) (is_keyed (pos birth) (pos n)) db next → KeepsRowsTwo making next (changed (PutInbound birth n) r)
    open_put_keeps n fits h =
        let f = with_open n in
        let up = keeps.ordered.sessions in
        let same : (s : Session) → (f s).birth ≡ s.birth = λ s. refl in
        part_keeps 7 (omega arith) (omega arith) (omega arith) h.others birth f same (λ s. refl) (λ s. refl)
        (wills_stay r birth f up same db next (λ s. refl) (will_same making 7 db next h.others (omega arith)) keeps.rows.wills)
        (subscriptions_stay r birth f up same db next (λ s. refl) (sub_same making 7 db next h.others (omega arith)) keeps.rows.subscriptions)
        (open_put db next r keeps.ordered keeps.rows.inbound birth n order.inbound fits h)
        (wills_said r birth f up same keeps.sayable (λ s. refl))
        (subscriptions_said r birth f up same keeps.sayable (λ s. refl))
        (ordered_after (PutInbound birth n) r keeps.ordered)

    -- after an identifier is closed, the tables have the rows of the changed records
    pub open_removal_keeps : (n : ℕ) → RemovesFrom (second_layout making) 7 (is_keyed (pos birth) (pos n)) db next → KeepsRowsTwo making next (changed (RemoveInbound birth n) r)
    open_removal_keeps n h =
        let f = without_open n in
        let up = keeps.ordered.sessions in
        let same : (s : Session) → (f s).birth ≡ s.birth = λ s. refl in
        part_keeps 7 (omega arith) (omega arith) (omega arith) h.others birth f same (λ s. refl) (λ s. refl)
        (wills_stay r birth f up same db next (λ s. refl) (will_same making 7 db next h.others (omega arith)) keeps.rows.wills)
        (subscriptions_stay r birth f up same db next (λ s. refl) (sub_same making 7 db next h.others (omega arith)) keeps.rows.subscriptions)
        (open_removed db next r keeps.ordered keeps.rows.inbound birth n h)
        (wills_said r birth f up same keeps.sayable (λ s. refl))
        (subscriptions_said r birth f up same keeps.sayable (λ s. refl))
        (ordered_after (RemoveInbound birth n) r keeps.ordered)

    -- ---- the order of the rows

    -- after a Will is put, the tables are in order
    pub will_put_order : (will : Will) → PutsInto (second_layout making) 4 (will_row birth (will_columns will)) (is_of 0 (pos birth)) db next → AreInOrderTwo making next
    will_put_order will h = order_put making 4 (pos birth) (will_row birth (will_columns will)) (is_of 0 (pos birth)) db next refl h order.will order

    -- after a Will is removed, they are
    pub will_removal_order : RemovesFrom (second_layout making) 4 (is_of 0 (pos birth)) db next → AreInOrderTwo making next
    will_removal_order h = order_removed making 4 (is_of 0 (pos birth)) db next h order.will order

    -- after a subscription is put, they are
    pub subscription_put_order : (put : Subscription) → PutsNumbered (second_layout making) 5 (subscription_row birth put.filter (subscription_columns put)) (is_subscription (pos birth) put.filter) db next → AreInOrderTwo making next
    subscription_put_order put h = order_put making 5 (next_rowid (db 5)) (numbered 5 (subscription_row birth put.filter (subscription_columns put)) db) (is_subscription (pos birth) put.filter) db next refl h order.sub order

    -- after a subscription is removed, they are
    pub subscription_removal_order : (text : List ℕ) → RemovesFrom (second_layout making) 5 (is_subscription (pos birth) text) db next → AreInOrderTwo making next
    subscription_removal_order text h = order_removed making 5 (is_subscription (pos birth) text) db next h order.sub order

    -- after an identifier is opened, they are
    pub open_put_order : (n : ℕ) → PutsNumbered (second_layout making) 7 (open_row birth n) (is_keyed (pos birth) (pos n)) db next → AreInOrderTwo making next
    open_put_order n h = order_put making 7 (next_rowid (db 7)) (numbered 7 (open_row birth n) db) (is_keyed (pos birth) (pos n)) db next refl h order.inbound order

    -- after an identifier is closed, they are
    pub open_removal_order : (n : ℕ) → RemovesFrom (second_layout making) 7 (is_keyed (pos birth) (pos n)) db next → AreInOrderTwo making next
    open_removal_order n h = order_removed making 7 (is_keyed (pos birth) (pos n)) db next h order.inbound order
