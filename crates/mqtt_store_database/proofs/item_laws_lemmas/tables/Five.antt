-- The tables with which each schema begins, after a statement on one of them, whatever stands behind.
use Rattle.std.proofs.Common.{◌≡◌, ◌≢◌, ◌⊎◌, ℕ, pos, false, bytes_eq, List, [], refl, sym, ap, subst}
use Rattle.sqlite_value.specs.declared.value.Value.TheVariants.{Int, Text}
use Rattle.sqlite_value.specs.Order.{Row, column}
use Rattle.sqlite_trees.specs.Tree.{Trees}
use Rattle.sqlite_rules.specs.Edit.{next_rowid}
use Rattle.mqtt_records.specs.declared.messages.message.Will.{Will}
use Rattle.mqtt_records.specs.declared.state.session.Columns.{Columns}
use Rattle.mqtt_records.specs.declared.state.subscription.Subscription.{Subscription}
use Rattle.mqtt_records.specs.declared.state.records.Records.{Records}
use Rattle.mqtt_records.specs.declared.state.change.Change.TheVariants.{PutWill, RemoveWill, PutSubscription, RemoveSubscription, PutInbound, RemoveInbound}
use Rattle.mqtt_records.specs.state.Records.{changed, Fits}
use Rattle.mqtt_store_database.specs.item_laws.Members.{HasColumns, AllOrdered}
use Rattle.mqtt_store_database.proofs.item_laws_lemmas.records.Lists.{will_new, will_old, will_out_new, will_out_old, subscription_new, subscription_old, subscription_out_new, subscription_out_old, open_new, open_old, open_out_new, open_out_old}
use Rattle.mqtt_store_tables.specs.statements.Layout.{Layout}
use Rattle.mqtt_store_tables.specs.statements.Columns.{session_row, will_row, subscription_row}
use Rattle.mqtt_store_tables.specs.statements.Content.{is_of, IsShapedAt}
use Rattle.mqtt_store_tables.specs.statements.Put.{PutsInto, numbered, open_row}
use Rattle.mqtt_store_tables.specs.statements.Removal.{RemovesFrom, is_keyed, is_subscription}
use Rattle.mqtt_store_tables.proofs.statements_lemmas.steps.Stands.{key_free, given_free}
use Rattle.mqtt_store_database.specs.item_laws.Items.{IsSessionRow, IsWillRow, IsSubscriptionRow, IsOpenRow, session_columns, will_columns, subscription_columns}
use Rattle.mqtt_store_database.specs.item_laws.Written.{AreWritten, IsWillOf, IsSubscriptionOf, IsOpenOf}
use Rattle.mqtt_store_database.proofs.item_laws_lemmas.tables.Keys.{missed_number, other_number, missed_key, other_key, missed_filter, other_filter}
use Rattle.mqtt_store_database.proofs.item_laws_lemmas.tables.Tables.{without_rows, with_row}

-- ---- sessions' own rows

module _ {l : Layout} (db next : Trees) (r : Records) (written : AreWritten IsSessionRow (HasColumns r) (db 2)) (shaped : IsShapedAt db 2) (row : Columns)
    (h : PutsInto l 2 (session_row row.birth (session_columns row)) (is_of 0 (pos row.birth)) db next) where
  abbrev put : Row
  put = session_row row.birth (session_columns row)

  abbrev New : Columns → Type 0
  New c = c ≡ row

  abbrev Other : Columns → Type 0
  Other c = c.birth ≢ row.birth

  says : (c : Columns) → New c → IsSessionRow c put
  says c new = subst (λ (z : Columns). IsSessionRow z put) (sym new) (record { birth = refl; client = refl; expiry = refl; closed = refl })

  -- after a session's own row is put, the table is written if the own rows are those that were, but for this one
  pub session_put : (Next : Columns → Type 0) → ((c : Columns) → Next c → New c ⊎ (HasColumns r c × Other c)) → ((c : Columns) → New c ⊎ (HasColumns r c × Other c) → Next c) → AreWritten IsSessionRow Next (next 2)
  session_put Next to back = with_row IsSessionRow (HasColumns r) Next Other (is_of 0 (pos row.birth)) (db 2)
      (λ c row_c item there is missed. missed_number 0 c.birth row.birth row_c is.birth missed)
      (λ c row_c item there is other. other_number 0 c.birth row.birth row_c is.birth other)
      written New 2 put db next refl h
      (key_free 2 (pos row.birth) [] (is_of 0 (pos row.birth)) db shaped (λ row_c missed. missed))
      (row, refl) says to back

-- ---- Wills

-- a Will's row has the birth of its session as its number
pub will_birth : (x : ℕ × Will) (row : Row) → IsWillRow x row → column row 0 ≡ Int (pos x.0)
will_birth x row is = ap (λ (r : Row). column r 0) is

module _ {l : Layout} (db next : Trees) (r : Records) (ordered : AllOrdered r) (written : AreWritten IsWillRow (IsWillOf r) (db 4)) (birth : ℕ) where
  -- after a Will is put, the table has its row and the rows of the other sessions'
  pub will_put : IsShapedAt db 4 → (will : Will) → Fits (PutWill birth will) r → PutsInto l 4 (will_row birth (will_columns will)) (is_of 0 (pos birth)) db next
      → AreWritten IsWillRow (IsWillOf (changed (PutWill birth will) r)) (next 4)
  will_put shaped will fits h = with_row IsWillRow (IsWillOf r) (IsWillOf (changed (PutWill birth will) r)) (λ x. x.0 ≢ birth) (is_of 0 (pos birth)) (db 4)
      (λ x row item there is missed. missed_number 0 x.0 birth row (will_birth x row is) missed)
      (λ x row item there is other. other_number 0 x.0 birth row (will_birth x row is) other)
      written
      (λ x. (x.0 ≡ birth) × (x.1 ≡ will)) 4 (will_row birth (will_columns will)) db next refl h
      (key_free 4 (pos birth) [] (is_of 0 (pos birth)) db shaped (λ row e. e))
      ((birth, will), (refl, refl))
      (λ x new. rw (new.0, new.1) refl)
      (λ x n. will_new r ordered birth will x.0 x.1 n)
      (λ x it. will_old r ordered birth will fits x.0 x.1 it)

  -- after a Will is removed, the table has the rows of the other sessions'
  pub will_removed : RemovesFrom l 4 (is_of 0 (pos birth)) db next → AreWritten IsWillRow (IsWillOf (changed (RemoveWill birth) r)) (next 4)
  will_removed h = without_rows IsWillRow (IsWillOf r) (IsWillOf (changed (RemoveWill birth) r)) (λ x. x.0 ≢ birth) (is_of 0 (pos birth)) (db 4)
      (λ x row item there is missed. missed_number 0 x.0 birth row (will_birth x row is) missed)
      (λ x row item there is other. other_number 0 x.0 birth row (will_birth x row is) other)
      written (next 4) h.rows
      (λ x n. will_out_new r ordered birth x.0 x.1 n)
      (λ x it. will_out_old r ordered birth x.0 x.1 it)

-- ---- subscriptions

sub_birth : (x : ℕ × Subscription) (row : Row) → IsSubscriptionRow x row → column row 1 ≡ Int (pos x.0)
sub_birth x row is = ap (λ (r : Row). column r 1) is.1

sub_filter : (x : ℕ × Subscription) (row : Row) → IsSubscriptionRow x row → column row 2 ≡ Text x.1.filter
sub_filter x row is = ap (λ (r : Row). column r 2) is.1

module _ (birth : ℕ) (text : List ℕ) where
  abbrev OtherFilter : ℕ × Subscription → Type 0
  OtherFilter x = x.0 ≡ birth → bytes_eq x.1.filter text ≡ false

  filter_out : (x : ℕ × Subscription) (row : Row) → IsSubscriptionRow x row → is_subscription (pos birth) text row ≡ false → OtherFilter x
  filter_out x row is missed = missed_filter x.0 birth x.1.filter text row (sub_birth x row is) (sub_filter x row is) missed

  filter_stays : (x : ℕ × Subscription) (row : Row) → IsSubscriptionRow x row → OtherFilter x → is_subscription (pos birth) text row ≡ false
  filter_stays x row is other = other_filter x.0 birth x.1.filter text row (sub_birth x row is) (sub_filter x row is) other

module _ {l : Layout} (db next : Trees) (r : Records) (ordered : AllOrdered r) (written : AreWritten IsSubscriptionRow (IsSubscriptionOf r) (db 5)) (birth : ℕ) where
  -- after a subscription is put, the table has its row and the rows of the others
  pub subscription_put : IsShapedAt db 5 → (put : Subscription) → Fits (PutSubscription birth put) r
      → PutsInto l 5 (numbered 5 (subscription_row birth put.filter (subscription_columns put)) db) (is_subscription (pos birth) put.filter) db next
      → AreWritten IsSubscriptionRow (IsSubscriptionOf (changed (PutSubscription birth put) r)) (next 5)
  subscription_put shaped put fits h = with_row IsSubscriptionRow (IsSubscriptionOf r) (IsSubscriptionOf (changed (PutSubscription birth put) r)) (OtherFilter birth put.filter) (is_subscription (pos birth) put.filter) (db 5)
      (λ x row item there is missed. filter_out birth put.filter x row is missed)
      (λ x row item there is other. filter_stays birth put.filter x row is other)
      written
      (λ x. (x.0 ≡ birth) × (x.1 ≡ put)) 5 (numbered 5 (subscription_row birth put.filter (subscription_columns put)) db) db next refl h
      (given_free 5 (subscription_row birth put.filter (subscription_columns put)) (is_subscription (pos birth) put.filter) db shaped)
      ((birth, put), (refl, refl))
      (λ x new. (next_rowid (db 5), rw (new.0, new.1) refl))
      (λ x n. subscription_new r ordered birth put fits x.0 x.1 n)
      (λ x it. subscription_old r ordered birth put fits x.0 x.1 it)

  -- after a subscription is removed, the table has the rows of the others
  pub subscription_removed : (text : List ℕ) → RemovesFrom l 5 (is_subscription (pos birth) text) db next → AreWritten IsSubscriptionRow (IsSubscriptionOf (changed (RemoveSubscription birth text) r)) (next 5)
  subscription_removed text h = without_rows IsSubscriptionRow (IsSubscriptionOf r) (IsSubscriptionOf (changed (RemoveSubscription birth text) r)) (OtherFilter birth text) (is_subscription (pos birth) text) (db 5)
      (λ x row item there is missed. filter_out birth text x row is missed)
      (λ x row item there is other. filter_stays birth text x row is other)
      written (next 5) h.rows
      (λ x n. subscription_out_new r ordered birth text x.0 x.1 n)
      (λ x it. subscription_out_old r ordered birth text x.0 x.1 it)

-- ---- open identifiers

open_birth : (x : ℕ × ℕ) (row : Row) → IsOpenRow x row → column row 1 ≡ Int (pos x.0)
open_birth x row is = ap (λ (r : Row). column r 1) is.1

open_number : (x : ℕ × ℕ) (row : Row) → IsOpenRow x row → column row 2 ≡ Int (pos x.1)
open_number x row is = ap (λ (r : Row). column r 2) is.1

module _ (birth n : ℕ) where
  abbrev OtherOpen : ℕ × ℕ → Type 0
  OtherOpen x = x.0 ≡ birth → x.1 ≢ n

  open_out : (x : ℕ × ℕ) (row : Row) → IsOpenRow x row → is_keyed (pos birth) (pos n) row ≡ false → OtherOpen x
  open_out x row is missed = missed_key x.0 x.1 birth n row (open_birth x row is) (open_number x row is) missed

  open_stays : (x : ℕ × ℕ) (row : Row) → IsOpenRow x row → OtherOpen x → is_keyed (pos birth) (pos n) row ≡ false
  open_stays x row is other = other_key x.0 x.1 birth n row (open_birth x row is) (open_number x row is) other

module _ {l : Layout} (db next : Trees) (r : Records) (ordered : AllOrdered r) (written : AreWritten IsOpenRow (IsOpenOf r) (db 7)) (birth n : ℕ) where
  -- after an identifier is opened, the table has its row and the rows of the others
  pub open_put : IsShapedAt db 7 → Fits (PutInbound birth n) r → PutsInto l 7 (numbered 7 (open_row birth n) db) (is_keyed (pos birth) (pos n)) db next
      → AreWritten IsOpenRow (IsOpenOf (changed (PutInbound birth n) r)) (next 7)
  open_put shaped fits h = with_row IsOpenRow (IsOpenOf r) (IsOpenOf (changed (PutInbound birth n) r)) (OtherOpen birth n) (is_keyed (pos birth) (pos n)) (db 7)
      (λ x row item there is missed. open_out birth n x row is missed)
      (λ x row item there is other. open_stays birth n x row is other)
      written
      (λ x. (x.0 ≡ birth) × (x.1 ≡ n)) 7 (numbered 7 (open_row birth n) db) db next refl h
      (given_free 7 (open_row birth n) (is_keyed (pos birth) (pos n)) db shaped)
      ((birth, n), (refl, refl))
      (λ x new. (next_rowid (db 7), rw (new.0, new.1) refl))
      (λ x after. open_new r ordered birth n fits x.0 x.1 after)
      (λ x it. open_old r ordered birth n fits x.0 x.1 it)

  -- after an identifier is closed, the table has the rows of the others
  pub open_removed : RemovesFrom l 7 (is_keyed (pos birth) (pos n)) db next → AreWritten IsOpenRow (IsOpenOf (changed (RemoveInbound birth n) r)) (next 7)
  open_removed h = without_rows IsOpenRow (IsOpenOf r) (IsOpenOf (changed (RemoveInbound birth n) r)) (OtherOpen birth n) (is_keyed (pos birth) (pos n)) (db 7)
      (λ x row item there is missed. open_out birth n x row is missed)
      (λ x row item there is other. open_stays birth n x row is other)
      written (next 7) h.rows
      (λ x after. open_out_new r ordered birth n x.0 x.1 after)
      (λ x it. open_out_old r ordered birth n x.0 x.1 it)
