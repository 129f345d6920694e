-- Which change of the tables of schema 2 is that of a change of records (4.1).
use Rattle.std.specs.Prelude.{◌≡◌, ℕ, List, [], ◌∷◌}
use Rattle.mqtt_records.specs.declared.state.change.Change.{Change}
use Rattle.mqtt_records.specs.declared.state.change.Change.TheVariants as change
use Rattle.mqtt_records.specs.declared.state.subscription.Subscription.{Subscription}
use Rattle.mqtt_records.specs.state.Contents.{copy_message, retained_message}
use Rattle.mqtt_store_tables.specs.declared.messages.change.TableChange.{TableChange}
use Rattle.mqtt_store_tables.specs.declared.messages.change.TableChange.TheVariants.{SetNumber, PutSession, RemoveSession, PutWill, RemoveWill, PutSubscription, RemoveSubscription, PutOpen, RemoveOpen, PutCopy, SetCopy, RemoveCopy, PutRetained, RemoveRetained}
use Rattle.mqtt_store_database.specs.item_laws.Items.{session_columns, will_columns, subscription_columns, packet_identifier, phase_number, release_order}
use Rattle.mqtt_store_database.specs.item_laws.Counters.{counter_name}
use Rattle.mqtt_store_database.specs.row_laws.Items.{message_columns, queued_columns, kept_columns}

-- those that name something by a text
abbrev pub IsNumberChange : List ℕ → ℕ → TableChange → Type 0
IsNumberChange name n (SetNumber text value) = (text.now ≡ name) × (value ≡ n)
IsNumberChange name n _ = ⊥

abbrev pub IsSubscriptionChange : ℕ → Subscription → TableChange → Type 0
IsSubscriptionChange birth s (PutSubscription b text subscription) =
    (b ≡ birth) × (text.now ≡ s.filter) × (subscription ≡ subscription_columns s)
IsSubscriptionChange birth s _ = ⊥

abbrev pub IsSubscriptionRemoval : ℕ → List ℕ → TableChange → Type 0
IsSubscriptionRemoval birth name (RemoveSubscription b text) = (b ≡ birth) × (text.now ≡ name)
IsSubscriptionRemoval birth name _ = ⊥

-- copies and retained messages with what their messages say; a session's own row is put, be the session new or not: its other rows stay
abbrev pub IsTableChangeFor : Change → TableChange → Type 0
IsTableChangeFor (change.SetCounter counter value) it = IsNumberChange (counter_name counter) value it
IsTableChangeFor (change.PutSession row) it = it ≡ PutSession row.birth (session_columns row)
IsTableChangeFor (change.SetSession row) it = it ≡ PutSession row.birth (session_columns row)
IsTableChangeFor (change.RemoveSession birth) it = it ≡ RemoveSession birth
IsTableChangeFor (change.PutWill birth will) it = it ≡ PutWill birth (will_columns will)
IsTableChangeFor (change.RemoveWill birth) it = it ≡ RemoveWill birth
IsTableChangeFor (change.PutSubscription birth subscription) it = IsSubscriptionChange birth subscription it
IsTableChangeFor (change.RemoveSubscription birth text) it = IsSubscriptionRemoval birth text it
IsTableChangeFor (change.PutInbound birth identifier) it = it ≡ PutOpen birth identifier
IsTableChangeFor (change.RemoveInbound birth identifier) it = it ≡ RemoveOpen birth identifier
IsTableChangeFor (change.PutCopy birth row) it = it ≡ PutCopy birth row.place (message_columns (copy_message row)) (queued_columns row)
IsTableChangeFor (change.SetCopy birth place phase) it = it ≡ SetCopy birth place (packet_identifier phase) (phase_number phase) (release_order phase)
IsTableChangeFor (change.RemoveCopy birth place) it = it ≡ RemoveCopy birth place
IsTableChangeFor (change.PutRetained kept) it = it ≡ PutRetained kept.place (message_columns (retained_message kept)) (kept_columns kept)
IsTableChangeFor (change.RemoveRetained place) it = it ≡ RemoveRetained place

-- one for each, in order
abbrev pub AreTableChangesFor : List Change → List TableChange → Type 0
AreTableChangesFor [] [] = Unit {0}
AreTableChangesFor [] (it ∷ more) = ⊥
AreTableChangesFor (change ∷ changes) [] = ⊥
AreTableChangesFor (change ∷ changes) (it ∷ more) = IsTableChangeFor change it × AreTableChangesFor changes more
