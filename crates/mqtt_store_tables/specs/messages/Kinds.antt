-- Of what a change of the tables of schema 2 is.
use Rattle.mqtt_store_tables.specs.declared.messages.change.TableChange.{TableChange}
use Rattle.mqtt_store_tables.specs.declared.messages.change.TableChange.TheVariants.{SetNumber, PutSession, RemoveSession, PutWill, RemoveWill, PutSubscription, RemoveSubscription, PutOpen, RemoveOpen, PutCopy, SetCopy, RemoveCopy, PutRetained, RemoveRetained}

-- a number, a session's own row or its Will; a subscription or an open identifier; a copy; a session's end; a retained message
pub data ChangeKind : Type 0 where
  own : ChangeKind
  wish : ChangeKind
  queue : ChangeKind
  ending : ChangeKind
  retained : ChangeKind

abbrev pub kind_of : TableChange → ChangeKind
kind_of (SetNumber name value) = own
kind_of (PutSession birth session) = own
kind_of (RemoveSession birth) = ending
kind_of (PutWill birth will) = own
kind_of (RemoveWill birth) = own
kind_of (PutSubscription birth filter subscription) = wish
kind_of (RemoveSubscription birth filter) = wish
kind_of (PutOpen birth identifier) = wish
kind_of (RemoveOpen birth identifier) = wish
kind_of (PutCopy birth place message copy) = queue
kind_of (SetCopy birth place identifier phase order) = queue
kind_of (RemoveCopy birth place) = queue
kind_of (PutRetained place message kept) = retained
kind_of (RemoveRetained place) = retained
