-- What is kept of a session, and how a part of it changes (4.1).
use Rattle.std.specs.Prelude.{◌≡◌, refl, ℕ, codes, not, bytes_eq, List, [], filter, map, Option, Some, None, IsSomeAnd}
use Rattle.mqtt_base.specs.declared.session.Phase.{Phase}
use Rattle.mqtt_base.specs.declared.limits.TheConstants.{SUBSCRIPTION_LIMIT, OPEN_LIMIT, QUEUE_LIMIT}
use Rattle.mqtt_records.specs.messages.Content.{CopyContent}
use Rattle.mqtt_records.specs.declared.messages.message.Will.{Will}
use Rattle.mqtt_records.specs.messages.Filling.{filled_with, HasBytesOf}
use Rattle.mqtt_records.specs.messages.Queue.{CopyRow}
use Rattle.mqtt_records.specs.messages.Slim.{slim}
use Rattle.mqtt_records.specs.declared.state.subscription.Subscription.{Subscription}
use Rattle.mqtt_records.specs.declared.state.session.Session.{Session}
use Rattle.mqtt_records.specs.declared.state.session.Columns.{Columns}
use Rattle.mqtt_records.specs.declared.state.session.SessionPart.{SessionPart}
use Rattle.mqtt_records.specs.declared.state.session.SessionPart.TheVariants.{SetColumns, PutWill, RemoveWill, PutSubscription, RemoveSubscription, PutInbound, RemoveInbound, PutCopy, SetCopy, SlimCopy, RemoveCopy}
use Rattle.mqtt_records.specs.lists.Order.{row_at, put_row, remove_row, change_row}

-- ---- the keys of the lists

abbrev pub birth_of : Session → ℕ
birth_of session = session.birth

abbrev pub place_of : Subscription → ℕ
place_of subscription = subscription.place

abbrev pub number_of : ℕ → ℕ
number_of identifier = identifier

abbrev pub copy_place : CopyRow → ℕ
copy_place row = row.place

-- ---- a new session, and one with other columns

-- with its columns alone: no Will, no subscriptions, nothing open, nothing queued
abbrev pub fresh : Columns → Session
fresh row = record {
  birth = row.birth;
  client = row.client;
  expiry = row.expiry;
  closed = row.closed;
  will = None;
  subscriptions = [];
  inbound = [];
  queue = [];
}

abbrev pub columns_of : Session → Columns
columns_of session = record { birth = session.birth; client = session.client; expiry = session.expiry; closed = session.closed }

abbrev pub with_columns : Columns → Session → Session
with_columns row session = record session { client = row.client; expiry = row.expiry; closed = row.closed }

-- ---- its other rows

abbrev pub with_will : Option Will → Session → Session
with_will will session = record session { will = will }

-- the subscriptions without that to the filter
abbrev pub without_filter : List ℕ → List Subscription → List Subscription
without_filter text all = filter (λ subscription. not (bytes_eq subscription.filter text)) all

-- a subscription instead of one to the same filter, at its own place
abbrev pub put_subscription : Subscription → List Subscription → List Subscription
put_subscription subscription all = put_row place_of SUBSCRIPTION_LIMIT subscription (without_filter subscription.filter all)

abbrev pub with_subscription : Subscription → Session → Session
with_subscription subscription session = record session { subscriptions = put_subscription subscription session.subscriptions }

abbrev pub without_subscription : List ℕ → Session → Session
without_subscription text session = record session { subscriptions = without_filter text session.subscriptions }

abbrev pub with_open : ℕ → Session → Session
with_open identifier session = record session { inbound = put_row number_of OPEN_LIMIT identifier session.inbound }

abbrev pub without_open : ℕ → Session → Session
without_open identifier session = record session { inbound = remove_row number_of identifier session.inbound }

abbrev pub with_copy : CopyRow → Session → Session
with_copy row session = record session { queue = put_row copy_place QUEUE_LIMIT row session.queue }

abbrev pub in_phase : Phase → CopyRow → CopyRow
in_phase phase row = record row { phase = phase }

abbrev pub with_phase : ℕ → Phase → Session → Session
with_phase place phase session = record session { queue = change_row copy_place place (in_phase phase) session.queue }

-- the copy at a place says nothing but its topic
abbrev pub with_slim : ℕ → Session → Session
with_slim place session = record session { queue = change_row copy_place place slim session.queue }

-- no copy says anything but its topic
abbrev pub with_all_slim : Session → Session
with_all_slim session = record session { queue = map slim session.queue }

-- the copy at the place of what is told says that
abbrev pub with_filled : CopyContent → Session → Session
with_filled content session = record session { queue = change_row copy_place content.place (filled_with content) session.queue }

-- a copy stands there, of as many bytes
abbrev pub HasRowFor : CopyContent → Session → Type 0
HasRowFor content session = IsSomeAnd (row_at copy_place content.place session.queue) (λ e. HasBytesOf e.copy content)

abbrev pub without_copy : ℕ → Session → Session
without_copy place session = record session { queue = remove_row copy_place place session.queue }

-- a session after a change of a part
abbrev pub part_changed : SessionPart → Session → Session
part_changed (SetColumns row) = with_columns row
part_changed (PutWill will) = with_will (Some will)
part_changed RemoveWill = with_will None
part_changed (PutSubscription subscription) = with_subscription subscription
part_changed (RemoveSubscription text) = without_subscription text
part_changed (PutInbound identifier) = with_open identifier
part_changed (RemoveInbound identifier) = without_open identifier
part_changed (PutCopy row) = with_copy row
part_changed (SetCopy place phase) = with_phase place phase
part_changed (SlimCopy place) = with_slim place
part_changed (RemoveCopy place) = without_copy place

-- the birth stays
pub birth_of-part_changed : (part : SessionPart) (session : Session) → birth_of (part_changed part session) ≡ birth_of session
birth_of-part_changed (SetColumns row) session = refl
birth_of-part_changed (PutWill will) session = refl
birth_of-part_changed RemoveWill session = refl
birth_of-part_changed (PutSubscription subscription) session = refl
birth_of-part_changed (RemoveSubscription text) session = refl
birth_of-part_changed (PutInbound identifier) session = refl
birth_of-part_changed (RemoveInbound identifier) session = refl
birth_of-part_changed (PutCopy row) session = refl
birth_of-part_changed (SetCopy place phase) session = refl
birth_of-part_changed (SlimCopy place) session = refl
birth_of-part_changed (RemoveCopy place) session = refl

-- the front of the client identifiers that the broker assigns (ours)
abbrev pub auto : List ℕ
auto = codes "auto-"
