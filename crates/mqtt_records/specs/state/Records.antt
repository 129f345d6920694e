-- All that is kept, what a change makes of it, and which changes fit (4.1).
use Rattle.std.specs.Prelude.{◌≡◌, ℕ, ◌<◌, ◌≤◌, true, cond, List, [], ◌∷◌, length, Option, Some, None, option_and_then}
use Rattle.std.specs.List.{All}
use Rattle.mqtt_base.specs.declared.limits.TheConstants.{SUBSCRIPTION_LIMIT, OPEN_LIMIT, QUEUE_LIMIT, SESSION_LIMIT, RETAINED_LIMIT, LAST_NUMBER}
use Rattle.mqtt_base.specs.declared.session.Cause.{Cause}
use Rattle.mqtt_base.specs.declared.session.Cause.TheVariants.{Direct, Share, Retained}
use Rattle.mqtt_base.specs.Phases.{order_of}
use Rattle.mqtt_records.specs.messages.Queue.{CopyRow}
use Rattle.mqtt_records.specs.declared.messages.message.RetainedMessage.{RetainedMessage}
use Rattle.mqtt_records.specs.declared.state.subscription.Subscription.{Subscription}
use Rattle.mqtt_records.specs.declared.state.session.Session.{Session}
use Rattle.mqtt_records.specs.declared.state.session.Columns.{Columns}
use Rattle.mqtt_records.specs.declared.state.records.Records.{Records}
use Rattle.mqtt_records.specs.declared.state.change.Counter.{Counter}
use Rattle.mqtt_records.specs.declared.state.change.Counter.TheVariants.{Births, Publications, Subscribes, Autos, Moment}
use Rattle.mqtt_records.specs.declared.state.change.Change.{Change}
use Rattle.mqtt_records.specs.declared.state.change.Change.TheVariants.{SetCounter, PutSession, SetSession, RemoveSession, PutWill, RemoveWill, PutSubscription, RemoveSubscription, PutInbound, RemoveInbound, PutCopy, SetCopy, RemoveCopy, PutRetained, RemoveRetained}
use Rattle.mqtt_records.specs.lists.Order.{HasRoomFor, row_at, has_row, put_row, remove_row, change_row}
use Rattle.mqtt_records.specs.state.Session.{birth_of, place_of, number_of, copy_place, fresh, with_columns, with_will, without_filter, with_subscription, without_subscription, with_open, without_open, with_copy, with_phase, without_copy}

abbrev pub kept_place : RetainedMessage → ℕ
kept_place kept = kept.place

-- before the first session
abbrev pub nothing : Records
nothing = record { births = 0; publications = 0; subscribes = 0; autos = 0; moment = 0; sessions = []; retained = [] }

-- ---- a change

abbrev pub with_counter : Counter → ℕ → Records → Records
with_counter Births value r = record r { births = value }
with_counter Publications value r = record r { publications = value }
with_counter Subscribes value r = record r { subscribes = value }
with_counter Autos value r = record r { autos = value }
with_counter Moment value r = record r { moment = value }

-- a session's own row, put by its birth: a session that stands keeps its other rows, and a new one
-- has none
abbrev pub put_session : Columns → List Session → List Session
put_session row sessions =
    cond (has_row birth_of row.birth sessions)
    (change_row birth_of row.birth (with_columns row) sessions)
    (put_row birth_of SESSION_LIMIT (fresh row) sessions)

-- the session with that birth changed
abbrev pub in_session : ℕ → (Session → Session) → Records → Records
in_session birth f r = record r { sessions = change_row birth_of birth f r.sessions }

abbrev pub changed : Change → Records → Records
changed (SetCounter counter value) r = with_counter counter value r
changed (PutSession row) r = record r { sessions = put_session row r.sessions }
changed (SetSession row) r = in_session row.birth (with_columns row) r
changed (RemoveSession birth) r = record r { sessions = remove_row birth_of birth r.sessions }
changed (PutWill birth will) r = in_session birth (with_will (Some will)) r
changed (RemoveWill birth) r = in_session birth (with_will None) r
changed (PutSubscription birth subscription) r = in_session birth (with_subscription subscription) r
changed (RemoveSubscription birth text) r = in_session birth (without_subscription text) r
changed (PutInbound birth identifier) r = in_session birth (with_open identifier) r
changed (RemoveInbound birth identifier) r = in_session birth (without_open identifier) r
changed (PutCopy birth row) r = in_session birth (with_copy row) r
changed (SetCopy birth place phase) r = in_session birth (with_phase place phase) r
changed (RemoveCopy birth place) r = in_session birth (without_copy place) r
changed (PutRetained kept) r = record r { retained = put_row kept_place RETAINED_LIMIT kept r.retained }
changed (RemoveRetained place) r = record r { retained = remove_row kept_place place r.retained }

-- the copy at a place of a session's queue
abbrev pub copy_at : ℕ → ℕ → Records → Option CopyRow
copy_at birth place r =
    option_and_then (λ session. row_at copy_place place session.queue) (row_at birth_of birth r.sessions)

-- one after the other
abbrev pub changed_all : List Change → Records → Records
changed_all [] r = r
changed_all (change ∷ changes) r = changed_all changes (changed change r)

-- ---- which changes fit

abbrev pub counter_of : Counter → Records → ℕ
counter_of Births r = r.births
counter_of Publications r = r.publications
counter_of Subscribes r = r.subscribes
counter_of Autos r = r.autos
counter_of Moment r = r.moment

-- there is one, and it has P
abbrev pub HasSome : {X : Type 0} → Option X → (X → Type 0) → Type 0
HasSome None P = ⊥
HasSome (Some x) P = P x

-- the session stands, and has P
abbrev pub HasSession : ℕ → (Session → Type 0) → Records → Type 0
HasSession birth P r = HasSome (row_at birth_of birth r.sessions) P

-- beside the subscriptions to other filters there is room, and the place is free
abbrev pub TakesSubscription : Subscription → List Subscription → Type 0
TakesSubscription subscription others =
    (row_at place_of subscription.place others ≡ None) × (length others < SUBSCRIPTION_LIMIT)

-- a number, a place, an order of release or a moment that is kept (ours)
abbrev pub IsNumber : ℕ → Type 0
IsNumber n = n ≤ LAST_NUMBER

-- the moment of a close, if there is one
abbrev pub IsMoment : Option ℕ → Type 0
IsMoment None = Unit {0}
IsMoment (Some moment) = IsNumber moment

-- the subscribe for which a copy of a retained message is sent; 0 for other copies
abbrev pub subscribe_in : Cause → ℕ
subscribe_in Direct = 0
subscribe_in (Share group) = 0
subscribe_in (Retained subscribe) = subscribe

-- what is kept of a copy: the session of its identity is the one in whose queue it stands
pub record FitsCopy (birth : ℕ) (row : CopyRow) : Type 0 where
  pub session : row.copy.id.birth ≡ birth
  pub place : IsNumber row.place
  pub publication : IsNumber row.copy.id.publication
  pub subscribe : IsNumber (subscribe_in row.copy.id.cause)
  pub arrived : IsNumber row.copy.content.arrived
  pub order : IsNumber (order_of row.phase)

pub record FitsRetained (kept : RetainedMessage) : Type 0 where
  pub place : IsNumber kept.place
  pub publication : IsNumber kept.publication
  pub arrived : IsNumber kept.content.arrived

-- no number falls, no list outgrows its limit, what a row refers to stands, no two rows have the same
-- client identifier, place of a subscription or retained topic, and numbers and moments are such as are
-- kept
abbrev pub Fits : Change → Records → Type 0
Fits (SetCounter counter value) r = (counter_of counter r ≤ value) × IsNumber value
Fits (PutSession row) r =
    HasRoomFor birth_of SESSION_LIMIT row.birth r.sessions
    × All (λ session. session.client ≡ row.client → session.birth ≡ row.birth) r.sessions
    × IsNumber row.birth
    × IsMoment row.closed
Fits (SetSession row) r =
    HasSession row.birth (λ session. session.client ≡ row.client) r × IsMoment row.closed
Fits (RemoveSession birth) r = Unit {0}
Fits (PutWill birth will) r = HasSession birth (λ session. Unit {0}) r
Fits (RemoveWill birth) r = Unit {0}
Fits (PutSubscription birth subscription) r = HasSession birth
    (λ session. TakesSubscription subscription (without_filter subscription.filter session.subscriptions)) r
    × IsNumber subscription.place
Fits (RemoveSubscription birth text) r = Unit {0}
Fits (PutInbound birth identifier) r = HasSession birth
    (λ session. HasRoomFor number_of OPEN_LIMIT identifier session.inbound) r
Fits (RemoveInbound birth identifier) r = Unit {0}
Fits (PutCopy birth row) r = HasSession birth
    (λ session. HasRoomFor copy_place QUEUE_LIMIT row.place session.queue) r
    × FitsCopy birth row
Fits (SetCopy birth place phase) r = HasSession birth
    (λ session. has_row copy_place place session.queue ≡ true) r
    × IsNumber (order_of phase)
Fits (RemoveCopy birth place) r = Unit {0}
Fits (PutRetained kept) r =
    HasRoomFor kept_place RETAINED_LIMIT kept.place r.retained
    × All (λ other. other.content.topic ≡ kept.content.topic → other.place ≡ kept.place) r.retained
    × FitsRetained kept
Fits (RemoveRetained place) r = Unit {0}

-- each change fits what the ones before it leave
abbrev pub FitAll : List Change → Records → Type 0
FitAll [] r = Unit {0}
FitAll (change ∷ changes) r = Fits change r × FitAll changes (changed change r)
