-- The rows that are written from the items of records (4.1).
use Rattle.std.specs.Prelude.{◌≡◌, ℕ, ℤ, pos, List, [], ◌∷◌, Option, Some, None}
use Rattle.sqlite_value.specs.declared.value.Value.TheVariants.{Int, Text}
use Rattle.sqlite_value.specs.Order.{Row, column}
use Rattle.mqtt_base.specs.Service.{qos_number}
use Rattle.mqtt_base.specs.declared.session.Cause.{Cause}
use Rattle.mqtt_base.specs.declared.session.Cause.TheVariants.{Direct, Share, Retained}
use Rattle.mqtt_base.specs.declared.session.Phase.{Phase}
use Rattle.mqtt_base.specs.declared.session.Phase.TheVariants.{Waiting, Sent, Released, Oversize}
use Rattle.mqtt_props.specs.Properties.{block}
use Rattle.mqtt_records.specs.declared.messages.message.Will.{Will}
use Rattle.mqtt_records.specs.declared.state.session.Columns.{Columns}
use Rattle.mqtt_records.specs.declared.state.subscription.Subscription.{Subscription}
use Rattle.mqtt_store_rows.specs.values.Values.{handling_number, or_zero}
use Rattle.mqtt_store_tables.specs.declared.statements.subscriptions.SubscriptionColumns.{SubscriptionColumns}
use Rattle.mqtt_store_tables.specs.statements.Columns.{SessionColumns, WillColumns, will_row, subscription_row}
use Rattle.mqtt_store_tables.specs.statements.Copy.{number_or_null}
use Rattle.mqtt_store_tables.specs.statements.Numbers.{number_row}
use Rattle.mqtt_store_tables.specs.statements.Put.{open_row}

-- ---- what stands behind a row's key

abbrev pub session_columns : Columns → SessionColumns
session_columns c = record { client = c.client; expiry = c.expiry; closed = c.closed }

-- the Will Properties as a block
abbrev pub will_columns : Will → WillColumns
will_columns w = record {
  delay = w.delay;
  topic = w.topic;
  qos = qos_number w.qos;
  retain = w.retain;
  props = block w.properties;
  payload = w.payload;
}

-- 0 for no Subscription Identifier
abbrev pub subscription_columns : Subscription → SubscriptionColumns
subscription_columns s = record {
  place = s.place;
  qos = qos_number s.options.qos;
  no_local = s.options.no_local;
  retain_as_published = s.options.retain_as_published;
  handling = handling_number s.options.retain_handling;
  identifier = or_zero s.identifier;
}

-- 0 direct, 1 share with NAME/FILTER, 2 retained with the number of the subscribe
abbrev pub cause_number : Cause → ℕ
cause_number Direct = 0
cause_number (Share group) = 1
cause_number (Retained subscribe) = 2

abbrev pub cause_text : Cause → List ℕ
cause_text Direct = []
cause_text (Share group) = group
cause_text (Retained subscribe) = []

abbrev pub cause_n : Cause → ℕ
cause_n Direct = 0
cause_n (Share group) = 0
cause_n (Retained subscribe) = subscribe

abbrev pub phase_number : Phase → ℕ
phase_number Waiting = 0
phase_number (Sent identifier) = 1
phase_number (Released identifier order) = 2
phase_number (Oversize identifier order) = 3

-- none while it waits
abbrev pub packet_identifier : Phase → Option ℕ
packet_identifier Waiting = None
packet_identifier (Sent identifier) = Some identifier
packet_identifier (Released identifier order) = Some identifier
packet_identifier (Oversize identifier order) = Some identifier

-- none before it is released
abbrev pub release_order : Phase → Option ℕ
release_order Waiting = None
release_order (Sent identifier) = None
release_order (Released identifier order) = Some order
release_order (Oversize identifier order) = Some order

-- ---- which rows are written from an item; of what a session has, its birth is the first part of the item

-- a name and its number, behind the number that the table gives the row
abbrev pub IsNumberRow : List ℕ × ℕ → Row → Type 0
IsNumberRow x row = (id : ℤ) × (row ≡ Int id ∷ number_row x.0 x.1)

-- by what the row shows: a last column that isn't there is NULL
pub record IsSessionRow (c : Columns) (row : Row) : Type 0 where
  pub birth : column row 0 ≡ Int (pos c.birth)
  pub client : column row 2 ≡ Text c.client
  pub expiry : column row 3 ≡ Int (pos c.expiry)
  pub closed : column row 4 ≡ number_or_null c.closed

abbrev pub IsWillRow : ℕ × Will → Row → Type 0
IsWillRow x row = row ≡ will_row x.0 (will_columns x.1)

abbrev pub IsSubscriptionRow : ℕ × Subscription → Row → Type 0
IsSubscriptionRow x row = (id : ℤ) × (row ≡ Int id ∷ subscription_row x.0 x.1.filter (subscription_columns x.1))

abbrev pub IsOpenRow : ℕ × ℕ → Row → Type 0
IsOpenRow x row = (id : ℤ) × (row ≡ Int id ∷ open_row x.0 x.1)
