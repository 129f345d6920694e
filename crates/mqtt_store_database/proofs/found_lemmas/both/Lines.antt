-- What the row of an item shows, in each table.
use Rattle.std.proofs.Common.{◌≡◌, ℕ, pos, List, [], ◌∷◌, refl, ap, ◌∙◌, append-nil}
use Rattle.std.specs.Prelude.{Option, Some, None}
use Rattle.sqlite_value.specs.declared.value.Value.{Value}
use Rattle.sqlite_value.specs.declared.value.Value.TheVariants.{Int, Text, Blob}
use Rattle.sqlite_value.specs.Order.{Row}
use Rattle.sqlite_trees.specs.Tree.{Trees}
use Rattle.mqtt_base.specs.Service.{qos_number}
use Rattle.mqtt_base.specs.declared.session.Cause.{Cause}
use Rattle.mqtt_base.specs.declared.session.Cause.TheVariants.{Direct, Share, Retained as RetainedCause}
use Rattle.mqtt_base.specs.declared.session.Phase.{Phase}
use Rattle.mqtt_base.specs.declared.session.Phase.TheVariants.{Waiting, Sent, Released, Oversize}
use Rattle.mqtt_base.specs.declared.session.Qos.{Qos}
use Rattle.mqtt_props.specs.declared.place.Place.{Place}
use Rattle.mqtt_props.specs.Properties.{Prop, block}
use Rattle.mqtt_records.specs.declared.messages.message.RetainedMessage.{RetainedMessage}
use Rattle.mqtt_records.specs.declared.messages.message.Will.{Will as WillMessage}
use Rattle.mqtt_records.specs.messages.PassedOn.{sent_after}
use Rattle.mqtt_records.specs.messages.Queue.{CopyRow}
use Rattle.mqtt_records.specs.declared.state.session.Columns.{Columns}
use Rattle.mqtt_records.specs.declared.state.subscription.Subscription.{Subscription as SubscriptionItem}
use Rattle.mqtt_store_rows.specs.values.Values.{number_or_null as or_null}
use Rattle.mqtt_store_rows.specs.values.Blocks.{IsBlockOf, SaysSent}
use Rattle.mqtt_store_rows.specs.values.Rows.{SaysSession, SaysWill, SaysSubscription, SaysOpen, SaysCopy, SaysCause, SaysPhase}
use Rattle.mqtt_store_rows.specs.taking_over.Rows.{SaysRetained}
use Rattle.mqtt_store_tables.specs.declared.forms.schema.StoreTable.{StoreTable}
use Rattle.mqtt_store_tables.specs.declared.forms.schema.StoreTable.TheVariants.{Meta, Session, Will, Subscription, Inbound, Copy, Retained}
use Rattle.mqtt_store_tables.specs.statements.Columns.{flag, subscription_row}
use Rattle.mqtt_store_tables.specs.statements.Copy.{number_or_null, copy_row}
use Rattle.mqtt_store_tables.specs.statements.Numbers.{number_row}
use Rattle.mqtt_store_tables.specs.statements.Put.{open_row}
use Rattle.mqtt_store_database.specs.asking.Listing.{shown, tree_of}
use Rattle.mqtt_store_database.specs.item_laws.Items.{subscription_columns, cause_number, cause_text, cause_n, phase_number, packet_identifier, release_order, IsNumberRow, IsSessionRow, IsWillRow, IsSubscriptionRow, IsOpenRow}
use Rattle.mqtt_store_database.specs.taking_over.Items.{copy_columns, IsCopyRow, IsRetainedRow}
use Rattle.mqtt_store_database.specs.item_laws.Written.{AreWritten}
use Rattle.mqtt_store_database.proofs.found_lemmas.both.Sent.{says_sent}
use Rattle.mqtt_store_database.proofs.found_lemmas.both.Traverse.{SaysNamed, SaysOf}

-- ---- the lines

abbrev pub number_line : List ℕ × ℕ → Row
number_line x = number_row x.0 x.1

abbrev pub session_line : Columns → Row
session_line c = Int (pos c.birth) ∷ Text c.client ∷ Int (pos c.expiry) ∷ number_or_null c.closed ∷ []

abbrev pub will_line : ℕ × WillMessage → Row
will_line x =
    Int (pos x.0) ∷ Int (pos x.1.delay) ∷ Text x.1.topic ∷ Int (pos (qos_number x.1.qos)) ∷ flag x.1.retain ∷ Blob (block x.1.properties) ∷ Blob x.1.payload ∷ []

abbrev pub subscription_line : ℕ × SubscriptionItem → Row
subscription_line x = subscription_row x.0 x.1.filter (subscription_columns x.1)

abbrev pub open_line : ℕ × ℕ → Row
open_line x = open_row x.0 x.1

abbrev pub copy_line : ℕ × CopyRow → Row
copy_line x = copy_row x.0 x.1.place (copy_columns x.1)

abbrev pub retained_line : RetainedMessage → Row
retained_line m =
    Int (pos m.place) ∷ Text m.content.topic ∷ Text m.sender ∷ Int (pos m.publication) ∷ Int (pos (qos_number m.qos)) ∷ Blob (block m.content.properties) ∷ Blob m.content.payload
    ∷ Int (pos m.content.arrived) ∷ []

-- each item has a row that shows its line, and each row shows that of an item
abbrev pub AreLines : {X : Type 0} → (Row → Row) → (X → Row) → (X → Type 0) → List Row → Type 0
AreLines shows line Item rows = AreWritten (λ x row. shows row ≡ line x) Item rows

-- the same of a table
abbrev pub AreLined : {X : Type 0} → StoreTable → (X → Row) → (X → Type 0) → Trees → Type 0
AreLined table line Item db = AreLines (shown table) line Item (db (tree_of table))

-- ---- a row that is written from an item shows its line

-- a number's row shows its name and its value
pub number_shown : (x : List ℕ × ℕ) (row : Row) → IsNumberRow x row → shown Meta row ≡ number_line x
number_shown x row h = ap (shown Meta) h.1

-- a session's own row shows its columns
pub session_shown : (c : Columns) (row : Row) → IsSessionRow c row → shown Session row ≡ session_line c
session_shown c row h = rw (h.birth, h.client, h.expiry, h.closed) refl

-- a Will's row shows its birth and what the Will says
pub will_shown : (x : ℕ × WillMessage) (row : Row) → IsWillRow x row → shown Will row ≡ will_line x
will_shown x row h = ap (shown Will) h

-- a subscription's row shows its birth and what it says
pub subscription_shown : (x : ℕ × SubscriptionItem) (row : Row) → IsSubscriptionRow x row → shown Subscription row ≡ subscription_line x
subscription_shown x row h = ap (shown Subscription) h.1

-- an open identifier's row shows its birth and itself
pub open_shown : (x : ℕ × ℕ) (row : Row) → IsOpenRow x row → shown Inbound row ≡ open_line x
open_shown x row h = ap (shown Inbound) h.1

-- a copy's row shows its birth, its place and what the copy says
pub copy_shown : (x : ℕ × CopyRow) (row : Row) → IsCopyRow x row → shown Copy row ≡ copy_line x
copy_shown x row h = ap (shown Copy) h.1

-- a retained message's row shows its place and what it says
pub retained_shown : (m : RetainedMessage) (row : Row) → IsRetainedRow m row → shown Retained row ≡ retained_line m
retained_shown m row h = ap (shown Retained) h

-- ---- a row that says an item shows its line

-- two columns
pub two : (a b c d : Value) → a ≡ b → c ≡ d → ◌≡◌ {A = Row} (a ∷ c ∷ []) (b ∷ d ∷ [])
two a b c d p q = rw (p, q) refl

-- a column, and those behind it
pub more : (a b : Value) (r s : Row) → a ≡ b → r ≡ s → ◌≡◌ {A = Row} (a ∷ r) (b ∷ s)
more a b r s p q = rw (p, q) refl

null_same : (v : Value) (o : Option ℕ) → v ≡ or_null o → v ≡ number_or_null o
null_same v None h = h
null_same v (Some n) h = h

-- a column that has a block of properties is that block
pub block_is : (place : Place) (ps : List Prop) (v : Value) → IsBlockOf place ps v → v ≡ Blob (block ps)
block_is place ps v h = h.holds ∙ ap Blob (h.is.parts ∙ append-nil (block ps))

-- a row that says a number shows the line that is written of it
pub number_said : (x : List ℕ × ℕ) (row : Row) → SaysNamed x (shown Meta row) → shown Meta row ≡ number_line x
number_said x row h = two _ _ _ _ h.name h.value

-- a row that says a session's columns shows the line that is written of them
pub session_said : (c : Columns) (row : Row) → SaysSession c (shown Session row) → shown Session row ≡ session_line c
session_said c row h = more _ _ _ _ h.birth (more _ _ _ _ h.client (two _ _ _ _ h.expiry (null_same _ c.closed h.closed)))

-- a row that says a Will shows the line that is written of it
pub will_said : (x : ℕ × WillMessage) (row : Row) → SaysOf SaysWill x (shown Will row) → shown Will row ≡ will_line x
will_said x row h =
    let w = h.1 in
    more _ _ _ _ h.0 (more _ _ _ _ w.delay (more _ _ _ _ w.topic (more _ _ _ _ w.qos (more _ _ _ _ w.retain (two _ _ _ _ (block_is _ _ _ w.properties) w.payload)))))

-- a row that says a subscription shows the line that is written of it
pub subscription_said : (x : ℕ × SubscriptionItem) (row : Row) → SaysOf SaysSubscription x (shown Subscription row) → shown Subscription row ≡ subscription_line x
subscription_said x row h =
    let s = h.1 in
    let o = s.options in
    more _ _ _ _ h.0 (more _ _ _ _ s.text (more _ _ _ _ s.place (more _ _ _ _ o.qos (more _ _ _ _ o.no_local (more _ _ _ _ o.retain (two _ _ _ _ o.handling s.identifier))))))

-- a row that says an open identifier shows the line that is written of it
pub open_said : (x : ℕ × ℕ) (row : Row) → SaysOf SaysOpen x (shown Inbound row) → shown Inbound row ≡ open_line x
open_said x row h = two _ _ _ _ h.0 h.1.identifier

-- the three columns of a cause are what is written of it
pub cause_said : (cause : Cause) (a b c : Value) → SaysCause cause a b c → (a ≡ Int (pos (cause_number cause))) × (b ≡ Text (cause_text cause)) × (c ≡ Int (pos (cause_n cause)))
cause_said Direct a b c h = (h.0, h.1, h.2)
cause_said (Share group) a b c h = (h.0, h.1, h.2)
cause_said (RetainedCause subscribe) a b c h = (h.0, h.1, h.2)

-- the three columns of a phase are what is written of it
pub phase_said : (qos : Qos) (phase : Phase) (a b c : Value) → SaysPhase qos phase a b c → (a ≡ number_or_null (packet_identifier phase)) × (b ≡ Int (pos (phase_number phase))) × (c ≡ number_or_null (release_order phase))
phase_said qos Waiting a b c h = (h.0, h.1, h.2)
phase_said qos (Sent id) a b c h = (h.0, h.1, h.2)
phase_said qos (Released id order) a b c h = (h.0, h.1, h.2)
phase_said qos (Oversize id order) a b c h = (h.0, h.1, h.2)

sent_said : (ps : List Prop) (ids : List ℕ) (v : Value) → SaysSent ps ids v → v ≡ Blob (block (sent_after 0 ids ps))
sent_said ps ids v h = block_is _ h.all v h.block ∙ ap (λ (all : List Prop). Blob (block all)) (says_sent ps ids v h)

-- a row that says a copy shows the line that is written of it
pub copy_said : (x : ℕ × CopyRow) (row : Row) → SaysOf SaysCopy x (shown Copy row) → shown Copy row ≡ copy_line x
copy_said x row h =
    let it = h.1 in
    let message = it.message in
    let content = message.content in
    let cause = cause_said x.1.copy.id.cause _ _ _ message.id.cause in
    let phase = phase_said x.1.copy.qos x.1.phase _ _ _ it.phase in
    let sent = sent_said x.1.copy.content.properties x.1.copy.identifiers _ content.properties in
    more _ _ _ _ h.0 (more _ _ _ _ it.place (more _ _ _ _ message.id.publication
    (more _ _ _ _ cause.0 (more _ _ _ _ cause.1 (more _ _ _ _ cause.2
    (more _ _ _ _ phase.0 (more _ _ _ _ phase.1 (more _ _ _ _ phase.2
    (more _ _ _ _ content.topic (more _ _ _ _ message.qos (more _ _ _ _ message.retain (more _ _ _ _ sent (two _ _ _ _ content.payload content.arrived)))))))))))))

-- a row that says a retained message shows the line that is written of it
pub retained_said : (m : RetainedMessage) (row : Row) → SaysRetained m (shown Retained row) → shown Retained row ≡ retained_line m
retained_said m row h =
    let c = h.content in
    more _ _ _ _ h.place (more _ _ _ _ c.topic (more _ _ _ _ h.sender (more _ _ _ _ h.publication (more _ _ _ _ h.qos (more _ _ _ _ (block_is _ _ _ c.properties.block) (two _ _ _ _ c.payload c.arrived))))))
