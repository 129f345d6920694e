-- What a row of each table says, its range included (4.1).
use Rattle.std.specs.Prelude.{◌≡◌, ◌≢◌, ℕ, ◌<◌, ◌≤◌, ◌^◌, List, [], ◌∷◌, length, codes}
use Rattle.sqlite_value.specs.declared.value.Value.{Value}
use Rattle.sqlite_value.specs.declared.value.Value.TheVariants.{Null, Text, Blob}
use Rattle.sqlite_value.specs.Order.{Row, column}
use Rattle.mqtt_base.specs.Values.{FitsText}
use Rattle.mqtt_base.specs.Service.{qos_number}
use Rattle.mqtt_base.specs.declared.limits.TheConstants.{CLIENT_LIMIT}
use Rattle.mqtt_base.specs.declared.session.Phase.{Phase}
use Rattle.mqtt_base.specs.declared.session.Phase.TheVariants.{Waiting, Sent, Released, Oversize}
use Rattle.mqtt_base.specs.declared.session.Cause.{Cause}
use Rattle.mqtt_base.specs.declared.session.Cause.TheVariants.{Direct, Share, Retained}
use Rattle.mqtt_base.specs.declared.session.CopyId.{CopyId}
use Rattle.mqtt_base.specs.declared.session.Qos.{Qos}
use Rattle.mqtt_base.specs.declared.session.Qos.TheVariants.{AtMostOnce, ExactlyOnce}
use Rattle.mqtt_base.specs.declared.session.SubscriptionOptions.{SubscriptionOptions}
use Rattle.mqtt_props.specs.declared.place.Place.TheVariants as places
use Rattle.mqtt_records.specs.declared.messages.message.Content.{Content}
use Rattle.mqtt_records.specs.declared.messages.message.MessageCopy.{MessageCopy}
use Rattle.mqtt_records.specs.declared.messages.message.Will.{Will}
use Rattle.mqtt_records.specs.messages.Queue.{CopyRow, IsSpelled}
use Rattle.mqtt_records.specs.declared.state.subscription.Subscription.{Subscription}
use Rattle.mqtt_records.specs.declared.state.session.Columns.{Columns}
use Rattle.mqtt_records.specs.state.Records.{IsNumber, IsMoment}
use Rattle.mqtt_store_rows.specs.declared.values.meta.Counters.{Counters}
use Rattle.mqtt_store_rows.specs.values.Values.{number, number_or_null, flag, handling_number, or_zero, IsCounted, IsPacketIdentifier, IsIdentifier, IsShort}
use Rattle.mqtt_store_rows.specs.values.Blocks.{IsBlockOf, SaysSent}

-- ---- meta: name, n

pub record SaysNumber (text : List ℕ) (n : ℕ) (row : Row) : Type 0 where
  pub name : column row 0 ≡ Text text
  pub value : column row 1 ≡ number n
  pub range : IsNumber n

-- six rows by name, and nothing else, of a store of that schema
abbrev pub SaysNumbers : ℕ → Counters → List Row → Type 0
SaysNumbers schema all (autos ∷ births ∷ moment ∷ publications ∷ named ∷ subscribes ∷ []) =
    SaysNumber (codes "autos") all.autos autos × SaysNumber (codes "births") all.births births
    × SaysNumber (codes "moment") all.moment moment × SaysNumber (codes "publications") all.publications publications
    × SaysNumber (codes "schema") schema named × SaysNumber (codes "subscribes") all.subscribes subscribes
SaysNumbers schema all _ = ⊥

-- ---- session: birth, client, expiry, closed

pub record SaysSession (s : Columns) (row : Row) : Type 0 where
  pub birth : column row 0 ≡ number s.birth
  pub birth_range : IsCounted s.birth
  pub client : column row 1 ≡ Text s.client
  pub client_range : FitsText s.client
  pub some : 0 < length s.client
  pub most : length s.client ≤ CLIENT_LIMIT
  pub expiry : column row 2 ≡ number s.expiry
  pub expiry_range : s.expiry < 2 ^ 32
  pub closed : column row 3 ≡ number_or_null s.closed
  pub closed_range : IsMoment s.closed

-- ---- will: birth, delay, topic, qos, retain, props, payload

pub record SaysWill (will : Will) (row : Row) : Type 0 where
  pub delay : column row 1 ≡ number will.delay
  pub delay_range : will.delay < 2 ^ 32
  pub topic : column row 2 ≡ Text will.topic
  pub topic_range : FitsText will.topic
  pub qos : column row 3 ≡ number (qos_number will.qos)
  pub retain : column row 4 ≡ flag will.retain
  pub properties : IsBlockOf places.Will will.properties (column row 5)
  pub payload : column row 6 ≡ Blob will.payload
  pub short : IsShort (column row 2) (column row 5) (column row 6)

-- ---- sub: birth, filter, place, qos, nolocal, rap, handling, ident

pub record SaysOptions (options : SubscriptionOptions) (row : Row) : Type 0 where
  pub qos : column row 3 ≡ number (qos_number options.qos)
  pub no_local : column row 4 ≡ flag options.no_local
  pub retain : column row 5 ≡ flag options.retain_as_published
  pub handling : column row 6 ≡ number (handling_number options.retain_handling)

pub record SaysSubscription (s : Subscription) (row : Row) : Type 0 where
  pub text : column row 1 ≡ Text s.filter
  pub text_range : FitsText s.filter
  pub place : column row 2 ≡ number s.place
  pub place_range : IsCounted s.place
  pub options : SaysOptions s.options row
  pub identifier : column row 7 ≡ number (or_zero s.identifier)
  pub identifier_range : IsIdentifier s.identifier

-- ---- inbound: birth, ident

pub record SaysOpen (n : ℕ) (row : Row) : Type 0 where
  pub identifier : column row 1 ≡ number n
  pub range : IsPacketIdentifier n

-- ---- copy: birth, place, pub, cause, cause_text, cause_n, pid, phase, rel, topic, qos, retain, props, payload, arrived

-- cause: 0 direct, 1 share with NAME/FILTER, 2 retained with the number of the subscribe; what a cause has no use for is
-- an empty text and 0
abbrev pub SaysCause : Cause → Value → Value → Value → Type 0
SaysCause Direct cause text n = (cause ≡ number 0) × (text ≡ Text []) × (n ≡ number 0)
SaysCause (Share group) cause text n = (cause ≡ number 1) × (text ≡ Text group) × (n ≡ number 0) × FitsText group
SaysCause (Retained subscribe) cause text n = (cause ≡ number 2) × (text ≡ Text []) × (n ≡ number subscribe) × IsCounted subscribe

pub record SaysId (id : CopyId) (row : Row) : Type 0 where
  pub birth : column row 0 ≡ number id.birth
  pub birth_range : IsCounted id.birth
  pub publication : column row 2 ≡ number id.publication
  pub publication_range : IsCounted id.publication
  pub cause : SaysCause id.cause (column row 3) (column row 4) (column row 5)

-- pid, phase, rel: NULL if the phase has none; only a copy of QoS 2 is released (4.3.3)
abbrev pub SaysPhase : Qos → Phase → Value → Value → Value → Type 0
SaysPhase qos Waiting pid phase rel = (pid ≡ Null) × (phase ≡ number 0) × (rel ≡ Null)
SaysPhase qos (Sent id) pid phase rel = (pid ≡ number id) × (phase ≡ number 1) × (rel ≡ Null) × IsPacketIdentifier id
SaysPhase qos (Released id order) pid phase rel =
    (pid ≡ number id) × (phase ≡ number 2) × (rel ≡ number order) × IsPacketIdentifier id × IsCounted order × (qos ≡ ExactlyOnce)
SaysPhase qos (Oversize id order) pid phase rel =
    (pid ≡ number id) × (phase ≡ number 3) × (rel ≡ number order) × IsPacketIdentifier id × IsCounted order × (qos ≡ ExactlyOnce)

-- what is sent, and the Subscription Identifiers
pub record SaysSentContent (c : Content) (identifiers : List ℕ) (row : Row) : Type 0 where
  pub topic : column row 9 ≡ Text c.topic
  pub topic_range : FitsText c.topic
  pub properties : SaysSent c.properties identifiers (column row 12)
  pub payload : column row 13 ≡ Blob c.payload
  pub arrived : column row 14 ≡ number c.arrived
  pub arrived_range : IsNumber c.arrived
  pub short : IsShort (column row 9) (column row 12) (column row 13)

-- only copies of QoS 1 and 2 stand in a queue (4.3)
pub record SaysMessage (copy : MessageCopy) (row : Row) : Type 0 where
  pub id : SaysId copy.id row
  pub qos : column row 10 ≡ number (qos_number copy.qos)
  pub qos_range : copy.qos ≢ AtMostOnce
  pub retain : column row 11 ≡ flag copy.retain
  pub content : SaysSentContent copy.content copy.identifiers row

pub record SaysCopy (x : CopyRow) (row : Row) : Type 0 where
  pub place : column row 1 ≡ number x.place
  pub place_range : IsCounted x.place
  pub phase : SaysPhase x.copy.qos x.phase (column row 6) (column row 7) (column row 8)
  pub message : SaysMessage x.copy row
  pub spelled : IsSpelled x.copy
