-- Records that keep every rule that a store may be opened with (4.1).
use Rattle.std.specs.Prelude.{◌≡◌, ℕ, ◌+◌, ◌<◌, ◌≤◌, codes, decimal, List, ◌++◌, ◌∷◌, length, map, filter_map, flat_map, Option, Some, None, IsTrue}
use Rattle.std.specs.List.{AllByRecursion}
use Rattle.mqtt_base.specs.Values.{FitsText}
use Rattle.mqtt_base.specs.declared.limits.TheConstants.{CLIENT_LIMIT, SUBSCRIPTION_LIMIT, OPEN_LIMIT, QUEUE_LIMIT, SESSION_LIMIT, RETAINED_LIMIT, ROW_LIMIT, LAST_NUMBER, VARINT_LIMIT}
use Rattle.mqtt_base.specs.declared.session.Cause.{Cause}
use Rattle.mqtt_base.specs.declared.session.Cause.TheVariants.{Direct, Share, Retained}
use Rattle.mqtt_base.specs.Phases.{identifier_of}
use Rattle.mqtt_base.specs.declared.session.Phase.{Phase}
use Rattle.mqtt_base.specs.declared.session.Phase.TheVariants.{Waiting, Sent, Released, Oversize}
use Rattle.mqtt_base.specs.declared.session.Qos.{Qos}
use Rattle.mqtt_base.specs.declared.session.Qos.TheVariants.{AtMostOnce, AtLeastOnce, ExactlyOnce}
use Rattle.mqtt_props.specs.declared.place.Place.{Place}
use Rattle.mqtt_props.specs.declared.place.Place.TheVariants as places
use Rattle.mqtt_props.specs.Properties.{Prop, FitsBlock, block}
use Rattle.mqtt_props.specs.Laws.{all_may_stand, is_lawful}
use Rattle.mqtt_topic.specs.names.Levels.{slash}
use Rattle.mqtt_topic.specs.names.Names.{IsTopicName}
use Rattle.mqtt_topic.specs.names.Filters.{share, is_filter, is_shared_filter}
use Rattle.mqtt_records.specs.lists.Order.{IsTable}
use Rattle.mqtt_records.specs.lists.Distinct.{AllDiffer}
use Rattle.mqtt_records.specs.messages.Queue.{CopyRow, first_sent}
use Rattle.mqtt_records.specs.declared.messages.message.Will.{Will}
use Rattle.mqtt_records.specs.declared.messages.message.RetainedMessage.{RetainedMessage}
use Rattle.mqtt_records.specs.declared.state.subscription.Subscription.{Subscription}
use Rattle.mqtt_records.specs.declared.state.session.Session.{Session}
use Rattle.mqtt_records.specs.declared.state.records.Records.{Records}
use Rattle.mqtt_keep.specs.declared.lawful.rows.Last.{Last}
use Rattle.mqtt_records.specs.state.Session.{birth_of, place_of, number_of, copy_place, auto}
use Rattle.mqtt_records.specs.state.Records.{kept_place, IsNumber}
use Rattle.mqtt_records.specs.state.Contents.{SharesContents}

-- ---- numbers

-- from 1 up to the last
abbrev pub IsUpTo : ℕ → ℕ → Type 0
IsUpTo last n = (1 ≤ n) × (n ≤ last)

-- a moment that has been, if there is one
abbrev pub HasBeen : ℕ → Option ℕ → Type 0
HasBeen now None = Unit {0}
HasBeen now (Some moment) = moment ≤ now

-- the numbers that were given last, and the moment of the newest step, are such as are kept
pub record AreNumbers (last : Last) : Type 0 where
  pub births : IsNumber last.births
  pub publications : IsNumber last.publications
  pub subscribes : IsNumber last.subscribes
  pub autos : IsNumber last.autos
  pub moment : IsNumber last.moment

-- those of records
abbrev pub last_of : Records → Last
last_of r = record {
  births = r.births;
  publications = r.publications;
  subscribes = r.subscribes;
  autos = r.autos;
  moment = r.moment;
}

-- ---- client identifiers

-- the number that was given last, or one before it, in its shortest decimal form
abbrev pub IsNumeralUpTo : ℕ → List ℕ → Type 0
IsNumeralUpTo last text = (n : ℕ) × IsUpTo last n × (text ≡ decimal n)

-- what follows the front of those that the broker assigns is a number that it has given
abbrev pub IsAssigned : ℕ → List ℕ → Type 0
IsAssigned autos client = (rest : List ℕ) → client ≡ auto ++ rest → IsNumeralUpTo autos rest

-- a client identifier that a session may have
pub record IsClient (autos : ℕ) (client : List ℕ) : Type 0 where
  pub long : IsUpTo CLIENT_LIMIT (length client)
  pub assigned : IsAssigned autos client

-- ---- messages

-- topic, properties and payload of a row in bytes
abbrev pub row_len : List ℕ → List Prop → List ℕ → ℕ
row_len topic properties payload = length topic + length (block properties) + length payload

-- a topic name, and properties that have a spelling, may stand in this packet and keep their laws, in no more bytes than
-- a row has
pub record IsMessage (place : Place) (name : List ℕ) (properties : List Prop) (payload : List ℕ) : Type 0 where
  pub text : FitsText name
  pub spelled : FitsBlock properties
  pub may : IsTrue (all_may_stand place properties)
  pub lawful : IsTrue (is_lawful place properties)
  pub short : row_len name properties payload ≤ ROW_LIMIT
  pub topic : IsTopicName name

-- properties that have a spelling, no longer than a row, may stand in this packet and keep their laws
pub record AreProperties (place : Place) (properties : List Prop) : Type 0 where
  pub spelled : FitsBlock properties
  pub short : length (block properties) ≤ ROW_LIMIT
  pub may : IsTrue (all_may_stand place properties)
  pub lawful : IsTrue (is_lawful place properties)

-- a Will, if there is one (3.1.2.5)
abbrev pub HasLawfulWill : Option Will → Type 0
HasLawfulWill None = Unit {0}
HasLawfulWill (Some will) = IsMessage places.Will will.topic will.properties will.payload

-- ---- subscriptions

-- from 1, and such as has a spelling (3.8.2.1.2)
abbrev pub IsIdentifier : Option ℕ → Type 0
IsIdentifier None = Unit {0}
IsIdentifier (Some n) = (1 ≤ n) × (n < VARINT_LIMIT)

-- a filter, and a place that was given with a subscribe
pub record IsSubscription (subscribes : ℕ) (subscription : Subscription) : Type 0 where
  pub place : IsUpTo subscribes subscription.place
  pub identifier : IsIdentifier subscription.identifier
  pub filter : IsTrue (is_filter subscription.filter)

-- those of a session: each once
pub record AreSubscriptions (subscribes : ℕ) (all : List Subscription) : Type 0 where
  pub table : IsTable place_of SUBSCRIPTION_LIMIT all
  pub each : AllByRecursion (IsSubscription subscribes) all
  pub filters : AllDiffer (map (λ subscription. subscription.filter) all)

-- ---- copies

-- NAME/FILTER of a shared filter that packets can carry (4.8.2)
pub record IsGroup (group : List ℕ) : Type 0 where
  pub lawful : IsTrue (is_shared_filter (share ++ slash ∷ group))
  pub fits : FitsText (share ++ slash ∷ group)

-- why a session got a copy: by a group that there may be, or for a subscribe that was granted
abbrev pub IsCause : ℕ → Cause → Type 0
IsCause subscribes Direct = Unit {0}
IsCause subscribes (Share group) = IsGroup group
IsCause subscribes (Retained subscribe) = IsUpTo subscribes subscribe

-- a packet identifier from 1; an order of release from 1, for a copy of QoS 2 alone; and no copy of QoS 0 in a queue
abbrev pub IsPhase : Qos → Phase → Type 0
IsPhase AtMostOnce phase = ⊥
IsPhase AtLeastOnce Waiting = Unit {0}
IsPhase AtLeastOnce (Sent identifier) = 1 ≤ identifier
IsPhase AtLeastOnce (Released identifier order) = ⊥
IsPhase AtLeastOnce (Oversize identifier order) = ⊥
IsPhase ExactlyOnce Waiting = Unit {0}
IsPhase ExactlyOnce (Sent identifier) = 1 ≤ identifier
IsPhase ExactlyOnce (Released identifier order) = (1 ≤ identifier) × IsUpTo LAST_NUMBER order
IsPhase ExactlyOnce (Oversize identifier order) = (1 ≤ identifier) × IsUpTo LAST_NUMBER order

-- its order of release: none before it is released
abbrev pub order_in : Phase → Option ℕ
order_in Waiting = None
order_in (Sent identifier) = None
order_in (Released identifier order) = Some order
order_in (Oversize identifier order) = Some order

-- a copy for the session with this birth, of a publication that was accepted by now
pub record IsCopyFor (last : Last) (birth : ℕ) (row : CopyRow) : Type 0 where
  pub session : row.copy.id.birth ≡ birth
  pub place : IsUpTo LAST_NUMBER row.place
  pub publication : IsUpTo last.publications row.copy.id.publication
  pub arrived : row.copy.content.arrived ≤ last.moment

-- a copy in the queue of the session with this birth; what is sent of it, and what was passed on to it
pub record IsLawfulCopy (last : Last) (birth : ℕ) (row : CopyRow) : Type 0 where
  pub due : IsCopyFor last birth row
  pub phase : IsPhase row.copy.qos row.phase
  pub cause : IsCause last.subscribes row.copy.id.cause
  pub message : IsMessage places.Publish row.copy.content.topic (first_sent row.copy) row.copy.content.payload
  pub passed : AreProperties places.Publish row.copy.content.properties

-- no two copies have the same packet identifier, order of release or identity
pub record IsLawfulQueue (last : Last) (birth : ℕ) (queue : List CopyRow) : Type 0 where
  pub table : IsTable copy_place QUEUE_LIMIT queue
  pub identifiers : AllDiffer (filter_map (λ row. identifier_of row.phase) queue)
  pub orders : AllDiffer (filter_map (λ row. order_in row.phase) queue)
  pub copies : AllDiffer (map (λ row. row.copy.id) queue)
  pub each : AllByRecursion (IsLawfulCopy last birth) queue

-- ---- sessions

-- open identifiers: from 1, and each once
pub record AreOpen (identifiers : List ℕ) : Type 0 where
  pub table : IsTable number_of OPEN_LIMIT identifiers
  pub each : AllByRecursion (λ identifier. 1 ≤ identifier) identifiers

-- a session, and all that it has
pub record IsLawfulSession (last : Last) (session : Session) : Type 0 where
  pub birth : IsUpTo last.births session.birth
  pub closed : HasBeen last.moment session.closed
  pub inbound : AreOpen session.inbound
  pub client : IsClient last.autos session.client
  pub will : HasLawfulWill session.will
  pub subscriptions : AreSubscriptions last.subscribes session.subscriptions
  pub queue : IsLawfulQueue last session.birth session.queue

-- no two sessions have the same client identifier, and no two subscriptions of any sessions the same place
pub record AreLawfulSessions (last : Last) (sessions : List Session) : Type 0 where
  pub table : IsTable birth_of SESSION_LIMIT sessions
  pub clients : AllDiffer (map (λ session. session.client) sessions)
  pub places : AllDiffer (flat_map (λ session. map place_of session.subscriptions) sessions)
  pub each : AllByRecursion (IsLawfulSession last) sessions

-- ---- retained messages

-- of a publication that was accepted by now
pub record IsLawfulRetained (last : Last) (kept : RetainedMessage) : Type 0 where
  pub place : IsUpTo LAST_NUMBER kept.place
  pub publication : IsUpTo last.publications kept.publication
  pub arrived : kept.content.arrived ≤ last.moment
  pub message : IsMessage places.Publish kept.content.topic kept.content.properties kept.content.payload

-- a topic has one
pub record AreLawfulRetained (last : Last) (retained : List RetainedMessage) : Type 0 where
  pub table : IsTable kept_place RETAINED_LIMIT retained
  pub topics : AllDiffer (map (λ kept. kept.content.topic) retained)
  pub each : AllByRecursion (IsLawfulRetained last) retained

-- ---- records

-- a store may be opened with these
pub record IsLawful (r : Records) : Type 0 where
  pub numbers : AreNumbers (last_of r)
  pub sessions : AreLawfulSessions (last_of r) r.sessions
  pub retained : AreLawfulRetained (last_of r) r.retained
  pub shared : SharesContents r  -- copies and retained messages of one publication say the same
