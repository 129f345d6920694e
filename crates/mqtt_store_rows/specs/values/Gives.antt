-- Which rows of the seven tables give which records (4.1).
use Rattle.std.specs.Prelude.{◌≡◌, List, [], ◌∷◌, Option, Some, None}
use Rattle.std.specs.List.{AllByRecursion}
use Rattle.sqlite_value.specs.Order.{Row}
use Rattle.mqtt_base.specs.declared.limits.TheConstants.{SUBSCRIPTION_LIMIT, OPEN_LIMIT, QUEUE_LIMIT, SESSION_LIMIT, RETAINED_LIMIT}
use Rattle.mqtt_records.specs.declared.messages.message.Will.{Will}
use Rattle.mqtt_records.specs.declared.state.session.Session.{Session}
use Rattle.mqtt_records.specs.declared.state.records.Records.{Records}
use Rattle.mqtt_records.specs.state.Records.{kept_place}
use Rattle.mqtt_records.specs.state.Session.{birth_of, place_of, number_of, copy_place, columns_of}
use Rattle.mqtt_store_rows.specs.declared.values.meta.Counters.{Counters}
use Rattle.mqtt_store_rows.specs.values.Rows.{SaysSession, SaysWill, SaysSubscription, SaysOpen, SaysCopy}
use Rattle.mqtt_records.specs.lists.Order.{IsTable}
use Rattle.mqtt_store_rows.specs.values.Lists.{Takes}

-- ---- sessions

-- rows of the tables of what sessions have
pub record Parts : Type 0 where
  pub wills : List Row
  pub subscriptions : List Row
  pub inbound : List Row
  pub copies : List Row

abbrev pub no_parts : Parts
no_parts = record { wills = []; subscriptions = []; inbound = []; copies = [] }

abbrev pub list_of : Option Will → List Will
list_of None = []
list_of (Some will) = will ∷ []

-- the rows at the front of each are those of the session
pub record TakesParts (s : Session) (parts rest : Parts) : Type 0 where
  pub will : Takes SaysWill s.birth (list_of s.will) parts.wills rest.wills
  pub subscriptions : Takes SaysSubscription s.birth s.subscriptions parts.subscriptions rest.subscriptions
  pub inbound : Takes SaysOpen s.birth s.inbound parts.inbound rest.inbound
  pub queue : Takes SaysCopy s.birth s.queue parts.copies rest.copies

-- the rows of `session` and those of what sessions have, in the order of births, say these sessions, and no row is of
-- another
abbrev pub AreSessions : List Row → Parts → List Session → Type 0
AreSessions [] parts [] = parts ≡ no_parts
AreSessions [] parts (s ∷ ss) = ⊥
AreSessions (row ∷ rows) parts [] = ⊥
AreSessions (row ∷ rows) parts (s ∷ ss) =
    SaysSession (columns_of s) row × ((rest : Parts) × TakesParts s parts rest × AreSessions rows rest ss)

-- the lists of a session are in order, and within their limits
pub record IsWithin (s : Session) : Type 0 where
  pub subscriptions : IsTable place_of SUBSCRIPTION_LIMIT s.subscriptions
  pub inbound : IsTable number_of OPEN_LIMIT s.inbound
  pub queue : IsTable copy_place QUEUE_LIMIT s.queue

-- ---- all tables

abbrev pub counters_of : Records → Counters
counters_of r = record { births = r.births; publications = r.publications; subscribes = r.subscribes; autos = r.autos; moment = r.moment }

-- the lists of records are in order, and within their limits
pub record AreWithin (r : Records) : Type 0 where
  pub sessions : IsTable birth_of SESSION_LIMIT r.sessions
  pub each : AllByRecursion IsWithin r.sessions
  pub retained : IsTable kept_place RETAINED_LIMIT r.retained
