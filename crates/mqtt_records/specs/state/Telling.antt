-- What the waiting copies of records say, as a store tells it (3.3, 4.1).
use Rattle.std.specs.Prelude.{◌≡◌, ℕ, Bool, List, [], map, filter, take, nat_le, Option, Some, None}
use Rattle.mqtt_records.specs.messages.Content.{CopyContent}
use Rattle.mqtt_records.specs.messages.Filling.{Filling, Fillings, filling_of}
use Rattle.mqtt_records.specs.messages.Queue.{CopyRow}
use Rattle.mqtt_records.specs.lists.Order.{row_at}
use Rattle.mqtt_records.specs.declared.state.records.Records.{Records}
use Rattle.mqtt_records.specs.declared.state.session.Session.{Session}
use Rattle.mqtt_records.specs.state.Session.{birth_of, copy_place}

-- ---- some copies of a queue, in order

-- what is said of a copy: all of its PUBLISH but what every rule reads
abbrev pub copy_content : CopyRow → CopyContent
copy_content x = record { place = x.place; identifiers = x.copy.identifiers; topic = x.copy.content.topic; properties = x.copy.content.properties; payload = x.copy.content.payload }

abbrev pub queue_or_none : Option Session → List CopyRow
queue_or_none None = []
queue_or_none (Some s) = s.queue

-- the queue of the session with that birth; nothing if there is no such session
abbrev pub queue_at : ℕ → Records → List CopyRow
queue_at birth r = queue_or_none (row_at birth_of birth r.sessions)

-- the copy's place is at least that
abbrev pub is_from : ℕ → CopyRow → Bool
is_from place x = nat_le place x.place

-- what the first copies of a session say from a place on, in the order of the queue; at most so many
abbrev pub contents_from : ℕ → ℕ → ℕ → Records → List CopyContent
contents_from birth place limit r = take limit (map copy_content (filter (is_from place) (queue_at birth r)))

-- ---- each copy by its place

-- nothing, where no copy stands
abbrev pub filling_in : Option CopyRow → Filling
filling_in None = record { identifiers = []; properties = []; payload = [] }
filling_in (Some e) = filling_of e.copy

-- what records have for each place: what a store in memory tells
abbrev pub told_by : Records → Fillings
told_by r birth place = filling_in (row_at copy_place place (queue_at birth r))

-- each copy that stands says what is told for its place
abbrev pub AreTold : Fillings → Records → Type 0
AreTold fillings r = (birth place : ℕ) (e : CopyRow) → row_at copy_place place (queue_at birth r) ≡ Some e → fillings birth place ≡ filling_of e.copy
