-- Copies in queues that say nothing but their topic, and what fills them again (3.3, 4.1).
use Rattle.std.specs.Prelude.{ℕ, map, IsSomeAnd}
use Rattle.mqtt_records.specs.messages.Content.{CopyContent}
use Rattle.mqtt_records.specs.lists.Order.{row_at}
use Rattle.mqtt_records.specs.declared.state.records.Records.{Records}
use Rattle.mqtt_records.specs.state.Session.{birth_of, with_slim, with_all_slim, with_filled, HasRowFor}
use Rattle.mqtt_records.specs.state.Records.{in_session}

-- the copy at a place of a session's queue says nothing but its topic
abbrev pub slim_at : ℕ → ℕ → Records → Records
slim_at birth place r = in_session birth (with_slim place) r

-- no copy says anything but its topic
abbrev pub all_slim : Records → Records
all_slim r = record r { sessions = map with_all_slim r.sessions }

-- the copy at the place of what is told says that
abbrev pub whole_at : ℕ → CopyContent → Records → Records
whole_at birth content r = in_session birth (with_filled content) r

-- a copy stands there, of as many bytes
abbrev pub TakesIn : ℕ → CopyContent → Records → Type 0
TakesIn birth content r = IsSomeAnd (row_at birth_of birth r.sessions) (HasRowFor content)
