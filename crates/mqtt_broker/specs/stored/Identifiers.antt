-- Packet identifiers of what is stored have two bytes, as their type has it (MQTT 5.0, 2.2.1).
use Rattle.std.specs.Prelude.{◌<◌, ◌^◌, IfSome}
use Rattle.std.specs.List.{AllByRecursion}
use Rattle.mqtt_base.specs.Phases.{identifier_of}
use Rattle.mqtt_base.specs.declared.session.Phase.{Phase}
use Rattle.mqtt_records.specs.messages.Queue.{CopyRow}
use Rattle.mqtt_records.specs.declared.state.records.Records.{Records}
use Rattle.mqtt_records.specs.declared.state.session.Session.{Session}

-- that of a copy, if it has one
abbrev pub HasTwoBytes : Phase → Type 0
HasTwoBytes phase = IfSome (identifier_of phase) (λ identifier. identifier < 2 ^ 16)

-- those of a session's queue, and of all sessions
abbrev pub HasShortQueue : Session → Type 0
HasShortQueue s = AllByRecursion (λ (row : CopyRow). HasTwoBytes row.phase) s.queue

abbrev pub HaveTwoBytes : Records → Type 0
HaveTwoBytes r = AllByRecursion HasShortQueue r.sessions
