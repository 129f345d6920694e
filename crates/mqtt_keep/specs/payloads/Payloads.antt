-- Records whose waiting copies have other payloads (MQTT 5.0, 3.3.3, 4.1).
use Rattle.std.specs.Prelude.{◌≡◌, ℕ, List, length, map}
use Rattle.std.specs.List.{AllByRecursion}
use Rattle.mqtt_records.specs.messages.Queue.{CopyRow}
use Rattle.mqtt_records.specs.declared.state.session.Session.{Session}
use Rattle.mqtt_records.specs.declared.state.records.Records.{Records}

-- bytes for each copy
abbrev pub Payloads : Type 0
Payloads = CopyRow → List ℕ

-- the row, with these as its copy's payload
abbrev pub row_with : Payloads → CopyRow → CopyRow
row_with payloads e = record e { copy = record e.copy { content = record e.copy.content { payload = payloads e } } }

abbrev pub session_with : Payloads → Session → Session
session_with payloads s = record s { queue = map (row_with payloads) s.queue }

-- so of all waiting copies; retained messages stay as they are
abbrev pub records_with : Payloads → Records → Records
records_with payloads r = record r { sessions = map (session_with payloads) r.sessions }

-- they are as many as the copy's own
abbrev pub IsAsLong : Payloads → CopyRow → Type 0
IsAsLong payloads e = length (payloads e) ≡ length e.copy.content.payload

-- so it is of all waiting copies
abbrev pub AreAsLong : Payloads → Records → Type 0
AreAsLong payloads r = AllByRecursion (λ (s : Session). AllByRecursion (IsAsLong payloads) s.queue) r.sessions
