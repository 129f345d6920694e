-- Brokers whose waiting copies say what there is for their places (MQTT 5.0, 3.3).
use Rattle.std.specs.Prelude.{◌≡◌, ℕ, map}
use Rattle.std.specs.List.{AllByRecursion}
use Rattle.mqtt_records.specs.messages.Filling.{Filling, Fillings, filling_of, filled_row}
use Rattle.mqtt_records.specs.messages.Queue.{CopyRow}
use Rattle.mqtt_records.specs.declared.state.session.Session.{Session}
use Rattle.mqtt_records.specs.declared.state.records.Records.{Records}
use Rattle.mqtt_rules.specs.step.State.{Broker}
use Rattle.mqtt_rules.specs.alike.Alike.{with_queue, with_sessions, with_records}

-- ---- rows that say it

abbrev pub filled_session : Fillings → Session → Session
filled_session fillings s = with_queue (map (filled_row (fillings s.birth)) s.queue) s

abbrev pub filled_records : Fillings → Records → Records
filled_records fillings r = with_sessions (map (filled_session fillings) r.sessions) r

-- each waiting copy says what there is for its place
abbrev pub filled : Fillings → Broker → Broker
filled fillings b = with_records (filled_records fillings b.records) b

-- ---- rows of which it is so

-- the row says this already
abbrev pub IsFilledBy : (ℕ → Filling) → CopyRow → Type 0
IsFilledBy fillings e = filling_of e.copy ≡ fillings e.place

-- each of a session's queue
abbrev pub IsSessionFilledBy : Fillings → Session → Type 0
IsSessionFilledBy fillings s = AllByRecursion (IsFilledBy (fillings s.birth)) s.queue

-- each of all sessions: what is stored says this
abbrev pub AreFilledBy : Fillings → Records → Type 0
AreFilledBy fillings r = AllByRecursion (IsSessionFilledBy fillings) r.sessions
