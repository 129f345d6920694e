-- Sessions that wait to be closed or settled as a broker opens (MQTT 5.0, 4.1).
use Rattle.std.specs.Prelude.{◌≡◌, ℕ, Option, Some, option_map}
use Rattle.mqtt_records.specs.declared.messages.message.Will.{Will}
use Rattle.mqtt_records.specs.declared.state.session.Session.{Session}
use Rattle.mqtt_records.specs.declared.state.records.Records.{Records}
use Rattle.mqtt_rules.specs.step.Deeds.{Whose, whose}
use Rattle.mqtt_rules.specs.step.State.{session_at}

-- whose a session is, and its Will
abbrev pub Face : Type 0
Face = Whose × Option Will

abbrev pub face : Session → Face
face s = (whose s, s.will)

-- of the session with a birth, if it stands
abbrev pub face_at : ℕ → Records → Option Face
face_at birth r = option_map face (session_at birth r)

-- a session stands, with its client identifier and its Will
abbrev pub IsThere : Records → Session → Type 0
IsThere r s = face_at s.birth r ≡ Some (face s)
