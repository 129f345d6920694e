-- Copies that are handed over, one after the other, and the room for them (MQTT 5.0, 3.3.4, 4.3, 4.8).
use Rattle.std.specs.Prelude.{◌≡◌, ℕ, ◌≤◌, List, length, filter, map, Option, option_map}
use Rattle.mqtt_records.specs.declared.messages.message.MessageCopy.{MessageCopy}
use Rattle.mqtt_records.specs.declared.state.records.Records.{Records}
use Rattle.mqtt_rules.specs.step.State.{Env, MemberChoice, session_at, line_of}
use Rattle.mqtt_rules.specs.step.Deeds.{Act, Whose, whose, series}
use Rattle.mqtt_rules.specs.step.Fitting.{offer_copy}
use Rattle.mqtt_rules.specs.step.Laws.{is_entering}
use Rattle.mqtt_rules.specs.step.Outbound.{room_at}
use Rattle.mqtt_rules.specs.step.Routing.{CopyTo, deliver}
use Rattle.mqtt_broker_step.specs.Stepping.{Stepping, env_in}

-- a copy goes to the session that its own name has
abbrev pub addressed : MessageCopy → CopyTo
addressed copy = record { birth = copy.id.birth; copy = copy }

abbrev pub addressed_all : List MessageCopy → List CopyTo
addressed_all copies = map addressed copies

-- a copy goes out at once on the line of its session
abbrev pub offers : ℕ → MessageCopy → Act
offers birth copy b = offer_copy (line_of birth b) copy b

-- copies are handed over, one after the other
abbrev pub delivers_all : List CopyTo → Env → Act
delivers_all ds env = series (map (deliver env) ds)

-- each queue has room for all the copies that are to enter it
abbrev pub HasRoom : Env → List CopyTo → Records → Type 0
HasRoom env ds r = (birth : ℕ) → length (filter (is_entering birth) ds) ≤ room_at env (session_at birth r)

abbrev pub HasRoomIn : Stepping → List CopyTo → Type 0
HasRoomIn s ds = (choice : MemberChoice) → HasRoom (env_in choice s) ds s.broker.records

-- each session that stands is of the same client, and no other came
abbrev pub whose_at : ℕ → Records → Option Whose
whose_at birth r = option_map whose (session_at birth r)

abbrev pub SameSessions : Records → Records → Type 0
SameSessions old new = (birth : ℕ) → whose_at birth new ≡ whose_at birth old
