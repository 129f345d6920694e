-- Parts of what a CONNECT does (MQTT 5.0, 3.1, 3.2).
use Rattle.std.specs.Prelude.{ℕ, suc, Bool, cond, true, false, nat_lt, List, [], ◌∷◌, ◌++◌, flat_map}
use Rattle.mqtt_base.specs.Codes.{success}
use Rattle.mqtt_packet.specs.declared.connect.connect.Connect.{Connect}
use Rattle.mqtt_flow.specs.declared.outbound.entry.Turn.{Turn}
use Rattle.mqtt_flow.specs.declared.outbound.entry.Turn.TheVariants.{Repeat}
use Rattle.mqtt_records.specs.declared.state.session.Session.{Session}
use Rattle.mqtt_rules.specs.step.Packets.{connack, pubrel}
use Rattle.mqtt_rules.specs.step.State.{Line}
use Rattle.mqtt_rules.specs.step.Deeds.{Deed, Act, Begin, Resume, At, Send, whose}
use Rattle.mqtt_rules.specs.step.Connect.{connack_properties, expiry_of, fresh_row, greet, largest_of, refusal_size, will_of}

-- CONNACK that refuses, if the client takes so many bytes
abbrev pub refusal_told : ℕ → Connect → ℕ → List Deed
refusal_told line c code = cond (nat_lt (largest_of c) refusal_size) [] (Send line (connack false code []) ∷ [])

-- a session begins, and is connected on a line
abbrev pub begins_greeted : Line → Connect → List ℕ → Act
begins_greeted l c client b =
    Begin (fresh_row (suc b.records.births) client c) (will_of c) ∷ greet l c (suc b.records.births) ∷ []

-- CONNACK 00 for a session that began
abbrev pub begun_told : ℕ → Bool → List ℕ → List Deed
begun_told line is_assigned client =
    Send line (connack false success (connack_properties is_assigned client)) ∷ []

-- a session that stands is connected again, on a line
abbrev pub resumed_greeted : Line → Connect → Session → List Deed
resumed_greeted l c s = At (whose s) (Resume (expiry_of c) (will_of c)) ∷ greet l c s.birth ∷ []

-- CONNACK 00 for a session that is resumed
abbrev pub resumption_told : ℕ → List Deed
resumption_told line = Send line (connack true success (connack_properties false [])) ∷ []

abbrev pub resumed_told : Line → Connect → Session → List Deed
resumed_told l c s = resumed_greeted l c s ++ resumption_told l.number

-- a PUBREL goes out again
abbrev pub repeat : ℕ → Turn → List Deed
repeat line (Repeat id) = Send line (pubrel id success) ∷ []
repeat line turn = []

abbrev pub repeats : ℕ → List Turn → List Deed
repeats line turns = flat_map (repeat line) turns
