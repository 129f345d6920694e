-- Which copies are too large for a client that is told topics by aliases: those of which no form is within (MQTT 5.0, 3.1.2.11.4, 3.3.2.3.4).
use Rattle.std.specs.Prelude.{ℕ, Bool, true, false, cond, not, nat_eq, List, [], ◌∷◌, map, Option, Some, None, is_some}
use Rattle.mqtt_base.specs.declared.session.Phase.{Phase}
use Rattle.mqtt_base.specs.declared.session.Phase.TheVariants.{Waiting, Sent, Released, Oversize}
use Rattle.mqtt_flow.specs.declared.outbound.entry.Entry.{Entry as FlowEntry}
use Rattle.mqtt_flow.specs.declared.outbound.entry.Turn.{Turn}
use Rattle.mqtt_flow.specs.outbound.Outbound.{is_late, pump}
use Rattle.mqtt_topic.specs.declared.sending.form.Form.{Form}
use Rattle.mqtt_topic.specs.declared.sending.form.Form.TheVariants.{Plain}
use Rattle.mqtt_topic.specs.sending.Told.{ToldTopics, after_send}
use Rattle.mqtt_packet.specs.declared.codec.packet.Packet.{Packet}
use Rattle.mqtt_records.specs.declared.messages.message.MessageCopy.{MessageCopy}
use Rattle.mqtt_records.specs.messages.Queue.{CopyRow}
use Rattle.mqtt_records.specs.declared.state.session.Session.{Session}
use Rattle.mqtt_rules.specs.step.Forms.{form_for, form_size, published_of}
use Rattle.mqtt_rules.specs.step.Packets.{publish_of}
use Rattle.mqtt_rules.specs.step.State.{Line, Broker, entry_on, queued_copy, told_on}
use Rattle.mqtt_rules.specs.step.Deeds.{Deed, Send}
use Rattle.mqtt_rules.specs.step.Outbound.{way_of}

-- the form in which a copy's PUBLISH goes out, to a client that takes so many bytes and was told this; none if it is too large
abbrev pub form_of : ℕ → ToldTopics → MessageCopy → Option Form
form_of largest told copy = form_for largest told (published_of copy.content.arrived false 1 copy)

-- the bytes by which a pump finds it too large or not: those of its form, and with its whole topic if it has none
abbrev pub fitted_size : Option Form → MessageCopy → ℕ
fitted_size None copy = form_size Plain copy
fitted_size (Some form) copy = form_size form copy

-- a pump has a PUBLISH for a row if there is room: one that waits and has not expired, or was sent and not on this line
abbrev pub due_by : Bool → Bool → Phase → Bool
due_by late here Waiting = not late
due_by late here (Sent i) = not here
due_by late here (Released i order) = false
due_by late here (Oversize i order) = false

abbrev pub is_due : ℕ → List ℕ → CopyRow → Bool
is_due now went e = let x = entry_on went e in due_by (is_late now x.copy) x.here x.phase

-- what the client was told behind a row
abbrev pub told_behind : Bool → Option Form → List ℕ → ToldTopics → ToldTopics
told_behind false form topic told = told
told_behind true form topic told = after_send form topic told

-- each row's place and bytes, in order: what is sent tells its topic to those behind it. The window stops nothing here, since behind a
-- row that has no room none is looked at
abbrev pub fitted : Line → ℕ → ToldTopics → List CopyRow → List (ℕ × ℕ)
fitted l now told [] = []
fitted l now told (e ∷ es) =
    (e.place, fitted_size (form_of l.largest told e.copy) e.copy)
    ∷ fitted l now (told_behind (is_due now l.went e) (form_of l.largest told e.copy) e.copy.content.topic told) es

abbrev pub size_at : List (ℕ × ℕ) → CopyRow → ℕ
size_at [] e = (queued_copy e.copy).size
size_at (x ∷ xs) e = cond (nat_eq x.0 e.place) x.1 (size_at xs e)

-- a row whose PUBLISH has so many bytes
abbrev pub sized : (CopyRow → ℕ) → List ℕ → CopyRow → FlowEntry
sized size went e =
    let x = entry_on went e in
    let copy = x.copy in
    record { place = x.place; copy = record copy { size = size e }; phase = x.phase; here = x.here }

-- the turns of a pump of a session's queue on a line (4.6, 4.9)
abbrev pub pump_turns : Line → Broker → Session → List Turn
pump_turns l b s =
    pump (way_of l b.now) (map (sized (size_at (fitted l b.now (told_on l.number b.tellings) s.queue)) l.went) s.queue)

-- a packet goes out on a line that may have it
abbrev pub offer_if : (Line → Bool) → Option Line → Packet → List Deed
offer_if may None packet = []
offer_if may (Some l) packet = cond (may l) (Send l.number packet ∷ []) []

-- a copy of QoS 0 goes out if it has a form that is within
abbrev pub has_form : MessageCopy → Broker → Line → Bool
has_form copy b l = is_some (form_of l.largest (told_on l.number b.tellings) copy)

abbrev pub offer_copy : Option Line → MessageCopy → Broker → List Deed
offer_copy o copy b = offer_if (has_form copy b) o (publish_of b.now false 0 copy)
