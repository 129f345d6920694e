-- `tick`: the first of these that is due, and nothing else (MQTT 5.0, 3.1.2.10, 3.1.2.11.2, 3.1.3.2.2, 3.3.2.3.3).
use Rattle.std.specs.Prelude.{ℕ, ◌*◌, Bool, true, false, ◌&&◌, List, [], ◌∷◌, flat_map, find, nat_lt, nat_le, Option, Some, None, option_map}
use Rattle.mqtt_base.specs.Codes.{keep_alive_timeout}
use Rattle.mqtt_base.specs.declared.limits.TheConstants.{CONNECT_TIME}
use Rattle.mqtt_flow.specs.declared.outbound.entry.Turn.{Turn}
use Rattle.mqtt_flow.specs.outbound.Outbound.{expired}
use Rattle.mqtt_records.specs.declared.messages.message.RetainedMessage.{RetainedMessage}
use Rattle.mqtt_records.specs.declared.state.session.Session.{Session}
use Rattle.mqtt_rules.specs.step.Packets.{is_expired}
use Rattle.mqtt_rules.specs.step.State.{Line, Broker, Env, later, queue_on}
use Rattle.mqtt_rules.specs.step.Deeds.{Deed, Forget, Act, always}
use Rattle.mqtt_rules.specs.step.Outbound.{leave_deeds}
use Rattle.mqtt_rules.specs.step.Closing.{close, drop_line, publish_will, end_session, has_due_will, has_due_end}

-- CONNECT didn't come in CONNECT_TIME milliseconds (ours), or one and a half times Keep Alive, in milliseconds, has
-- passed without a packet (3.1.2.10)
abbrev pub is_silent : ℕ → Option ℕ → Line → Bool
is_silent now None l = nat_le (later l.heard CONNECT_TIME) now
is_silent now (Some birth) l = nat_lt 0 l.keep_alive && nat_le (later l.heard (1500 * l.keep_alive)) now

abbrev pub silence : Env → Option ℕ → Line → Act
silence env None l b = close env true l b
silence env (Some birth) l b = drop_line env keep_alive_timeout l b

-- the copies of a session that wait and have expired
abbrev pub lapses : ℕ → Session → List Turn
lapses now s = expired now (queue_on [] s)

abbrev pub are_some : List Turn → Bool
are_some [] = false
are_some (t ∷ ts) = true

abbrev pub has_lapsed : ℕ → Session → Bool
has_lapsed now s = are_some (lapses now s)

abbrev pub lapse_deeds : ℕ → Session → List Deed
lapse_deeds now s = flat_map (leave_deeds s) (lapses now s)

abbrev pub is_stale : ℕ → RetainedMessage → Bool
is_stale now k = is_expired now k.content

abbrev pub first_due : List (Option Act) → Option Act
first_due [] = None
first_due (Some act ∷ rest) = Some act
first_due (None ∷ rest) = first_due rest

-- the lowest line that is silent; the Will, then the end, of the lowest birth for which it is due; the first retained
-- message that has expired; the expired copies of the lowest birth that has some
abbrev pub due : Env → Broker → Option Act
due env b = first_due (
    option_map (λ l. silence env l.session l) (find (λ l. is_silent b.now l.session l) b.lines)
    ∷ option_map (publish_will env) (find (has_due_will b.now) b.records.sessions)
    ∷ option_map (λ s. always (end_session s)) (find (has_due_end b.now) b.records.sessions)
    ∷ option_map (λ k. always (Forget k.place ∷ [])) (find (is_stale b.now) b.records.retained)
    ∷ option_map (λ s. always (lapse_deeds b.now s)) (find (has_lapsed b.now) b.records.sessions)
    ∷ [])

abbrev pub on_tick : Option Act → Act
on_tick None b = []
on_tick (Some act) b = act b
