-- Turns of a session as acts (MQTT 5.0, 4.3, 4.4, 4.6).
use Rattle.std.specs.Prelude.{ℕ, Bool, true, false, List}
use Rattle.mqtt_flow.specs.declared.outbound.entry.Turn.{Turn}
use Rattle.mqtt_flow.specs.declared.outbound.entry.Turn.TheVariants.{Send, Resend, Release, Outgrow, Repeat, Unknown, Leave}
use Rattle.mqtt_rules.specs.step.Deeds.{Act, always, of_session, with_line}
use Rattle.mqtt_rules.specs.step.Outbound.{turn_deeds, all_turn_deeds}
use Rattle.mqtt_rules.specs.step.State.{Broker, line_at}
use Rattle.mqtt_rules.specs.step.Step.{on_pump}
use Rattle.mqtt_rules.specs.step.Tick.{lapse_deeds}
use Rattle.mqtt_rules.specs.filling.Pumped.{served_on, turns_on_line}

-- a turn of the session that is connected on a line, if it stands
abbrev pub takes_turn : ℕ → ℕ → Turn → Act
takes_turn line birth t b = of_session birth (λ s. always (turn_deeds b.now line s t)) b

-- turns of the session, all of them made for it as it stands before the first
abbrev pub takes_turns : ℕ → ℕ → List Turn → Act
takes_turns line birth ts b = of_session birth (λ s. always (all_turn_deeds b.now line s ts)) b

-- in a turn a PUBLISH goes out
abbrev pub is_sending : Turn → Bool
is_sending (Send place id) = true
is_sending (Resend place id) = true
is_sending (Release place id order) = false
is_sending (Outgrow place id order) = false
is_sending (Repeat id) = false
is_sending (Unknown id) = false
is_sending (Leave place ending) = false

-- the turns of a pump on a line, if a session is connected on it (4.6, 4.9)
abbrev pub line_turns : ℕ → Broker → List Turn
line_turns line b = turns_on_line (line_at line b) b (served_on line b)

-- a turn of sending on a line, if a session is connected on it (4.6, 4.9)
abbrev pub pumps : ℕ → Act
pumps line b = with_line (line_at line b) (λ l. on_pump l l.session) b

-- the copies of a session that wait and have expired leave (3.3.2.3.3)
abbrev pub lapses_of : ℕ → Act
lapses_of birth b = of_session birth (λ s. always (lapse_deeds b.now s)) b
