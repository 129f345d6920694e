-- What is due, and what is done of it, by numbers of lines, births and places (MQTT 5.0, 3.1.2.10, 3.1.2.11.2,
-- 3.1.3.2.2, 3.3.2.3.3).
use Rattle.std.specs.Prelude.{ℕ, List, [], ◌∷◌, Option, Some, None, option_map}
use Rattle.mqtt_records.specs.declared.state.records.Records.{Records}
use Rattle.mqtt_rules.specs.step.Deeds.{Act, Forget, with_line}
use Rattle.mqtt_rules.specs.step.State.{Broker, Env, line_at}
use Rattle.mqtt_rules.specs.step.Tick.{silence}
use Rattle.mqtt_broker_step.specs.Lines.{line_number}
use Rattle.mqtt_broker_queue.specs.queues.Turning.{lapses_of}
use Rattle.mqtt_broker_acts.specs.closing.Ending.{ends}
use Rattle.mqtt_broker_acts.specs.closing.Ticking.{silent_in, will_due_in, end_due_in, stale_in, lapsed_in}
use Rattle.mqtt_broker_acts.specs.closing.Wills.{publishes_will}
use Rattle.mqtt_broker_acts.specs.declared.clock.finding.Due.{Due}
use Rattle.mqtt_broker_acts.specs.declared.clock.finding.Due.TheVariants.{Silence, Will, End, Stale, Lapse}

-- the number of the first line that is silent for too long
abbrev pub silent_number_in : Broker → Option ℕ
silent_number_in b = option_map line_number (silent_in b.now b.lines)

abbrev pub first_of : List (Option Due) → Option Due
first_of [] = None
first_of (Some due ∷ rest) = Some due
first_of (None ∷ rest) = first_of rest

-- what is due of what is stored
abbrev pub stored_in : ℕ → Records → List (Option Due)
stored_in now r =
    option_map Will (will_due_in now r)
    ∷ option_map End (end_due_in now r)
    ∷ option_map Stale (stale_in now r)
    ∷ option_map Lapse (lapsed_in now r)
    ∷ []

-- the first of the five that is due
abbrev pub due_in : Broker → Option Due
due_in b = first_of (option_map Silence (silent_number_in b) ∷ stored_in b.now b.records)

-- a line that is silent closes, if it stands
abbrev pub silences : ℕ → Env → Act
silences line env b = with_line (line_at line b) (λ l. silence env l.session l) b

-- what is done of what is due
abbrev pub does_due : Due → Env → Act
does_due (Silence line) env b = silences line env b
does_due (Will birth) env b = publishes_will birth env b
does_due (End birth) env b = ends birth b
does_due (Stale place) env b = Forget place ∷ []
does_due (Lapse birth) env b = lapses_of birth b

abbrev pub does_first : Option Due → Env → Act
does_first None env b = []
does_first (Some due) env b = does_due due env b
