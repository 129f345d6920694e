-- How many copies there are for the session that is connected on a line (MQTT 5.0, 4.1, 4.6).
use Rattle.std.specs.Prelude.{ℕ, Bool, false, nat_eq, length, Option, Some, None, option_map}
use Rattle.mqtt_rules.specs.step.Lines.{session_on}
use Rattle.mqtt_rules.specs.step.State.{Broker, session_at}

-- how many copies wait for the session with a birth, or are in flight to it
abbrev pub copies_for : Option ℕ → Broker → Option ℕ
copies_for None b = None
copies_for (Some birth) b = option_map (λ s. length s.queue) (session_at birth b.records)

-- of a line that may be linked
abbrev pub copies_on : Option (Option ℕ) → Broker → Option ℕ
copies_on None b = None
copies_on (Some session) b = copies_for session b

-- of the line with a number: None if it isn't linked, or no session is connected on it
abbrev pub queue_on_line : ℕ → Broker → Option ℕ
queue_on_line line b = copies_on (session_on line b) b

-- a session is there, and has no copies
abbrev pub has_none : Option ℕ → Bool
has_none None = false
has_none (Some copies) = nat_eq copies 0
