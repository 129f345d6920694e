-- The lines, and the sessions that are connected on them (MQTT 5.0, 3.1.4, 4.1).
use Rattle.std.specs.Prelude.{◌≡◌, ℕ, suc, Option, Some, None, option_map}
use Rattle.mqtt_records.specs.declared.state.records.Records.{Records}
use Rattle.mqtt_records.specs.lists.Order.{IsAscending, IsBelow}
use Rattle.mqtt_rules.specs.step.State.{Line, Broker, session_at, line_at}

abbrev pub line_number : Line → ℕ
line_number l = l.number

-- the session that is connected on the line of a number, if such a line stands
abbrev pub session_on : ℕ → Broker → Option (Option ℕ)
session_on n b = option_map (λ l. l.session) (line_at n b)

-- when the session with a birth was closed, if it stands; one that wasn't is connected
abbrev pub closed_at : ℕ → Records → Option (Option ℕ)
closed_at birth r = option_map (λ s. s.closed) (session_at birth r)

-- line numbers ascend and were given; a session stands on at most one line, and on one exactly if it is connected
pub record HasUniqueLines (b : Broker) : Type 0 where
  pub ascending : IsAscending line_number b.lines
  pub given : IsBelow line_number (suc b.given) b.lines
  pub once : (n m birth : ℕ) → session_on n b ≡ Some (Some birth) → session_on m b ≡ Some (Some birth) → n ≡ m
  pub stands : (n birth : ℕ) → session_on n b ≡ Some (Some birth) → closed_at birth b.records ≡ Some None
  pub connected : (birth : ℕ) → closed_at birth b.records ≡ Some None → (n : ℕ) × (session_on n b ≡ Some (Some birth))
