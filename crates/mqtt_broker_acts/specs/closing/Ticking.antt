-- What is due at a moment (MQTT 5.0, 3.1.2.10, 3.1.2.11.2, 3.1.3.2.2, 3.3.2.3.3).
use Rattle.std.specs.Prelude.{ℕ, List, find, Option, option_map}
use Rattle.mqtt_records.specs.declared.state.records.Records.{Records}
use Rattle.mqtt_records.specs.state.Records.{kept_place}
use Rattle.mqtt_records.specs.state.Session.{birth_of}
use Rattle.mqtt_rules.specs.step.Closing.{has_due_will, has_due_end}
use Rattle.mqtt_rules.specs.step.State.{Line}
use Rattle.mqtt_rules.specs.step.Tick.{is_silent, is_stale, has_lapsed}

-- the first line that is silent for too long
abbrev pub silent_in : ℕ → List Line → Option Line
silent_in moment ls = find (λ l. is_silent moment l.session l) ls

-- the lowest births of sessions whose Will is due, whose end is, and that have copies which have expired
abbrev pub will_due_in : ℕ → Records → Option ℕ
will_due_in moment r = option_map birth_of (find (has_due_will moment) r.sessions)

abbrev pub end_due_in : ℕ → Records → Option ℕ
end_due_in moment r = option_map birth_of (find (has_due_end moment) r.sessions)

abbrev pub lapsed_in : ℕ → Records → Option ℕ
lapsed_in moment r = option_map birth_of (find (has_lapsed moment) r.sessions)

-- the place of the first retained message that has expired
abbrev pub stale_in : ℕ → Records → Option ℕ
stale_in moment r = option_map kept_place (find (is_stale moment) r.retained)
