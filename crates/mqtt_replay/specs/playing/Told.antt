-- The line of an event in the text of a run: its number, its first word, what it tells, and how many packets went out
-- (ours).
use Rattle.std.specs.Prelude.{ℕ, List, [], ◌∷◌, ◌++◌}
use Rattle.std.specs.List.{flat_map}
use Rattle.mqtt_rules.specs.declared.step.Report.{Report}
use Rattle.mqtt_rules.specs.declared.step.Report.TheVariants.{Accepted, Entered, Released, Ended, WillRefused}
use Rattle.mqtt_script.specs.Telling.{number_text, accepted_text, entered_text, released_text, ended_text}
use Rattle.mqtt_script.specs.Telling.{will_refused_text, out_text, line_feed}

-- a report: of a copy its publication and its session's client, of an open identifier the identifier, of a Will the client
abbrev pub report_text : Report → List ℕ
report_text (Accepted publication) = accepted_text publication
report_text (Entered copy client) = entered_text copy.publication client
report_text (Released birth client identifier) = released_text identifier
report_text (Ended copy client ending) = ended_text copy.publication client ending
report_text (WillRefused birth client) = will_refused_text client

-- the whole line of an event
abbrev pub told_text : ℕ → List ℕ → List Report → ℕ → List ℕ
told_text number word reports out =
    number_text number word ++ flat_map report_text reports ++ out_text out ++ line_feed ∷ []
