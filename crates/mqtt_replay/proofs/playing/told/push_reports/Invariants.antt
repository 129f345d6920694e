use Rattle.std.proofs.Common.{◌≡◌, ◌++◌, length}
use Rattle.std.specs.List.{flat_map}
use Rattle.std.specs.String.{string_bytes}
use Rattle.mqtt_replay.specs.playing.Told.{report_text}
use Rattle.mqtt_replay.proofs.playing.told.push_reports.Given as goal

abbrev pub invariant-loop-first : goal.invariant-loop-first
invariant-loop-first l = string_bytes l.text ++ flat_map report_text l.rest ≡ string_bytes l.fn.text ++ flat_map report_text l.reports

abbrev pub decreases-loop-first : goal.decreases-loop-first
decreases-loop-first l = length l.rest
