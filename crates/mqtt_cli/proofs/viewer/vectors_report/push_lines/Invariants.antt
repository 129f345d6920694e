-- The text so far and the lines to come are the whole.
use Rattle.std.proofs.Common.{◌≡◌, ◌+◌, ◌++◌, length}
use Rattle.std.specs.String.{string_bytes}
use Rattle.mqtt_cli.specs.viewer.Vectors.{lines_from}
use Rattle.mqtt_cli.proofs.viewer.vectors_report.push_lines.Given as goal

abbrev pub invariant-loop-is_right : goal.invariant-loop-is_right
invariant-loop-is_right l =
    (string_bytes l.text ++ lines_from l.number l.rest ≡ string_bytes l.fn.text ++ lines_from l.first l.rights)
    × (l.number + length l.rest ≡ l.first + length l.rights)

abbrev pub decreases-loop-is_right : goal.decreases-loop-is_right
decreases-loop-is_right l = length l.rest
