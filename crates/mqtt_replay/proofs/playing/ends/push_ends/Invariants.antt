-- The text so far and the lines to come are the whole.
use Rattle.std.proofs.Common.{◌≡◌, ◌++◌, length}
use Rattle.std.specs.List.{flat_map}
use Rattle.std.specs.String.{string_bytes}
use Rattle.mqtt_replay.specs.playing.Playing.{end_line}
use Rattle.mqtt_replay.proofs.playing.ends.push_ends.Given as goal

abbrev pub invariant-loop-first : goal.invariant-loop-first
invariant-loop-first g l =
    let line = end_line g.P.Runs.play l.world in
    string_bytes l.text ++ flat_map line l.rest ≡ string_bytes l.fn.text ++ flat_map line l.ends

abbrev pub decreases-loop-first : goal.decreases-loop-first
decreases-loop-first g l = length l.rest
