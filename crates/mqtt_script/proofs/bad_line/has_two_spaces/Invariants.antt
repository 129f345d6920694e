-- Where no two spaces were met, the bytes that are left decide.
use Rattle.std.proofs.Common.{◌≡◌, length}
use Rattle.mqtt_script.specs.BadLines.{has_two_spaces}
use Rattle.mqtt_script.proofs.bad_line.has_two_spaces.Given as goal

abbrev pub invariant-loop-byte : goal.invariant-loop-byte
invariant-loop-byte l = has_two_spaces l.line ≡ has_two_spaces l.rest

abbrev pub decreases-loop-byte : goal.decreases-loop-byte
decreases-loop-byte l = length l.rest
