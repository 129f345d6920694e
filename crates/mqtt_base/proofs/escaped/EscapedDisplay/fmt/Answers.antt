use Rattle.std.proofs.Common.{rules}
use Rattle.std.proofs.Output.{has_written_append, has_written_of_eq}
use Rattle.mqtt_base.specs.Escaped.{escaped_byte}
use Rattle.mqtt_base.proofs.Bytewise.{flat_map_take}
use Rattle.mqtt_base.proofs.escaped.EscapedDisplay.fmt.Goals as goal

pub loop-byte-preserved : goal.loop-byte-preserved
loop-byte-preserved g c = λ p.
    has_written_of_eq _ _ _ _ _ (flat_map_take escaped_byte _ c.loop-byte.byte-index 0 c.loop-byte-test.true) (has_written_append _ _ _ _ _ _ (c.loop-byte.invariant p) (search rules))
