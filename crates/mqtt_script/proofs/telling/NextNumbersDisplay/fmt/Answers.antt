use Rattle.std.proofs.Common.{rules}
use Rattle.std.proofs.Output.{has_written_append, has_written_of_eq}
use Rattle.mqtt_script.specs.Telling.{next_number}
use Rattle.mqtt_base.proofs.Bytewise.{flat_map_take}
use Rattle.mqtt_script.proofs.telling.NextNumbersDisplay.fmt.Goals as goal

pub loop-number-preserved : goal.loop-number-preserved
loop-number-preserved g c = λ p.
    has_written_of_eq _ _ _ _ _ (flat_map_take next_number _ c.loop-number.number-index 0 c.loop-number-test.true) (has_written_append _ _ _ _ _ _ (c.loop-number.invariant p) (search rules))
