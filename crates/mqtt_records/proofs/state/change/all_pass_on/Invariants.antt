use Rattle.std.proofs.Common.{drop}
use Rattle.mqtt_records.specs.state.Saying.{AllPassOn}
use Rattle.mqtt_records.proofs.state.change.all_pass_on.Given as goal

-- who has the rest has the whole
abbrev pub invariant-loop-change : goal.invariant-loop-change
invariant-loop-change l = AllPassOn (drop l.change-index l.changes) → AllPassOn l.changes
