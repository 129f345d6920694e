use Rattle.std.proofs.Common.{◌≡◌, ◌++◌, take, drop}
use Rattle.mqtt_flow.specs.outbound.Outbound.{by_order}
use Rattle.mqtt_flow.proofs.outbound.plan.index_of.Given as goal

abbrev pub invariant-loop-index : goal.invariant-loop-index
invariant-loop-index l = take l.index l.dues ++ by_order l.due (drop l.index l.dues) ≡ by_order l.due l.dues
