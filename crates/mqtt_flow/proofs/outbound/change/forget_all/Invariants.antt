use Rattle.std.proofs.Common.{◌≡◌, ◌++◌, map, take, drop}
use Rattle.mqtt_flow.specs.outbound.Outbound.{unsent}
use Rattle.mqtt_flow.proofs.outbound.change.forget_all.Given as goal

abbrev pub invariant-loop-entry : goal.invariant-loop-entry
invariant-loop-entry l = l.entries ≡ map unsent (take l.entry-index l.fn.entries) ++ drop l.entry-index l.fn.entries
