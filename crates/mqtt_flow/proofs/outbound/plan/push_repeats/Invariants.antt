use Rattle.std.proofs.Common.{◌≡◌, ◌++◌, map, drop}
use Rattle.mqtt_flow.specs.declared.outbound.entry.Turn.TheVariants.{Repeat}
use Rattle.mqtt_flow.proofs.outbound.plan.push_repeats.Given as goal

abbrev pub invariant-loop-due : goal.invariant-loop-due
invariant-loop-due l = l.turns.items ++ map (λ d. Repeat d.identifier) (drop l.due-index l.dues) ≡ l.fn.turns.items ++ map (λ d. Repeat d.identifier) l.dues
