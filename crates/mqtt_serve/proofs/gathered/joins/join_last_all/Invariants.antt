use Rattle.mqtt_serve.specs.gathered.Joining.{StandFor}
use Rattle.mqtt_serve.proofs.gathered.joins.join_last_all.Given as goal

-- the list stands for what it was
abbrev pub invariant-loop : goal.invariant-loop
invariant-loop l = StandFor l.initial.list.items l.list.items
