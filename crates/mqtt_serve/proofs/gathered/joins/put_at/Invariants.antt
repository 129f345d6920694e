use Rattle.mqtt_serve.proofs.gathered_lemmas.Joins.{AreBehind}
use Rattle.mqtt_serve.proofs.gathered.joins.put_at.Given as goal

-- the changes that were looked at have no part in the copy
abbrev pub invariant-loop : goal.invariant-loop
invariant-loop l = AreBehind l.birth l.place l.changes l.rest
