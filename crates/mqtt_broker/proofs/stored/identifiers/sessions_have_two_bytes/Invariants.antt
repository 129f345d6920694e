use Rattle.std.proofs.Common.{drop}
use Rattle.std.specs.List.{AllByRecursion}
use Rattle.mqtt_broker.specs.stored.Identifiers.{HasShortQueue}
use Rattle.mqtt_broker.proofs.stored.identifiers.sessions_have_two_bytes.Given as goal

-- if the rest has, all have
abbrev pub invariant-loop-session : goal.invariant-loop-session
invariant-loop-session l = AllByRecursion HasShortQueue (drop l.session-index l.sessions) → AllByRecursion HasShortQueue l.sessions
