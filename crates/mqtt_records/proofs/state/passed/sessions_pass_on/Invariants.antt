use Rattle.std.proofs.Common.{drop}
use Rattle.std.specs.List.{AllByRecursion}
use Rattle.mqtt_records.specs.declared.state.session.Session.{Session}
use Rattle.mqtt_records.specs.messages.Queue.{CopyRow}
use Rattle.mqtt_records.specs.messages.PassedOn.{IsPassedOn}
use Rattle.mqtt_records.proofs.state.passed.sessions_pass_on.Given as goal

-- who has the rest has the whole
abbrev pub invariant-loop-session : goal.invariant-loop-session
invariant-loop-session l = AllByRecursion (λ (s : Session). AllByRecursion (λ (e : CopyRow). IsPassedOn e.copy.content.properties) s.queue) (drop l.session-index l.sessions) → AllByRecursion (λ (s : Session). AllByRecursion (λ (e : CopyRow). IsPassedOn e.copy.content.properties) s.queue) l.sessions
