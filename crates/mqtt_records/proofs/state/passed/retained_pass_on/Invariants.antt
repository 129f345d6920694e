use Rattle.std.proofs.Common.{drop}
use Rattle.std.specs.List.{AllByRecursion}
use Rattle.mqtt_records.specs.declared.messages.message.RetainedMessage.{RetainedMessage}
use Rattle.mqtt_records.specs.messages.PassedOn.{IsPassedOn}
use Rattle.mqtt_records.proofs.state.passed.retained_pass_on.Given as goal

-- who has the rest has the whole
abbrev pub invariant-loop-kept : goal.invariant-loop-kept
invariant-loop-kept l = AllByRecursion (λ (k : RetainedMessage). IsPassedOn k.content.properties) (drop l.kept-index l.retained) → AllByRecursion (λ (k : RetainedMessage). IsPassedOn k.content.properties) l.retained
