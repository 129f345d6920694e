use Rattle.std.proofs.Common.{◌≡◌}
use Rattle.mqtt_records.specs.state.Records.{changed_all}
use Rattle.mqtt_records.proofs.state.records.Records.change_all.Given as goal

abbrev pub invariant-loop-change : goal.invariant-loop-change
invariant-loop-change l = changed_all l.change-iterator.rest.items l.self ≡ changed_all l.fn.changes.items l.fn.self
