use Rattle.std.proofs.Common.{◌≡◌, ◌++◌, drop, filter, map}
use Rattle.mqtt_records.specs.state.Session.{birth_of}
use Rattle.mqtt_rules.specs.step.State.{is_connected}
use Rattle.mqtt_rules.specs.step.Step.{connected_in}
use Rattle.mqtt_broker.proofs.stored.closing.add_connected.Given as goal

abbrev pub invariant-loop-session : goal.invariant-loop-session
invariant-loop-session l =
    l.births.items ++ map birth_of (filter is_connected (drop l.session-index l.step.broker.records.sessions)) ≡ map birth_of (connected_in l.step.broker.records)
