use Rattle.mqtt_broker_tests.proofs.run.tell_waiting.Given as goal

-- changes and questions can be asked of the store
abbrev pub invariant-loop-session : goal.invariant-loop-session
invariant-loop-session g l = g.K.Keep.is_loaded l.keep
