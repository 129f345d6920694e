use Rattle.mqtt_store_tests.proofs.store.make.Given as goal

abbrev pub invariant-loop-from : goal.invariant-loop-from
invariant-loop-from g l = g.K.Keep.is_loaded l.keep
