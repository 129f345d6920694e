use Rattle.mqtt_store_tests.proofs.told.ask_all.Given as goal

-- changes and questions can be asked of the store
abbrev pub invariant-loop-birth : goal.invariant-loop-birth
invariant-loop-birth g l = g.K.Keep.is_loaded l.keep
