use Rattle.bench_broker.proofs.sql.course.messages.Given as goal

abbrev pub invariant-loop-turn : goal.invariant-loop-turn
invariant-loop-turn g l = g.K.Keep.is_loaded l.keep
