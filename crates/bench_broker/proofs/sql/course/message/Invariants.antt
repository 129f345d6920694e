use Rattle.bench_broker.proofs.sql.course.message.Given as goal

abbrev pub invariant-loop-at : goal.invariant-loop-at
invariant-loop-at g l = g.K.Keep.is_loaded l.keep
