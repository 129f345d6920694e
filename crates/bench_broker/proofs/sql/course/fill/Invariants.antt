use Rattle.bench_broker.proofs.sql.course.fill.Given as goal

abbrev pub invariant-loop-birth : goal.invariant-loop-birth
invariant-loop-birth g l = g.K.Keep.is_loaded l.keep
