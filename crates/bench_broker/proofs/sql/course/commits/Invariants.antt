use Rattle.bench_broker.proofs.sql.course.commits.Given as goal

abbrev pub invariant-loop-moment : goal.invariant-loop-moment
invariant-loop-moment g l = g.K.Keep.is_loaded l.keep
