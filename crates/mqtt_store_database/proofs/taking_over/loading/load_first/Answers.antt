use Rattle.std.proofs.Common.{arith}
use Rattle.sqlite.specs.Held.{state}
use Rattle.sqlite.specs.State.{HasCleanDisk}
use Rattle.mqtt_store_database.proofs.loading_lemmas.Left.{refused_load}
use Rattle.mqtt_store_database.proofs.loading_lemmas.Taken.{taken, not_taken}
use Rattle.mqtt_store_database.proofs.taking_over.loading.load_first.Goals as goal

pub returns-in-Err-clause-loads : goal.returns-in-Err-clause-loads
returns-in-Err-clause-loads g c =
    let e = c.first_records_or_refusal.ensures in
    let less = e.reads.survives.clean in
    refused_load g.S.Store c.args.conn.now c.first_records_or_refusal.new.conn c.in-Err.fault c.requires.tidy c.requires.ordered e.reads
    (λ clean. let before : HasCleanDisk (state g.S.Store c.args.conn.now) = omega (arith, less, clean) in c.in-Err.ensures.refused clean (c.requires.schema before) c.requires.tidy)

pub returns-in-Ok-migrate-clause-loads : goal.returns-in-Ok-migrate-clause-loads
returns-in-Ok-migrate-clause-loads g c =
    let old = c.args.conn.now in
    let mid = c.first_records_or_refusal.new.conn in
    let new = c.migrate.new.conn in
    let e = c.first_records_or_refusal.ensures in
    let less = e.reads.survives.clean in
    let before = λ (clean : HasCleanDisk (state g.S.Store mid)). let k : HasCleanDisk (state g.S.Store old) = omega (arith, less, clean) in k in
    taken g.S.Store old mid new c.in-Ok.records c.requires.tidy c.requires.ordered c.schema-schema.ensures.live c.requires.schema e.reads c.in-Ok.ensures.is_open
    (λ clean. c.in-Ok.ensures.ok clean (c.requires.schema (before clean)) (c.requires.tidy ((e.reads.stays clean).was_open (c.in-Ok.ensures.is_open clean))))
    c.migrate.ensures.crash c.migrate.ensures.autocommit c.make_all_slim.new.self c.make_all_slim.ensures c.in-Ok.ensures.lawful c.records_pass_on.ensures
    c.in-Ok-migrate.ensures.ok c.in-Ok-migrate.ensures.settled

pub returns-in-Err-migrate-clause-loads : goal.returns-in-Err-migrate-clause-loads
returns-in-Err-migrate-clause-loads g c =
    let old = c.args.conn.now in
    let mid = c.first_records_or_refusal.new.conn in
    let new = c.migrate.new.conn in
    let e = c.first_records_or_refusal.ensures in
    let less = e.reads.survives.clean in
    let before = λ (clean : HasCleanDisk (state g.S.Store mid)). let k : HasCleanDisk (state g.S.Store old) = omega (arith, less, clean) in k in
    not_taken g.S.Store old mid new c.in-Ok.records c.requires.tidy c.requires.ordered c.schema-schema.ensures.live c.requires.schema e.reads c.in-Ok.ensures.is_open
    (λ clean. c.in-Ok.ensures.ok clean (c.requires.schema (before clean)) (c.requires.tidy ((e.reads.stays clean).was_open (c.in-Ok.ensures.is_open clean))))
    c.migrate.ensures.crash c.migrate.ensures.autocommit c.fault_of.result c.fault_of.ensures.only (λ clean settled up. (c.in-Err-migrate.ensures.err clean settled up).0)
