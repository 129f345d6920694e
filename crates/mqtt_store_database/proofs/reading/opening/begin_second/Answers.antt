use Rattle.std.proofs.Common.{arith, ◌∙◌}
use Rattle.sqlite.specs.Held.{state}
use Rattle.sqlite.specs.State.{HasCleanDisk}
use Rattle.sqlite.proofs.StateLemmas.{survives_then}
use Rattle.mqtt_store_database.proofs.asking_lemmas.Probing.{err_after, schema_after}
use Rattle.mqtt_store_database.proofs.reading.opening.begin_second.Goals as goal

pub returns-in-Ok-clause-made : goal.returns-in-Ok-clause-made
returns-in-Ok-clause-made g c clean schema =
    let less = c.new_second.ensures.crash.clean in
    let mid : HasCleanDisk (state g.S.Store c.probe.new.conn) = omega (arith, less, clean) in
    c.new_second.ensures.made clean (schema_after (state g.S.Store c.args.conn.now) (state g.S.Store c.probe.new.conn) (c.in-Ok.ensures.same mid) ∙ schema)

pub returns-in-Ok-clause-was_open : goal.returns-in-Ok-clause-was_open
returns-in-Ok-clause-was_open g c clean up =
    let less = c.new_second.ensures.crash.clean in
    let mid : HasCleanDisk (state g.S.Store c.probe.new.conn) = omega (arith, less, clean) in
    (c.in-Ok.ensures.same mid).0.was_open

pub returns-in-Ok-clause-err : goal.returns-in-Ok-clause-err
returns-in-Ok-clause-err g c clean schema =
    let less = c.new_second.ensures.crash.clean in
    let mid : HasCleanDisk (state g.S.Store c.probe.new.conn) = omega (arith, less, clean) in
    let same = c.in-Ok.ensures.same mid in
    err_after (state g.S.Store c.args.conn.now) (state g.S.Store c.probe.new.conn) (state g.S.Store c.new_second.new.conn) c.new_second.result same
    (c.new_second.ensures.err clean (schema_after (state g.S.Store c.args.conn.now) (state g.S.Store c.probe.new.conn) same ∙ schema))

pub returns-in-Ok-clause-crash : goal.returns-in-Ok-clause-crash
returns-in-Ok-clause-crash g c =
    let old = state g.S.Store c.args.conn.now in
    let mid = state g.S.Store c.probe.new.conn in
    let less = c.new_second.ensures.crash.clean in
    survives_then old mid (state g.S.Store c.new_second.new.conn) _ _ _ (λ _ db none. absurd none)
    (λ clean db made. let same = c.in-Ok.ensures.same (omega (arith, less, clean)) in (same.0.was_open, λ schema. made (schema_after old mid same ∙ schema)))
    c.probe.ensures.reads.survives c.new_second.ensures.crash
