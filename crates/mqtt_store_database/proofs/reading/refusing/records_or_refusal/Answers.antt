use Rattle.std.proofs.Common.{ap, inl, inr, arith, Err}
use Rattle.sqlite.specs.Held.{state}
use Rattle.sqlite.specs.State.{HasCleanDisk}
use Rattle.mqtt_store_database.proofs.reading_lemmas.Refused.{refusal_is}
use Rattle.mqtt_store_database.proofs.reading.refusing.records_or_refusal.Goals as goal

pub returns-in-Err-Corrupt-clause-refused : goal.returns-in-Err-Corrupt-clause-refused
returns-in-Err-Corrupt-clause-refused g c clean schema settled =
    let e = c.in-Err-Corrupt.ensures in
    let asked = c.refusal_of.ensures in
    let less = asked.reads.survives.clean in
    let tidy : HasCleanDisk (state g.S.Store c.records_in.new.conn) = omega (arith, less, clean) in
    let is = ap Err c.in-Err-Corrupt.field-0-is in
    let up = (e.is_open tidy).1 is in
    let stays = e.reads.stays tidy in
    let before = settled (stays.was_open up) in
    refusal_is g.S.Store c.args.conn.now c.records_in.new.conn c.refusal_of.new.conn c.refusal_of.result (inr (inl (c.args.making, schema, e.err tidy schema before is))) (stays.same up before).0 asked.only (asked.corrupt clean) (asked.schema clean)
