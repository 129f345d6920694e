use Rattle.std.proofs.Common.{arith}
use Rattle.sqlite.specs.Held.{state}
use Rattle.mqtt_store_tables.proofs.forms_lemmas.Staying.{reads_then}
use Rattle.mqtt_store_tables.specs.schema.Tables.{second_schema}
use Rattle.mqtt_store_database.proofs.loading_lemmas.One.{second_keeps}
use Rattle.mqtt_store_database.proofs.loading_lemmas.Order.{shaped_in, second_order}
use Rattle.mqtt_store.proofs.Asked.{clean_before, reads_holds, reads_leaves, reads_ordered, reads_ready}
use Rattle.mqtt_store.proofs.contents.read_contents.Goals as goal

pub returns-in-Ok-clause-exact : goal.returns-in-Ok-clause-exact
returns-in-Ok-clause-exact g c r holds clean =
    let old = state g.S.Store c.args.conn.now in
    let before = clean_before old (state g.S.Store c.contents_in.new.conn) c.contents_in.ensures.reads c.requires.loaded clean in
    let ready = c.requires.loaded before in
    let making = ready.making in
    let order = second_order making old.now.trees (shaped_in (second_schema making) old.now ready.schema (c.requires.ordered before ready.is_open)) in
    let keeps = second_keeps making old.now r ready.schema ((holds before).keeps ready.is_open) in
    let birth = c.if-birth.false in
    let place = c.if-place.false in
    c.in-Ok.ensures.written making r clean ready.schema order keeps (omega (arith, birth)) (omega (arith, place))

pub returns-in-Ok-clause-autocommit : goal.returns-in-Ok-clause-autocommit
returns-in-Ok-clause-autocommit g c =
    let old = state g.S.Store c.args.conn.now in
    let new = state g.S.Store c.contents_in.new.conn in
    let reads = c.contents_in.ensures.reads in
    reads.mode c.requires.autocommit

pub returns-in-Ok-clause-ordered : goal.returns-in-Ok-clause-ordered
returns-in-Ok-clause-ordered g c =
    let old = state g.S.Store c.args.conn.now in
    let new = state g.S.Store c.contents_in.new.conn in
    let reads = c.contents_in.ensures.reads in
    reads_ordered old new reads c.requires.loaded c.requires.ordered

pub returns-in-Ok-clause-same : goal.returns-in-Ok-clause-same
returns-in-Ok-clause-same g c =
    let old = state g.S.Store c.args.conn.now in
    let new = state g.S.Store c.contents_in.new.conn in
    let reads = c.contents_in.ensures.reads in
    reads_holds old new reads c.requires.loaded

pub returns-in-Ok-clause-crash : goal.returns-in-Ok-clause-crash
returns-in-Ok-clause-crash g c =
    let old = state g.S.Store c.args.conn.now in
    let new = state g.S.Store c.contents_in.new.conn in
    let reads = c.contents_in.ensures.reads in
    reads_leaves old new reads c.requires.loaded

pub returns-in-Ok-clause-sound : goal.returns-in-Ok-clause-sound
returns-in-Ok-clause-sound g c =
    let old = state g.S.Store c.args.conn.now in
    let new = state g.S.Store c.contents_in.new.conn in
    let reads = c.contents_in.ensures.reads in
    clean_before old new reads c.requires.loaded

pub returns-in-Ok-clause-loaded : goal.returns-in-Ok-clause-loaded
returns-in-Ok-clause-loaded g c =
    let old = state g.S.Store c.args.conn.now in
    let new = state g.S.Store c.contents_in.new.conn in
    let reads = c.contents_in.ensures.reads in
    reads_ready old new reads c.requires.loaded (λ clean. (c.in-Ok.ensures.is_open clean).0)

pub returns-in-Err-clause-autocommit : goal.returns-in-Err-clause-autocommit
returns-in-Err-clause-autocommit g c =
    let old = state g.S.Store c.args.conn.now in
    let new = state g.S.Store c.contents_in.new.conn in
    let reads = c.contents_in.ensures.reads in
    reads.mode c.requires.autocommit

pub returns-in-Err-clause-ordered : goal.returns-in-Err-clause-ordered
returns-in-Err-clause-ordered g c =
    let old = state g.S.Store c.args.conn.now in
    let new = state g.S.Store c.contents_in.new.conn in
    let reads = c.contents_in.ensures.reads in
    reads_ordered old new reads c.requires.loaded c.requires.ordered

pub returns-in-Err-clause-same : goal.returns-in-Err-clause-same
returns-in-Err-clause-same g c =
    let old = state g.S.Store c.args.conn.now in
    let new = state g.S.Store c.contents_in.new.conn in
    let reads = c.contents_in.ensures.reads in
    reads_holds old new reads c.requires.loaded

pub returns-in-Err-clause-crash : goal.returns-in-Err-clause-crash
returns-in-Err-clause-crash g c =
    let old = state g.S.Store c.args.conn.now in
    let new = state g.S.Store c.contents_in.new.conn in
    let reads = c.contents_in.ensures.reads in
    reads_leaves old new reads c.requires.loaded

pub returns-in-Err-clause-sound : goal.returns-in-Err-clause-sound
returns-in-Err-clause-sound g c =
    let old = state g.S.Store c.args.conn.now in
    let new = state g.S.Store c.contents_in.new.conn in
    let reads = c.contents_in.ensures.reads in
    clean_before old new reads c.requires.loaded

pub returns-in-Ok-probe-clause-autocommit : goal.returns-in-Ok-probe-clause-autocommit
returns-in-Ok-probe-clause-autocommit g c =
    let old = state g.S.Store c.args.conn.now in
    let new = state g.S.Store c.probe.new.conn in
    let reads = reads_then old (state g.S.Store c.contents_in.new.conn) new c.contents_in.ensures.reads c.probe.ensures.reads in
    reads.mode c.requires.autocommit

pub returns-in-Ok-probe-clause-ordered : goal.returns-in-Ok-probe-clause-ordered
returns-in-Ok-probe-clause-ordered g c =
    let old = state g.S.Store c.args.conn.now in
    let new = state g.S.Store c.probe.new.conn in
    let reads = reads_then old (state g.S.Store c.contents_in.new.conn) new c.contents_in.ensures.reads c.probe.ensures.reads in
    reads_ordered old new reads c.requires.loaded c.requires.ordered

pub returns-in-Ok-probe-clause-same : goal.returns-in-Ok-probe-clause-same
returns-in-Ok-probe-clause-same g c =
    let old = state g.S.Store c.args.conn.now in
    let new = state g.S.Store c.probe.new.conn in
    let reads = reads_then old (state g.S.Store c.contents_in.new.conn) new c.contents_in.ensures.reads c.probe.ensures.reads in
    reads_holds old new reads c.requires.loaded

pub returns-in-Ok-probe-clause-crash : goal.returns-in-Ok-probe-clause-crash
returns-in-Ok-probe-clause-crash g c =
    let old = state g.S.Store c.args.conn.now in
    let new = state g.S.Store c.probe.new.conn in
    let reads = reads_then old (state g.S.Store c.contents_in.new.conn) new c.contents_in.ensures.reads c.probe.ensures.reads in
    reads_leaves old new reads c.requires.loaded

pub returns-in-Ok-probe-clause-sound : goal.returns-in-Ok-probe-clause-sound
returns-in-Ok-probe-clause-sound g c =
    let old = state g.S.Store c.args.conn.now in
    let new = state g.S.Store c.probe.new.conn in
    let reads = reads_then old (state g.S.Store c.contents_in.new.conn) new c.contents_in.ensures.reads c.probe.ensures.reads in
    clean_before old new reads c.requires.loaded

pub returns-in-Ok-probe-clause-memory : goal.returns-in-Ok-probe-clause-memory
returns-in-Ok-probe-clause-memory g c told =
    let old = state g.S.Store c.args.conn.now in
    let new = state g.S.Store c.probe.new.conn in
    let reads = reads_then old (state g.S.Store c.contents_in.new.conn) new c.contents_in.ensures.reads c.probe.ensures.reads in
    reads_ready old new reads c.requires.loaded (λ clean. (c.in-Ok-probe.ensures.same clean).0.is_open)

pub returns-in-Err-probe-clause-autocommit : goal.returns-in-Err-probe-clause-autocommit
returns-in-Err-probe-clause-autocommit g c =
    let old = state g.S.Store c.args.conn.now in
    let new = state g.S.Store c.probe.new.conn in
    let reads = reads_then old (state g.S.Store c.contents_in.new.conn) new c.contents_in.ensures.reads c.probe.ensures.reads in
    reads.mode c.requires.autocommit

pub returns-in-Err-probe-clause-ordered : goal.returns-in-Err-probe-clause-ordered
returns-in-Err-probe-clause-ordered g c =
    let old = state g.S.Store c.args.conn.now in
    let new = state g.S.Store c.probe.new.conn in
    let reads = reads_then old (state g.S.Store c.contents_in.new.conn) new c.contents_in.ensures.reads c.probe.ensures.reads in
    reads_ordered old new reads c.requires.loaded c.requires.ordered

pub returns-in-Err-probe-clause-same : goal.returns-in-Err-probe-clause-same
returns-in-Err-probe-clause-same g c =
    let old = state g.S.Store c.args.conn.now in
    let new = state g.S.Store c.probe.new.conn in
    let reads = reads_then old (state g.S.Store c.contents_in.new.conn) new c.contents_in.ensures.reads c.probe.ensures.reads in
    reads_holds old new reads c.requires.loaded

pub returns-in-Err-probe-clause-crash : goal.returns-in-Err-probe-clause-crash
returns-in-Err-probe-clause-crash g c =
    let old = state g.S.Store c.args.conn.now in
    let new = state g.S.Store c.probe.new.conn in
    let reads = reads_then old (state g.S.Store c.contents_in.new.conn) new c.contents_in.ensures.reads c.probe.ensures.reads in
    reads_leaves old new reads c.requires.loaded

pub returns-in-Err-probe-clause-sound : goal.returns-in-Err-probe-clause-sound
returns-in-Err-probe-clause-sound g c =
    let old = state g.S.Store c.args.conn.now in
    let new = state g.S.Store c.probe.new.conn in
    let reads = reads_then old (state g.S.Store c.contents_in.new.conn) new c.contents_in.ensures.reads c.probe.ensures.reads in
    clean_before old new reads c.requires.loaded
