use Rattle.std.proofs.Common.{IsTrue, sym, subst, ◌∙◌, inl, inr, arith}
use Rattle.sqlite.specs.Effect.{Database}
use Rattle.sqlite.specs.Held.{state}
use Rattle.sqlite.specs.State.{HasCleanDisk}
use Rattle.sqlite.proofs.StateLemmas.{survives_then}
use Rattle.mqtt_records.specs.state.Records.{changed_all}
use Rattle.mqtt_store_tables.specs.declared.schema.tables.Making.{Making}
use Rattle.mqtt_store_tables.specs.declared.schema.tables.Making.TheVariants.{New}
use Rattle.mqtt_store_database.specs.written.Shortened.{shortened}
use Rattle.mqtt_store_database.specs.committing.Making.{MayCommit}
use Rattle.mqtt_store_database.specs.loading.Keeping.{AreOrdered}
use Rattle.mqtt_store_database.proofs.loading_lemmas.Order.{order_of, laid_out}
use Rattle.mqtt_store.proofs.Held.{has_now, step_leaves}
use Rattle.mqtt_store.proofs.Applies.{settled_of, ready_of, ready_still, IsEither, needs_old, kept_made, kept_same, only_steps}
use Rattle.mqtt_store.proofs.apply.apply_all.Goals as goal

pub returns-in-Ok-clause-ordered : goal.returns-in-Ok-clause-ordered
returns-in-Ok-clause-ordered g c clean up =
    let old = state g.S.Store c.args.conn.now in
    let mid = state g.S.Store c.commit_changes.new.conn in
    let changes = c.args.changes.now in
    let e = c.commit_changes.ensures in
    let live = c.schema-schema.ensures.live in
    let ready = c.requires.loaded in
    let ordered = λ (clean : HasCleanDisk old). let h : AreOrdered old.now = c.requires.ordered clean (ready clean).is_open in h in
    let full = λ (clean : HasCleanDisk old). settled_of old (ready clean) (ordered clean) live in
    let first = λ (clean : HasCleanDisk mid). let less = (e.crash New).clean in let k : HasCleanDisk old = omega (arith, less, clean) in k in
    let before = first clean in
    order_of (ready before).making mid (c.in-Ok.ensures.settled (ready before).making clean (full before))

pub returns-in-Ok-clause-loaded : goal.returns-in-Ok-clause-loaded
returns-in-Ok-clause-loaded g c clean =
    let old = state g.S.Store c.args.conn.now in
    let mid = state g.S.Store c.commit_changes.new.conn in
    let changes = c.args.changes.now in
    let e = c.commit_changes.ensures in
    let live = c.schema-schema.ensures.live in
    let ready = c.requires.loaded in
    let ordered = λ (clean : HasCleanDisk old). let h : AreOrdered old.now = c.requires.ordered clean (ready clean).is_open in h in
    let full = λ (clean : HasCleanDisk old). settled_of old (ready clean) (ordered clean) live in
    let first = λ (clean : HasCleanDisk mid). let less = (e.crash New).clean in let k : HasCleanDisk old = omega (arith, less, clean) in k in
    let before = first clean in
    ready_of (ready before).making mid (c.in-Ok.ensures.settled (ready before).making clean (full before)) e.autocommit

pub returns-in-Ok-clause-ok : goal.returns-in-Ok-clause-ok
returns-in-Ok-clause-ok g c =
    let old = state g.S.Store c.args.conn.now in
    let mid = state g.S.Store c.commit_changes.new.conn in
    let changes = c.args.changes.now in
    let e = c.commit_changes.ensures in
    let live = c.schema-schema.ensures.live in
    let ready = c.requires.loaded in
    let ordered = λ (clean : HasCleanDisk old). let h : AreOrdered old.now = c.requires.ordered clean (ready clean).is_open in h in
    let full = λ (clean : HasCleanDisk old). settled_of old (ready clean) (ordered clean) live in
    let first = λ (clean : HasCleanDisk mid). let less = (e.crash New).clean in let k : HasCleanDisk old = omega (arith, less, clean) in k in
    λ r holds fit agree say clean.
    let before = first clean in
    let making = (ready before).making in
    let settled = c.in-Ok.ensures.settled making clean (full before) in
    let made = c.in-Ok.ensures.ok making clean (full before) (needs_old old changes r ready ordered live holds fit agree say before) in
    has_now mid (changed_all changes r) (λ up db. g.met.S.Store.settled c.commit_changes.new.conn.store db up)
    (kept_made old changes r ready ordered live holds fit agree say before mid settled e.autocommit made) clean

pub returns-in-Ok-clause-crash : goal.returns-in-Ok-clause-crash
returns-in-Ok-clause-crash g c =
    let old = state g.S.Store c.args.conn.now in
    let mid = state g.S.Store c.commit_changes.new.conn in
    let changes = c.args.changes.now in
    let e = c.commit_changes.ensures in
    let live = c.schema-schema.ensures.live in
    let ready = c.requires.loaded in
    let ordered = λ (clean : HasCleanDisk old). let h : AreOrdered old.now = c.requires.ordered clean (ready clean).is_open in h in
    let full = λ (clean : HasCleanDisk old). settled_of old (ready clean) (ordered clean) live in
    let first = λ (clean : HasCleanDisk mid). let less = (e.crash New).clean in let k : HasCleanDisk old = omega (arith, less, clean) in k in
    λ r left holds fit agree say found.
    let either = λ (before : HasCleanDisk old) (clean : HasCleanDisk mid) (up : IsTrue mid.is_open).
    let making = (ready before).making in
    let it : IsEither old changes r ready ordered live holds fit agree say before mid = inr ((c.in-Ok.ensures.settled making clean (full before)).schema ∙ sym (laid_out making), λ needs. c.in-Ok.ensures.ok making clean (full before) needs) in
    it in
    step_leaves old mid (changed_all changes r) left (only_steps old changes r ready ordered live holds fit agree say mid e.crash either) found

pub returns-in-Ok-probe-clause-same : goal.returns-in-Ok-probe-clause-same
returns-in-Ok-probe-clause-same g c which =
    let old = state g.S.Store c.args.conn.now in
    let mid = state g.S.Store c.commit_changes.new.conn in
    let changes = c.args.changes.now in
    let e = c.commit_changes.ensures in
    let live = c.schema-schema.ensures.live in
    let ready = c.requires.loaded in
    let ordered = λ (clean : HasCleanDisk old). let h : AreOrdered old.now = c.requires.ordered clean (ready clean).is_open in h in
    let full = λ (clean : HasCleanDisk old). settled_of old (ready clean) (ordered clean) live in
    let first = λ (clean : HasCleanDisk mid). let less = (e.crash New).clean in let k : HasCleanDisk old = omega (arith, less, clean) in k in
    let new = state g.S.Store c.probe.new.conn in
    let reads = c.probe.ensures.reads in
    let second = λ (clean : HasCleanDisk new). let less = reads.survives.clean in let k : HasCleanDisk mid = omega (arith, less, clean) in k in
    let err = λ (clean : HasCleanDisk new).
    let before = first (second clean) in
    c.in-Err.ensures.err (ready before).making (second clean) (full before) (c.in-Ok-probe.ensures.same clean).0.was_open in
    let now = λ (clean : HasCleanDisk new). ready_still mid new (ready_of (ready (first (second clean))).making mid (err clean).1 e.autocommit) (c.in-Ok-probe.ensures.same clean) in (
      now,
      λ r holds clean.
          let same = (c.in-Ok-probe.ensures.same clean).0.now_is ∙ (err clean).0 in
          has_now new r (λ up db. g.met.S.Store.settled c.probe.new.conn.store db up) (kept_same old changes r ready ordered live holds (first (second clean)) new (now clean) same) clean,
    )

pub returns-in-Ok-probe-clause-ordered : goal.returns-in-Ok-probe-clause-ordered
returns-in-Ok-probe-clause-ordered g c clean up =
    let old = state g.S.Store c.args.conn.now in
    let mid = state g.S.Store c.commit_changes.new.conn in
    let changes = c.args.changes.now in
    let e = c.commit_changes.ensures in
    let live = c.schema-schema.ensures.live in
    let ready = c.requires.loaded in
    let ordered = λ (clean : HasCleanDisk old). let h : AreOrdered old.now = c.requires.ordered clean (ready clean).is_open in h in
    let full = λ (clean : HasCleanDisk old). settled_of old (ready clean) (ordered clean) live in
    let first = λ (clean : HasCleanDisk mid). let less = (e.crash New).clean in let k : HasCleanDisk old = omega (arith, less, clean) in k in
    let new = state g.S.Store c.probe.new.conn in
    let reads = c.probe.ensures.reads in
    let second = λ (clean : HasCleanDisk new). let less = reads.survives.clean in let k : HasCleanDisk mid = omega (arith, less, clean) in k in
    let stays = reads.stays clean in
    let before = first (second clean) in
    let err = c.in-Err.ensures.err (ready before).making (second clean) (full before) (stays.was_open up) in
    let same = stays.same up (record { committed = err.1.same; autocommit = e.autocommit }) in
    subst (λ (d : Database). AreOrdered d) (sym (same.0 ∙ err.0)) (ordered before)

pub returns-in-Ok-probe-clause-crash : goal.returns-in-Ok-probe-clause-crash
returns-in-Ok-probe-clause-crash g c =
    let old = state g.S.Store c.args.conn.now in
    let mid = state g.S.Store c.commit_changes.new.conn in
    let changes = c.args.changes.now in
    let e = c.commit_changes.ensures in
    let live = c.schema-schema.ensures.live in
    let ready = c.requires.loaded in
    let ordered = λ (clean : HasCleanDisk old). let h : AreOrdered old.now = c.requires.ordered clean (ready clean).is_open in h in
    let full = λ (clean : HasCleanDisk old). settled_of old (ready clean) (ordered clean) live in
    let first = λ (clean : HasCleanDisk mid). let less = (e.crash New).clean in let k : HasCleanDisk old = omega (arith, less, clean) in k in
    let new = state g.S.Store c.probe.new.conn in
    let reads = c.probe.ensures.reads in
    let second = λ (clean : HasCleanDisk new). let less = reads.survives.clean in let k : HasCleanDisk mid = omega (arith, less, clean) in k in
    λ r left holds fit agree say found.
    let it = λ (making : Making). survives_then old mid new (MayCommit making old (shortened changes)) (λ _. ⊥) (MayCommit making old (shortened changes)) (λ _ db h. h) (λ _ db none. absurd none) (e.crash making) reads.survives in
    let either = λ (before : HasCleanDisk old) (clean : HasCleanDisk new) (up : IsTrue new.is_open).
    let stays = reads.stays clean in
    let err = c.in-Err.ensures.err (ready before).making (second clean) (full before) (stays.was_open up) in
    let same = stays.same up (record { committed = err.1.same; autocommit = e.autocommit }) in
    let one : IsEither old changes r ready ordered live holds fit agree say before new = inl (same.0 ∙ err.0) in
    one in
    step_leaves old new (changed_all changes r) left (only_steps old changes r ready ordered live holds fit agree say new it either) found

pub returns-in-Err-probe-clause-ordered : goal.returns-in-Err-probe-clause-ordered
returns-in-Err-probe-clause-ordered g c clean up =
    let old = state g.S.Store c.args.conn.now in
    let mid = state g.S.Store c.commit_changes.new.conn in
    let changes = c.args.changes.now in
    let e = c.commit_changes.ensures in
    let live = c.schema-schema.ensures.live in
    let ready = c.requires.loaded in
    let ordered = λ (clean : HasCleanDisk old). let h : AreOrdered old.now = c.requires.ordered clean (ready clean).is_open in h in
    let full = λ (clean : HasCleanDisk old). settled_of old (ready clean) (ordered clean) live in
    let first = λ (clean : HasCleanDisk mid). let less = (e.crash New).clean in let k : HasCleanDisk old = omega (arith, less, clean) in k in
    let new = state g.S.Store c.probe.new.conn in
    let reads = c.probe.ensures.reads in
    let second = λ (clean : HasCleanDisk new). let less = reads.survives.clean in let k : HasCleanDisk mid = omega (arith, less, clean) in k in
    let stays = reads.stays clean in
    let before = first (second clean) in
    let err = c.in-Err.ensures.err (ready before).making (second clean) (full before) (stays.was_open up) in
    let same = stays.same up (record { committed = err.1.same; autocommit = e.autocommit }) in
    subst (λ (d : Database). AreOrdered d) (sym (same.0 ∙ err.0)) (ordered before)

pub returns-in-Err-probe-clause-crash : goal.returns-in-Err-probe-clause-crash
returns-in-Err-probe-clause-crash g c =
    let old = state g.S.Store c.args.conn.now in
    let mid = state g.S.Store c.commit_changes.new.conn in
    let changes = c.args.changes.now in
    let e = c.commit_changes.ensures in
    let live = c.schema-schema.ensures.live in
    let ready = c.requires.loaded in
    let ordered = λ (clean : HasCleanDisk old). let h : AreOrdered old.now = c.requires.ordered clean (ready clean).is_open in h in
    let full = λ (clean : HasCleanDisk old). settled_of old (ready clean) (ordered clean) live in
    let first = λ (clean : HasCleanDisk mid). let less = (e.crash New).clean in let k : HasCleanDisk old = omega (arith, less, clean) in k in
    let new = state g.S.Store c.probe.new.conn in
    let reads = c.probe.ensures.reads in
    let second = λ (clean : HasCleanDisk new). let less = reads.survives.clean in let k : HasCleanDisk mid = omega (arith, less, clean) in k in
    λ r left holds fit agree say found.
    let it = λ (making : Making). survives_then old mid new (MayCommit making old (shortened changes)) (λ _. ⊥) (MayCommit making old (shortened changes)) (λ _ db h. h) (λ _ db none. absurd none) (e.crash making) reads.survives in
    let either = λ (before : HasCleanDisk old) (clean : HasCleanDisk new) (up : IsTrue new.is_open).
    let stays = reads.stays clean in
    let err = c.in-Err.ensures.err (ready before).making (second clean) (full before) (stays.was_open up) in
    let same = stays.same up (record { committed = err.1.same; autocommit = e.autocommit }) in
    let one : IsEither old changes r ready ordered live holds fit agree say before new = inl (same.0 ∙ err.0) in
    one in
    step_leaves old new (changed_all changes r) left (only_steps old changes r ready ordered live holds fit agree say new it either) found

pub returns-in-Ok-clause-sound : goal.returns-in-Ok-clause-sound
returns-in-Ok-clause-sound g c =
    let less = (c.commit_changes.ensures.crash New).clean in
    λ clean. omega (arith, less, clean)

pub returns-in-Ok-probe-clause-sound : goal.returns-in-Ok-probe-clause-sound
returns-in-Ok-probe-clause-sound g c =
    let less = (c.commit_changes.ensures.crash New).clean in
    let more = c.probe.ensures.reads.survives.clean in
    λ clean. omega (arith, less, more, clean)

pub returns-in-Err-probe-clause-sound : goal.returns-in-Err-probe-clause-sound
returns-in-Err-probe-clause-sound g c =
    let less = (c.commit_changes.ensures.crash New).clean in
    let more = c.probe.ensures.reads.survives.clean in
    λ clean. omega (arith, less, more, clean)
